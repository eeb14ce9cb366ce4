-- Going over the bodies of a batch one by one.
use Rattle.std.proofs.Common.{◌≡◌, ℕ, suc, map, List, [], ◌∷◌, ◌++◌, Ok, Err, refl, sym, ap, ◌∙◌, append_assoc}
use Rattle.std.proofs.lemmas.List.{append-nil, map-append}
use Rattle.std.proofs.lemmas.List.Concat.{flat_map-append}
use Rattle.std.specs.Global.{Vec}
use Rattle.file_laws.specs.Reading.{◌>>=◌, body_at, bodies_at}
use Rattle.file_laws.specs.declared.batch_fault.BatchFault.{BatchFault}
use Rattle.file_laws.proofs.BodiesRead.{Bodies, Read, with_front, no_front, before_them}
use Rattle.file_listing.specs.BodyLines.{HasLinesOf, body_line, body_lines}

pub moved : (front : Bodies) (body : List ℕ) (read : Read) → with_front front (read >>= before_them body) ≡ with_front (front ++ body ∷ []) read
moved front body (Ok x) = ap (λ (bodies : Bodies). let r : Read = Ok (bodies, x.1) in r) (sym (append_assoc front (body ∷ []) x.0))
moved front body (Err e) = refl

-- a body is read, and then the others
pub one_read : (n : ℕ) (rest body behind : List ℕ) → body_at rest ≡ Ok (body, behind) → bodies_at (suc n) rest ≡ (bodies_at n behind >>= before_them body)
unfolding bodies_at
one_read n rest body behind read = rw read refl

pub one_failed : (n : ℕ) (rest : List ℕ) (e : BatchFault) → body_at rest ≡ Err e → bodies_at (suc n) rest ≡ Err e
unfolding bodies_at
one_failed n rest e read = rw read refl

pub none_read : (rest : List ℕ) → bodies_at 0 rest ≡ Ok ([], rest)
unfolding bodies_at
none_read rest = refl

-- this is the text of the bodies so far; with so many more of the bytes that are left they are those of all
abbrev pub SoFar : ℕ → List ℕ → ℕ → List ℕ → List ℕ → Type 0
SoFar count bytes left rest text =
    (bodies : Bodies) × (bodies_at count bytes ≡ with_front bodies (bodies_at left rest)) × (text ≡ body_lines bodies)

pub starts : (count : ℕ) (bytes : List ℕ) → SoFar count bytes count bytes []
starts count bytes = ([], sym (no_front (bodies_at count bytes)), refl)

pub goes_on : (count : ℕ) (bytes : List ℕ) (left more : ℕ) (rest body behind text after : List ℕ) → left ≡ suc more → body_at rest ≡ Ok (body, behind)
    → after ≡ text ++ body_line body → SoFar count bytes left rest text → SoFar count bytes more behind after
goes_on count bytes left more rest body behind text after one read added so =
    let next : bodies_at left rest ≡ (bodies_at more behind >>= before_them body) = ap (λ (n : ℕ). bodies_at n rest) one ∙ one_read more rest body behind read in
    let lines : body_lines (so.0 ++ body ∷ []) ≡ body_lines so.0 ++ body_line body =
    flat_map-append body_line so.0 (body ∷ []) ∙ ap (λ (x : List ℕ). body_lines so.0 ++ x) (append-nil (body_line body)) in (
      so.0 ++ body ∷ [],
      so.1 ∙ ap (with_front so.0) next ∙ moved so.0 body (bodies_at more behind),
      added ∙ ap (λ (x : List ℕ). x ++ body_line body) so.2 ∙ sym lines,
    )

pub fails : (count : ℕ) (bytes : List ℕ) (left more : ℕ) (rest text : List ℕ) (e : BatchFault) → left ≡ suc more → body_at rest ≡ Err e
    → SoFar count bytes left rest text → bodies_at count bytes ≡ Err e
fails count bytes left more rest text e one read so =
    so.1 ∙ ap (with_front so.0) (ap (λ (n : ℕ). bodies_at n rest) one ∙ one_failed more rest e read)

pub ends : (count : ℕ) (bytes : List ℕ) (left : ℕ) (rest text : List ℕ) → left ≡ 0 → SoFar count bytes left rest text → HasLinesOf count bytes text rest
ends count bytes left rest text none so = (
  so.0,
  so.1 ∙ ap (with_front so.0) (ap (λ (n : ℕ). bodies_at n rest) none ∙ none_read rest)
      ∙ ap (λ (bodies : Bodies). let r : Read = Ok (bodies, rest) in r) (append-nil so.0),
  so.2,
)

-- the same of bodies that are kept one by one
abbrev pub kept : List (Vec ℕ) → Bodies
kept bodies = map (λ body. body.items) bodies

abbrev pub Cut : ℕ → List ℕ → ℕ → List ℕ → List (Vec ℕ) → Type 0
Cut count bytes left rest bodies = bodies_at count bytes ≡ with_front (kept bodies) (bodies_at left rest)

pub cut_more : (count : ℕ) (bytes : List ℕ) (left more : ℕ) (rest body behind : List ℕ) (bodies : List (Vec ℕ)) (copy : Vec ℕ) → left ≡ suc more → body_at rest ≡ Ok (body, behind)
    → copy.items ≡ body → Cut count bytes left rest bodies → Cut count bytes more behind (bodies ++ copy ∷ [])
cut_more count bytes left more rest body behind bodies copy one read same so =
    let next : bodies_at left rest ≡ (bodies_at more behind >>= before_them body) = ap (λ (n : ℕ). bodies_at n rest) one ∙ one_read more rest body behind read in
    let all : kept bodies ++ body ∷ [] ≡ kept (bodies ++ copy ∷ []) =
    ap (λ (x : List ℕ). kept bodies ++ x ∷ []) (sym same) ∙ sym (map-append (λ (b : Vec ℕ). b.items) bodies (copy ∷ [])) in
    so ∙ ap (with_front (kept bodies)) next ∙ moved (kept bodies) body (bodies_at more behind) ∙ ap (λ (front : Bodies). with_front front (bodies_at more behind)) all

pub cut_fails : (count : ℕ) (bytes : List ℕ) (left more : ℕ) (rest : List ℕ) (bodies : List (Vec ℕ)) (e : BatchFault) → left ≡ suc more → body_at rest ≡ Err e
    → Cut count bytes left rest bodies → bodies_at count bytes ≡ Err e
cut_fails count bytes left more rest bodies e one read so =
    so ∙ ap (with_front (kept bodies)) (ap (λ (n : ℕ). bodies_at n rest) one ∙ one_failed more rest e read)

pub cut_ends : (count : ℕ) (bytes : List ℕ) (left : ℕ) (rest : List ℕ) (bodies : List (Vec ℕ)) → left ≡ 0 → Cut count bytes left rest bodies
    → bodies_at count bytes ≡ Ok (kept bodies, rest)
cut_ends count bytes left rest bodies none so =
    so ∙ ap (with_front (kept bodies)) (ap (λ (n : ℕ). bodies_at n rest) none ∙ none_read rest)
    ∙ ap (λ (front : Bodies). let r : Read = Ok (front, rest) in r) (append-nil (kept bodies))
