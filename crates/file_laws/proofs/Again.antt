-- What is framed is read again.
use Rattle.std.proofs.Common.{◌≡◌, ℕ, suc, ◌<◌, ◌≤◌, true, false, ltb, eqb, List, [], ◌∷◌, ◌++◌, length, Ok, refl, sym, ap, ◌∙◌, append_assoc, arith, Result}
use Rattle.std.specs.List.{flat_map, AllByRecursion}
use Rattle.std.proofs.lemmas.Bool.{le-ltb, ne_eqb}
use Rattle.std.specs.Str.{bytes_eq}
use Rattle.std.proofs.lemmas.List.{take_at, drop_at, length-append, append-nil}
use Rattle.std.proofs.lemmas.List.Concat.{flat_map-append}
use Rattle.byteorder.specs.Endian.{big_number, big_bytes}
use Rattle.file_laws.specs.Files.{framed, head_text, IsBody, AreBodies, IsBatch}
use Rattle.file_laws.specs.Reading.{field_at, number_at, magic_at, version_at, count_at, head_at, length_at, body_at, bodies_at, bodies_of, batch_magic}
use Rattle.file_laws.specs.declared.batch_fault.BatchFault.{BatchFault}
use Rattle.file_laws.proofs.Steps.{ok_injective}

pub field_again : (text rest : List ℕ) (size : ℕ) → length text ≡ size → field_at size (text ++ rest) ≡ Ok (text, rest)
field_again text rest size len =
    let long : ltb (length (text ++ rest)) size ≡ false = le-ltb _ _ (omega (arith, length-append text rest, len)) in
    rw (long, take_at text rest size len, drop_at text rest size len) refl

short_again : (n : ℕ) → n < 65536 → big_number 2 (big_bytes 2 n) ≡ n
short_again n lt = omega arith

long_again : (n : ℕ) → n < 4294967296 → big_number 4 (big_bytes 4 n) ≡ n
long_again n lt = omega arith

number_2 : (n : ℕ) (rest : List ℕ) → n < 65536 → number_at 2 (big_bytes 2 n ++ rest) ≡ Ok (n, rest)
unfolding number_at
number_2 n rest lt = rw (field_again (big_bytes 2 n) rest 2 refl, short_again n lt) refl

pub number_4 : (n : ℕ) (rest : List ℕ) → n < 4294967296 → number_at 4 (big_bytes 4 n ++ rest) ≡ Ok (n, rest)
unfolding number_at
number_4 n rest lt = rw (field_again (big_bytes 4 n) rest 4 refl, long_again n lt) refl

pub magic_again : (magic rest : List ℕ) → length magic ≡ 4 → bytes_eq magic magic ≡ true → magic_at magic (magic ++ rest) ≡ Ok (magic, rest)
unfolding magic_at
magic_again magic rest len same = rw (field_again magic rest 4 len, same) refl

pub version_again : (rest : List ℕ) → version_at (big_bytes 2 1 ++ rest) ≡ Ok (1, rest)
unfolding version_at
version_again rest = rw (number_2 1 rest (omega arith)) refl

pub count_again : (n : ℕ) (rest : List ℕ) → n ≤ 65536 → count_at (big_bytes 4 n ++ rest) ≡ Ok (n, rest)
unfolding count_at
count_again n rest le =
    let few : ltb 65536 n ≡ false = le-ltb 65536 n le in
    rw (number_4 n rest (omega arith), few) refl

head_again : (magic : List ℕ) (n : ℕ) (rest : List ℕ) → length magic ≡ 4 → bytes_eq magic magic ≡ true → n ≤ 65536 → head_at magic (head_text magic n ++ rest) ≡ Ok (n, rest)
unfolding head_at head_text
head_again magic n rest len same le =
    let regrouped : (magic ++ big_bytes 2 1 ++ big_bytes 4 n) ++ rest ≡ magic ++ (big_bytes 2 1 ++ (big_bytes 4 n ++ rest)) = append_assoc (magic ++ big_bytes 2 1) (big_bytes 4 n) rest ∙ append_assoc magic (big_bytes 2 1) (big_bytes 4 n ++ rest) in
    ap (head_at magic) regrouped ∙ rw (magic_again magic (big_bytes 2 1 ++ (big_bytes 4 n ++ rest)) len same, version_again (big_bytes 4 n ++ rest), count_again n rest le) refl

length_again : (n : ℕ) (rest : List ℕ) → 1 ≤ n → n ≤ 512 → length_at (big_bytes 2 n ++ rest) ≡ Ok (n, rest)
unfolding length_at
length_again n rest low high =
    let some : eqb n 0 ≡ false = ne_eqb n 0 (λ e. absurd (omega (arith, low, e))) in
    let few : ltb 512 n ≡ false = le-ltb 512 n high in
    rw (number_2 n rest (omega arith), some, few) refl

body_again : (body rest : List ℕ) → IsBody body → body_at (framed body ++ rest) ≡ Ok (body, rest)
unfolding body_at
body_again body rest is =
    let regrouped = append_assoc (big_bytes 2 (length body)) body rest in
    ap body_at regrouped ∙ rw (length_again (length body) (body ++ rest) is.0 is.1) (field_again body rest (length body) refl)

pub bodies_again : (bodies : List (List ℕ)) (rest : List ℕ) → AllByRecursion IsBody bodies → bodies_at (length bodies) (flat_map framed bodies ++ rest) ≡ Ok (bodies, rest)
unfolding bodies_at
bodies_again [] rest all = refl
bodies_again (body ∷ bodies) rest all =
    let regrouped = append_assoc (framed body) (flat_map framed bodies) rest in
    ap (bodies_at (suc (length bodies))) regrouped ∙ rw (body_again body (flat_map framed bodies ++ rest) all.0, bodies_again bodies rest all.1) refl

pub file_again : (magic : List ℕ) (bodies : List (List ℕ)) → length magic ≡ 4 → bytes_eq magic magic ≡ true → AreBodies bodies → bodies_of magic (head_text magic (length bodies) ++ flat_map framed bodies) ≡ Ok bodies
unfolding bodies_of
file_again magic bodies len same are =
    let text : head_text magic (length bodies) ++ flat_map framed bodies ≡ head_text magic (length bodies) ++ (flat_map framed bodies ++ []) = ap (λ (x : List ℕ). head_text magic (length bodies) ++ x) (sym (append-nil (flat_map framed bodies))) in
    ap (bodies_of magic) text ∙ rw (head_again magic (length bodies) (flat_map framed bodies ++ []) len same are.0, bodies_again bodies [] are.1) refl

pub batch_again : (bytes : List ℕ) (bodies : List (List ℕ)) → IsBatch bytes bodies → bodies_of batch_magic bytes ≡ Ok bodies
batch_again bytes bodies is = ap (bodies_of batch_magic) is.1 ∙ file_again batch_magic bodies refl refl is.0

-- ---- bodies one behind another

pub framed_more : (bodies : List (List ℕ)) (body : List ℕ) → flat_map framed (bodies ++ body ∷ []) ≡ flat_map framed bodies ++ framed body
framed_more bodies body = flat_map-append framed bodies (body ∷ []) ∙ ap (λ (x : List ℕ). flat_map framed bodies ++ x) (append-nil (framed body))

head_is : (x y : List ℕ) → x ∷ [] ≡ y ∷ [] → x ≡ y
head_is x y e = cc

-- what one framed body begins is told apart
pub framed_apart : (body other rest more : List ℕ) → IsBody body → IsBody other → framed body ++ rest ≡ framed other ++ more → (body ≡ other) × (rest ≡ more)
framed_apart body other rest more is is' e =
    let one : flat_map framed (body ∷ []) ++ rest ≡ flat_map framed (other ∷ []) ++ more =
    ap (λ (x : List ℕ). x ++ rest) (append-nil (framed body)) ∙ e ∙ ap (λ (x : List ℕ). x ++ more) (sym (append-nil (framed other))) in
    let read : Path (Result (List (List ℕ) × List ℕ) BatchFault) (Ok (body ∷ [], rest)) (Ok (other ∷ [], more)) =
    sym (bodies_again (body ∷ []) rest (is, tt)) ∙ ap (bodies_at 1) one ∙ bodies_again (other ∷ []) more (is', tt) in
    let both = ok_injective (body ∷ [], rest) (other ∷ [], more) read in
    (head_is body other (ap (λ (p : List (List ℕ) × List ℕ). p.0) both), ap (λ (p : List (List ℕ) × List ℕ). p.1) both)
