-- Bodies in one text, each behind its length.
use Rattle.std.proofs.Common.{◌≡◌, ◌≢◌, ℕ, ◌+◌, ◌-◌, ◌<◌, ◌≤◌, List, [], ◌∷◌, ◌++◌, length, drop, Bool, true, false, Ok, refl, sym, ap, subst, ◌∙◌, append_assoc, arith}
use Rattle.std.proofs.lemmas.List.{append-nil, length-append}
use Rattle.std.specs.List.{flat_map, AllByRecursion}
use Rattle.byteorder.specs.Endian.{big_bytes, big_number}
use Rattle.file_laws.specs.Texts.{payload_text}
use Rattle.file_laws.specs.Files.{framed, AreBodies, IsBody}
use Rattle.file_laws.specs.Reading.{bodies_at}
use Rattle.file_laws.proofs.Again.{bodies_again, framed_more, framed_apart}
use Rattle.log_file.specs.Bodies.{bodies_in, bodies_read, IsFramed}

again : (bodies : List (List ℕ)) → AllByRecursion IsBody bodies → bodies_at (length bodies) (flat_map framed bodies) ≡ Ok (bodies, [])
again bodies all = ap (bodies_at (length bodies)) (sym (append-nil (flat_map framed bodies))) ∙ bodies_again bodies [] all

-- a text of these bodies
pub record Texts (count : ℕ) (text : List ℕ) (bodies : List (List ℕ)) : Type 0 where
  pub seen : bodies_in count text ≡ bodies
  pub framed_is : IsFramed count text

pub texts : (bodies : List (List ℕ)) (count : ℕ) (text : List ℕ) → AreBodies bodies → length bodies ≡ count → text ≡ flat_map framed bodies → Texts count text bodies
texts bodies count text are number is =
    let read : bodies_at count text ≡ Ok (bodies, []) = rw (← number, is) (again bodies are.1) in
    let seen : bodies_in count text ≡ bodies = ap bodies_read read in
    record {
      seen = seen;
      framed_is = record { text_is = is ∙ ap (flat_map framed) (sym seen); are = subst AreBodies (sym seen) are; number = ap length seen ∙ number };
    }

-- one more body behind others
all_more : (bodies : List (List ℕ)) (body : List ℕ) → AllByRecursion IsBody bodies → IsBody body → AllByRecursion IsBody (bodies ++ body ∷ [])
all_more [] body all is = (is, tt)
all_more (b ∷ bodies) body all is = (all.0, all_more bodies body all.1 is)

pub pushed : (count : ℕ) (text text' body : List ℕ) → IsFramed count text → IsBody body → count < 65536 → text' ≡ text ++ framed body → Texts (count + 1) text' (bodies_in count text ++ body ∷ [])
pushed count text text' body is fits few e =
    let bodies = bodies_in count text in
    let many : length (bodies ++ body ∷ []) ≡ count + 1 = omega (arith, length-append bodies (body ∷ []), is.number) in
    let whole : text' ≡ flat_map framed (bodies ++ body ∷ []) = e ∙ ap (λ (x : List ℕ). x ++ framed body) is.text_is ∙ sym (framed_more bodies body) in
    texts (bodies ++ body ∷ []) (count + 1) text' (omega (arith, many, few), all_more bodies body is.are.1 fits) many whole

-- ---- the first of some bodies

pub record First (left : ℕ) (text : List ℕ) (bodies : List (List ℕ)) : Type 0 where
  pub body : List ℕ
  pub others : List (List ℕ)
  pub is : bodies ≡ body ∷ others
  pub text_is : text ≡ framed body ++ flat_map framed others
  pub fits : IsBody body
  pub are : AreBodies others
  pub fewer : length others ≡ left - 1

first_of_some : (bodies : List (List ℕ)) (left : ℕ) (text : List ℕ) → AreBodies bodies → length bodies ≡ left → left ≢ 0 → text ≡ flat_map framed bodies → First left text bodies
first_of_some [] left text are number some is = absurd (some (sym number))
first_of_some (body ∷ others) left text are number some is =
    record { body = body; others = others; is = refl; text_is = is; fits = are.1.0; are = (omega (arith, are.0), are.1.1); fewer = omega (arith, number) }

first : (left : ℕ) (text : List ℕ) → IsFramed left text → left ≢ 0 → First left text (bodies_in left text)
first left text is some = first_of_some (bodies_in left text) left text is.are is.number some is.text_is

-- where some are left, a body stands there
pub some_body : (left : ℕ) (text : List ℕ) → IsFramed left text → left ≢ 0 → ((body rest : List ℕ) → IsBody body → text ≢ framed body ++ rest) → ⊥
some_body left text is some none = let f = first left text is some in none f.body (flat_map framed f.others) f.fits f.text_is

pub record Goes (left : ℕ) (text body rest : List ℕ) : Type 0 where
  pub given : bodies_in left text ≡ body ∷ bodies_in (left - 1) rest
  pub framed_is : IsFramed (left - 1) rest

pub goes : (left : ℕ) (text body rest : List ℕ) → IsFramed left text → left ≢ 0 → IsBody body → text ≡ framed body ++ rest → Goes left text body rest
goes left text body rest is some fits e =
    let f = first left text is some in
    let same = framed_apart body f.body rest (flat_map framed f.others) fits f.fits (sym e ∙ f.text_is) in
    let t = texts f.others (left - 1) rest f.are f.fewer same.1 in
    record { given = f.is ∙ rw (same.0, t.seen) refl; framed_is = t.framed_is }

-- ---- whether a text is framed

-- some bodies were found, and this is left
pub record Split (count : ℕ) (text rest : List ℕ) : Type 0 where
  pub bodies : List (List ℕ)
  pub all : AllByRecursion IsBody bodies
  pub number : length bodies ≡ count
  pub is : text ≡ flat_map framed bodies ++ rest

pub split_none : (text : List ℕ) → Split 0 text text
split_none text = record { bodies = []; all = tt; number = refl; is = refl }

pub split_more : (count : ℕ) (text rest body behind : List ℕ) → Split count text rest → IsBody body → rest ≡ framed body ++ behind → Split (count + 1) text behind
split_more count text rest body behind s fits e = record {
  bodies = s.bodies ++ body ∷ [];
  all = all_more s.bodies body s.all fits;
  number = omega (arith, length-append s.bodies (body ∷ []), s.number);
  is = s.is ∙ ap (λ (x : List ℕ). flat_map framed s.bodies ++ x) e ∙ sym (append_assoc (flat_map framed s.bodies) (framed body) behind)
      ∙ ap (λ (x : List ℕ). x ++ behind) (sym (framed_more s.bodies body));
}

pub split_all : (count : ℕ) (text rest : List ℕ) → count ≤ 65536 → Split count text rest → rest ≡ [] → IsFramed count text
split_all count text rest few s none =
    (texts s.bodies count text (omega (arith, s.number, few), s.all) s.number (s.is ∙ ap (λ (x : List ℕ). flat_map framed s.bodies ++ x) none ∙ append-nil (flat_map framed s.bodies))).framed_is

-- the bodies of the text go on behind those that were found
goes_on : (front bodies : List (List ℕ)) (rest : List ℕ) → AllByRecursion IsBody front → AllByRecursion IsBody bodies → length front < length bodies
    → flat_map framed bodies ≡ flat_map framed front ++ rest → (body : List ℕ) × (more : List ℕ) × IsBody body × (rest ≡ framed body ++ more)
goes_on front [] rest all all' less e = absurd (omega (arith, less))
goes_on [] (b ∷ bodies) rest all all' less e = (b, flat_map framed bodies, all'.0, sym e)
goes_on (f ∷ front) (b ∷ bodies) rest all all' less e =
    let same = framed_apart b f (flat_map framed bodies) (flat_map framed front ++ rest) all'.0 all.0 (e ∙ append_assoc (framed f) (flat_map framed front) rest) in
    goes_on front bodies rest all.1 all'.1 (omega (arith, less)) same.1

nothing_more : (front bodies : List (List ℕ)) (rest : List ℕ) → AllByRecursion IsBody front → AllByRecursion IsBody bodies → length front ≡ length bodies
    → flat_map framed bodies ≡ flat_map framed front ++ rest → rest ≡ []
nothing_more [] [] rest all all' same e = sym e
nothing_more [] (b ∷ bodies) rest all all' same e = absurd (omega (arith, same))
nothing_more (f ∷ front) [] rest all all' same e = absurd (omega (arith, same))
nothing_more (f ∷ front) (b ∷ bodies) rest all all' same e =
    let one = framed_apart b f (flat_map framed bodies) (flat_map framed front ++ rest) all'.0 all.0 (e ∙ append_assoc (framed f) (flat_map framed front) rest) in
    nothing_more front bodies rest all.1 all'.1 (omega (arith, same)) one.1

pub no_next : (at count : ℕ) (text rest : List ℕ) (bodies : List (List ℕ)) → at < count → Split at text rest → ((body behind : List ℕ) → IsBody body → rest ≢ framed body ++ behind)
    → AreBodies bodies → length bodies ≡ count → text ≢ flat_map framed bodies
no_next at count text rest bodies less s none are number e =
    let next = goes_on s.bodies bodies rest s.all are.1 (omega (arith, less, s.number, number)) (sym e ∙ s.is) in
    none next.0 next.1 next.2 next.3

pub nothing_left : (count : ℕ) (text rest : List ℕ) (bodies : List (List ℕ)) → Split count text rest → AreBodies bodies → length bodies ≡ count → text ≡ flat_map framed bodies → rest ≡ []
nothing_left count text rest bodies s are number e = nothing_more s.bodies bodies rest s.all are.1 (s.number ∙ sym number) (sym e ∙ s.is)

-- ---- payloads

payload_parts : (bodies : List (List ℕ)) → payload_text bodies ≡ big_bytes 4 (length bodies) ++ flat_map framed bodies
unfolding payload_text
payload_parts bodies = refl

number_first : (n : ℕ) (rest : List ℕ) → n ≤ 65536 → big_number 4 (big_bytes 4 n ++ rest) ≡ n
number_first n rest le = omega (arith, le)

-- a count, and the text of other bodies
pub not_theirs : (count : ℕ) (text payload : List ℕ) (bodies : List (List ℕ)) → count ≤ 65536 → payload ≡ big_bytes 4 count ++ text → AreBodies bodies → payload ≡ payload_text bodies
    → (length bodies ≡ count) × (text ≡ flat_map framed bodies)
not_theirs count text payload bodies few e are theirs =
    let both : big_bytes 4 count ++ text ≡ big_bytes 4 (length bodies) ++ flat_map framed bodies = sym e ∙ theirs ∙ payload_parts bodies in
    (sym (number_first (length bodies) (flat_map framed bodies) are.0) ∙ ap (big_number 4) (sym both) ∙ number_first count text few, ap (drop 4) both)

pub no_payload : (payload : List ℕ) → ((count : ℕ) (text : List ℕ) → count ≤ 65536 → payload ≢ big_bytes 4 count ++ text) → (bodies : List (List ℕ)) → AreBodies bodies → payload ≢ payload_text bodies
no_payload payload none bodies are e = none (length bodies) (flat_map framed bodies) are.0 (e ∙ payload_parts bodies)

pub payload_of : (count : ℕ) (text copy payload : List ℕ) → copy ≡ text → IsFramed count text → payload ≡ big_bytes 4 count ++ text
    → AreBodies (bodies_in count copy) × (payload ≡ payload_text (bodies_in count copy))
payload_of count text copy payload same is e =
    let seen : bodies_in count copy ≡ bodies_in count text = ap (bodies_in count) same in
    let whole : payload ≡ payload_text (bodies_in count text) =
    e ∙ ap (λ (x : List ℕ). big_bytes 4 count ++ x) is.text_is ∙ ap (λ (n : ℕ). big_bytes 4 n ++ flat_map framed (bodies_in count text)) (sym is.number) ∙ sym (payload_parts (bodies_in count text)) in
    (subst AreBodies (sym seen) is.are, whole ∙ ap payload_text (sym seen))

pub clash : (b : Bool) → b ≡ true → b ≡ false → ⊥
clash b t f = cc
