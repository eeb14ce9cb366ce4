-- The bodies of a part, one after another.
use Rattle.std.proofs.Common.{◌≡◌, ◌≢◌, ℕ, zero, suc, ◌+◌, ◌<◌, List, [], ◌∷◌, ◌++◌, Vec, Global, drop, zip, get_or, length, refl, sym, ap, ◌∙◌, arith, rules}
use Rattle.std.proofs.lemmas.List.{map-append}
use Rattle.file_batch.specs.Bodies.{bytes_of}
use Rattle.issuer_laws.specs.Parts.{of_part}

-- what is left of both lists from a place on
zip_left : {A : Type 0} (parts : List ℕ) (all : List A) (i : ℕ) (x : A) → i < length parts → i < length all
    → drop i (zip parts all) ≡ (get_or parts i 0, get_or all i x) ∷ drop (suc i) (zip parts all)
zip_left [] all i x within within' = absurd (omega (arith, within))
zip_left (q ∷ parts) [] i x within within' = absurd (omega (arith, within'))
zip_left (q ∷ parts) (y ∷ all) zero x within within' = refl
zip_left (q ∷ parts) (y ∷ all) (suc i) x within within' = zip_left parts all i x (omega (arith, within)) (omega (arith, within'))

bytes_at : (bodies : List (Vec ℕ Global)) (i : ℕ) (body : Vec ℕ Global) → i < length bodies → get_or (bytes_of bodies) i body.items ≡ (get_or bodies i body).items
bytes_at [] i body within = absurd (omega (arith, within))
bytes_at (first ∷ bodies) zero body within = refl
bytes_at (first ∷ bodies) (suc i) body within = bytes_at bodies i body (omega (arith, within))

long : (bodies : List (Vec ℕ Global)) → length (bytes_of bodies) ≡ length bodies
long [] = refl
long (body ∷ bodies) = ap suc (long bodies)

chosen : (part p : ℕ) (x : List ℕ) (rest : List (ℕ × List ℕ)) → p ≡ part → of_part part ((p, x) ∷ rest) ≡ x ∷ of_part part rest
chosen part p x rest same = search (rules, same)

passed : (part p : ℕ) (x : List ℕ) (rest : List (ℕ × List ℕ)) → p ≢ part → of_part part ((p, x) ∷ rest) ≡ of_part part rest
passed part p x rest apart = search (rules, apart)

left_at : (parts : List ℕ) (bodies : List (Vec ℕ Global)) (i part : ℕ) (body : Vec ℕ Global) → i < length parts → i < length bodies → body ≡ get_or bodies i body
    → of_part part (drop i (zip parts (bytes_of bodies))) ≡ of_part part ((get_or parts i 0, body.items) ∷ drop (i + 1) (zip parts (bytes_of bodies)))
left_at parts bodies i part body within within' body_is =
    let at : get_or (bytes_of bodies) i body.items ≡ body.items = bytes_at bodies i body within' ∙ ap (λ (b : Vec ℕ Global). b.items) (sym body_is) in
    let next : suc i ≡ i + 1 = omega arith in
    ap (of_part part) (zip_left parts (bytes_of bodies) i body.items within (omega (arith, long bodies, within'))
    ∙ (λ j. (get_or parts i 0, at j) ∷ drop (next j) (zip parts (bytes_of bodies))))

-- one more body of the part
pub mine : (parts : List ℕ) (bodies : List (Vec ℕ Global)) (i part : ℕ) (body : Vec ℕ Global) → i < length parts → i < length bodies → body ≡ get_or bodies i body
    → get_or parts i 0 ≡ part → of_part part (drop i (zip parts (bytes_of bodies))) ≡ body.items ∷ of_part part (drop (i + 1) (zip parts (bytes_of bodies)))
mine parts bodies i part body within within' body_is same =
    left_at parts bodies i part body within within' body_is ∙ chosen part (get_or parts i 0) body.items (drop (i + 1) (zip parts (bytes_of bodies))) same

-- one of another part
pub other : (parts : List ℕ) (bodies : List (Vec ℕ Global)) (i part : ℕ) → i < length parts → i < length bodies
    → get_or parts i 0 ≢ part → of_part part (drop i (zip parts (bytes_of bodies))) ≡ of_part part (drop (i + 1) (zip parts (bytes_of bodies)))
other parts bodies i part within within' apart =
    let next : suc i ≡ i + 1 = omega arith in
    ap (of_part part) (zip_left parts (bytes_of bodies) i [] within (omega (arith, long bodies, within'))
    ∙ ap (λ (n : ℕ). (get_or parts i 0, get_or (bytes_of bodies) i []) ∷ drop n (zip parts (bytes_of bodies))) next)
    ∙ passed part (get_or parts i 0) (get_or (bytes_of bodies) i []) (drop (i + 1) (zip parts (bytes_of bodies))) apart

-- a body behind others
pub one_behind : (own : List (Vec ℕ Global)) (body : Vec ℕ Global) → bytes_of (own ++ body ∷ []) ≡ bytes_of own ++ body.items ∷ []
one_behind own body = map-append (λ (b : Vec ℕ Global). b.items) own (body ∷ [])

-- no body is left
pub none_left : (parts : List ℕ) (bodies : List (Vec ℕ Global)) (i : ℕ) → length parts ≡ length bodies → i ≡ length bodies → drop i (zip parts (bytes_of bodies)) ≡ []
none_left [] [] i same is = rw is refl
none_left [] (body ∷ bodies) i same is = absurd (omega (arith, same))
none_left (p ∷ parts) [] i same is = absurd (omega (arith, same))
none_left (p ∷ parts) (body ∷ bodies) zero same is = absurd (omega (arith, is))
none_left (p ∷ parts) (body ∷ bodies) (suc i) same is = none_left parts bodies i (omega (arith, same)) (omega (arith, is))
