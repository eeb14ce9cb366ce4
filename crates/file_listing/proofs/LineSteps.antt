-- Going over a text line by line.
use Rattle.std.proofs.Common.{◌≡◌, ◌≢◌, ℕ, ◌+◌, ◌≤◌, suc, arith, length, Bool, cond, List, [], ◌∷◌, ◌++◌, Option, None, Result, Ok, Err, refl, sym, ap, ◌∙◌}
use Rattle.std.proofs.lemmas.Bool.{ne_eqb}
use Rattle.std.proofs.lemmas.List.{append_assoc, append-nil, length-append}
use Rattle.std.specs.List.{AllByRecursion}
use Rattle.file_listing.specs.Bodies.{lines_of, with_first, line_bodies, behind, then_bodies, bodies_from, bodies_of, AddsBodies}

-- a line without a line feed stands alone
pub last_line : (line : List ℕ) → AllByRecursion (λ c. c ≢ 10) line → lines_of line ≡ line ∷ []
last_line [] h = refl
last_line (c ∷ cs) h =
    ap (λ (t : Bool). cond t ([] ∷ lines_of cs) (with_first c (lines_of cs))) (ne_eqb c 10 h.0) ∙ ap (with_first c) (last_line cs h.1)

-- a line that ends at a line feed is the first
pub first_line : (line rest : List ℕ) → AllByRecursion (λ c. c ≢ 10) line → lines_of (line ++ 10 ∷ rest) ≡ line ∷ lines_of rest
first_line [] rest h = refl
first_line (c ∷ cs) rest h =
    ap (λ (t : Bool). cond t ([] ∷ lines_of (cs ++ 10 ∷ rest)) (with_first c (lines_of (cs ++ 10 ∷ rest)))) (ne_eqb c 10 h.0) ∙ ap (with_first c) (first_line cs rest h.1)

behind_both : (front more : List (List ℕ)) (rest : Result (List (List ℕ)) ℕ) → behind front (behind more rest) ≡ behind (front ++ more) rest
behind_both front more (Ok bodies) = ap (λ (bs : List (List ℕ)). Ok bs) (sym (append_assoc front more bodies))
behind_both front more (Err n) = refl

behind_nothing : (rest : Result (List (List ℕ)) ℕ) → rest ≡ behind [] rest
behind_nothing (Ok bodies) = refl
behind_nothing (Err n) = refl

-- the bodies so far, and those of the lines that are left, are those of the text
abbrev pub AreReadSoFar : List ℕ → List (List ℕ) → ℕ → List ℕ → Type 0
AreReadSoFar text done number rest = bodies_of text ≡ behind done (bodies_from number (lines_of rest))

pub starts : (text : List ℕ) → AreReadSoFar text [] 1 text
starts text = behind_nothing (bodies_of text)

pub goes_on : (text rest line more : List ℕ) (done after : List (List ℕ)) (number : ℕ) → AreReadSoFar text done number rest → rest ≡ line ++ 10 ∷ more
    → AllByRecursion (λ c. c ≢ 10) line → AddsBodies line done after → AreReadSoFar text after (number + 1) more
goes_on text rest line more done after number so is lacks adds =
    let lines : lines_of rest ≡ line ∷ lines_of more = ap lines_of is ∙ first_line line more lacks in
    so ∙ ap (λ (ls : List (List ℕ)). behind done (bodies_from number ls)) lines
    ∙ ap (λ (o : Option (List (List ℕ))). behind done (then_bodies number o (bodies_from (number + 1) (lines_of more)))) adds.are
    ∙ behind_both done adds.bodies (bodies_from (number + 1) (lines_of more))
    ∙ ap (λ (bs : List (List ℕ)). behind bs (bodies_from (number + 1) (lines_of more))) (sym adds.added)

-- a line that is wrong
pub wrong_line : (text rest line more : List ℕ) (done : List (List ℕ)) (number : ℕ) → AreReadSoFar text done number rest → rest ≡ line ++ 10 ∷ more
    → AllByRecursion (λ c. c ≢ 10) line → line_bodies line ≡ None → bodies_of text ≡ Err number
wrong_line text rest line more done number so is lacks wrong =
    let lines : lines_of rest ≡ line ∷ lines_of more = ap lines_of is ∙ first_line line more lacks in
    so ∙ ap (λ (ls : List (List ℕ)). behind done (bodies_from number ls)) lines
    ∙ ap (λ (o : Option (List (List ℕ))). behind done (then_bodies number o (bodies_from (number + 1) (lines_of more)))) wrong

pub ends : (text rest : List ℕ) (done after : List (List ℕ)) (number : ℕ) → AreReadSoFar text done number rest
    → AllByRecursion (λ c. c ≢ 10) rest → AddsBodies rest done after → bodies_of text ≡ Ok after
ends text rest done after number so lacks adds =
    so ∙ ap (λ (ls : List (List ℕ)). behind done (bodies_from number ls)) (last_line rest lacks)
    ∙ ap (λ (o : Option (List (List ℕ))). behind done (then_bodies number o (Ok []))) adds.are
    ∙ ap (λ (bs : List (List ℕ)). Ok (done ++ bs)) (append-nil adds.bodies) ∙ ap (λ (bs : List (List ℕ)). Ok bs) (sym adds.added)

pub ends_wrong : (text rest : List ℕ) (done : List (List ℕ)) (number : ℕ) → AreReadSoFar text done number rest
    → AllByRecursion (λ c. c ≢ 10) rest → line_bodies rest ≡ None → bodies_of text ≡ Err number
ends_wrong text rest done number so lacks wrong =
    so ∙ ap (λ (ls : List (List ℕ)). behind done (bodies_from number ls)) (last_line rest lacks)
    ∙ ap (λ (o : Option (List (List ℕ))). behind done (then_bodies number o (Ok []))) wrong

-- what is left gets shorter
pub shorter : (rest line more : List ℕ) (n t : ℕ) → n + length rest ≤ t → rest ≡ line ++ 10 ∷ more → n + 1 + length more ≤ t
shorter rest line more n t few is =
    let e : length rest ≡ length line + suc (length more) = ap length is ∙ length-append line (10 ∷ more) in
    omega (arith, few, e)
