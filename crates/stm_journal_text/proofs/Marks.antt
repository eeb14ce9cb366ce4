-- Texts that are parted at a mark.
use Rattle.std.proofs.Common.{◌≡◌, ℕ, ◌<◌, ◌^◌, ◌==◌, Bool, true, false, not, cond, List, [], ◌∷◌, ◌++◌, refl, sym, ap, ◌∙◌, rules, arith}
use Rattle.std.specs.Char.{is_ascii_digit}
use Rattle.std.specs.Fmt.{decimal}
use Rattle.std.specs.List.{list_all}
use Rattle.std.proofs.lemmas.Bool.{and_parts, eq-eqb, eqb-false, ne_eqb, not-true, false≢true}
use Rattle.std.proofs.lemmas.Fmt.{digits_decimal}
use Rattle.std.proofs.lemmas.Str.Parse.{IsDigitsTest, numerals_by_value}
use Rattle.iso8583.specs.Class.{IsDigits}
use Rattle.stm_journal_text.specs.Marks.{Lacks}

-- what stands before the first mark
abbrev pub before : ℕ → List ℕ → List ℕ
before mark [] = []
before mark (c ∷ cs) = cond (c == mark) [] (c ∷ before mark cs)

-- what stands behind the first mark
abbrev pub after : ℕ → List ℕ → List ℕ
after mark [] = []
after mark (c ∷ cs) = cond (c == mark) cs (after mark cs)

pub before_parts : (mark : ℕ) (a b : List ℕ) → Lacks mark a → before mark (a ++ mark ∷ b) ≡ a
before_parts mark [] b h = ap (λ (t : Bool). cond t [] (mark ∷ before mark b)) (eq-eqb mark mark refl)
before_parts mark (c ∷ cs) b h =
    ap (λ (t : Bool). cond t [] (c ∷ before mark (cs ++ mark ∷ b))) (ne_eqb c mark h.0)
    ∙ ap (λ (x : List ℕ). c ∷ x) (before_parts mark cs b h.1)

pub after_parts : (mark : ℕ) (a b : List ℕ) → Lacks mark a → after mark (a ++ mark ∷ b) ≡ b
after_parts mark [] b h = ap (λ (t : Bool). cond t b (after mark b)) (eq-eqb mark mark refl)
after_parts mark (c ∷ cs) b h =
    ap (λ (t : Bool). cond t (cs ++ mark ∷ b) (after mark (cs ++ mark ∷ b))) (ne_eqb c mark h.0)
    ∙ after_parts mark cs b h.1

-- the first mark parts a text in one way
pub parted : (mark : ℕ) (a b x y : List ℕ) → Lacks mark a → Lacks mark x → a ++ mark ∷ b ≡ x ++ mark ∷ y → (a ≡ x) × (b ≡ y)
parted mark a b x y h k same = (
  sym (before_parts mark a b h) ∙ ap (before mark) same ∙ before_parts mark x y k,
  sym (after_parts mark a b h) ∙ ap (after mark) same ∙ after_parts mark x y k,
)

-- a text with a mark doesn't lack it
pub not_lacking : (mark : ℕ) (a b : List ℕ) → ¬ Lacks mark (a ++ mark ∷ b)
not_lacking mark [] b h = h.0 refl
not_lacking mark (c ∷ cs) b h = not_lacking mark cs b h.1

pub lacks_append : (mark : ℕ) (a b : List ℕ) → Lacks mark a → Lacks mark b → Lacks mark (a ++ b)
lacks_append mark [] b h k = k
lacks_append mark (c ∷ cs) b h k = (h.0, lacks_append mark cs b h.1 k)

-- texts of a class lack a mark that is not of it
pub class_lacks : (p : ℕ → Bool) (mark : ℕ) → p mark ≡ false → (text : List ℕ) → list_all p text ≡ true → Lacks mark text
class_lacks p mark not_of [] h = tt
class_lacks p mark not_of (c ∷ cs) h =
    let parts = and_parts (p c) (list_all p cs) h in (
      λ same. false≢true (sym not_of ∙ ap p (sym same) ∙ parts.0),
      class_lacks p mark not_of cs parts.1,
    )

pub digits_lack : (mark : ℕ) (text : List ℕ) → is_ascii_digit mark ≡ false → IsDigits text → Lacks mark text
digits_lack mark text not_of h = class_lacks is_ascii_digit mark not_of text h

pub digits_test : IsDigitsTest IsDigits
digits_test = search rules

pub decimal_digits : (n : ℕ) → n < 2 ^ 64 → IsDigits (decimal n)
decimal_digits n h = digits_decimal (numerals_by_value IsDigits digits_test) n h

pub decimal_lacks : (mark n : ℕ) → is_ascii_digit mark ≡ false → n < 2 ^ 32 → Lacks mark (decimal n)
decimal_lacks mark n not_of h = digits_lack mark (decimal n) not_of (decimal_digits n (omega arith))

-- a text in parts lacks what each part lacks
pub lacks_parts : (mark other : ℕ) (a b : List ℕ) → (other == mark) ≡ false → Lacks mark a → Lacks mark b → Lacks mark (a ++ other ∷ b)
lacks_parts mark other a b not_of h k = lacks_append mark a (other ∷ b) h (eqb-false other mark not_of, k)

-- a text that was written out lacks another mark
pub other_lacks : (mark : ℕ) (text : List ℕ) → list_all (λ c. not (c == mark)) text ≡ true → Lacks mark text
other_lacks mark [] h = tt
other_lacks mark (c ∷ cs) h =
    let parts = and_parts (not (c == mark)) (list_all (λ c. not (c == mark)) cs) h in
    (eqb-false c mark (not-true (c == mark) parts.0), other_lacks mark cs parts.1)
