-- Keys among others, messages of a part, and rows that are left of a book.
use Rattle.std.proofs.Common.{◌≡◌, ◌≢◌, ℕ, Bool, true, false, ◌==◌, ◌||◌, cond, if◌then◌else◌, List, [], ◌∷◌, ◌++◌, Option, Some, None, IfSome, ◌⊎◌, inl, inr, refl, sym, ap, ◌∙◌, subst, arith}
use Rattle.std.proofs.lemmas.Bool.{false≢true, or_right, or_cases, eqb-true}
use Rattle.std.proofs.lemmas.Bool.Decides.{nat_tests}
use Rattle.std.specs.FinMap as map
use Rattle.std.specs.List.{list_any}
use Rattle.issuer_rows.proofs.KeyLaws.{key_eq_decides}
use Rattle.issuer_words.specs.Words.{Frame, IsWithin, RowKey, RowVal, Rows, key_eq}
use Rattle.issuer_laws.specs.Parts.{IsIn, Parted, bodies, of_part}
use Rattle.book_changes.proofs.Splitting.{get_retained, own_value}
use Rattle.parts_books.specs.PartBooks.{is_among}

-- ---- keys

pub among_in : (k : RowKey) (ks : List RowKey) → IsIn k ks → is_among k ks ≡ true
among_in k [] h = absurd h
among_in k (x ∷ ks) (inl same) = ap (λ (b : Bool). b || is_among k ks) ((key_eq_decides k x).1 same)
among_in k (x ∷ ks) (inr h) = or_right (key_eq k x) (is_among k ks) (among_in k ks h)

pub in_among : (k : RowKey) (ks : List RowKey) → is_among k ks ≡ true → IsIn k ks
in_among k [] h = absurd (false≢true h)
in_among k (x ∷ ks) h = elim (or_cases (key_eq k x) (is_among k ks) h) [ inl same ↦ inl ((key_eq_decides k x).0 same) | inr more ↦ inr (in_among k ks more) ]

module _ {A : Type 0} where
  pub in_front : (x : A) (xs ys : List A) → IsIn x xs → IsIn x (xs ++ ys)
  in_front x [] ys h = absurd h
  in_front x (y ∷ xs) ys (inl e) = inl e
  in_front x (y ∷ xs) ys (inr h) = inr (in_front x xs ys h)

  pub in_back : (x : A) (xs ys : List A) → IsIn x ys → IsIn x (xs ++ ys)
  in_back x [] ys h = h
  in_back x (y ∷ xs) ys h = inr (in_back x xs ys h)

  pub in_either : (x : A) (xs ys : List A) → IsIn x (xs ++ ys) → IsIn x xs ⊎ IsIn x ys
  in_either x [] ys h = inr h
  in_either x (y ∷ xs) ys (inl e) = inl (inl e)
  in_either x (y ∷ xs) ys (inr h) = elim (in_either x xs ys h) [ inl one ↦ inl (inr one) | inr two ↦ inr two ]

-- ---- messages

of_part_no : (n p : ℕ) → n ≡ p → (n == p) ≡ false → ⊥
of_part_no n p e h = grind (arith, nat_tests)

-- a message of the part that passes is one of those
pub any_of_part : (test : Frame → Bool) (p : ℕ) (ms : Parted) (m : ℕ × Frame) → IsIn m ms → m.0 ≡ p → test m.1 ≡ true → list_any test (of_part p ms) ≡ true
any_of_part test p [] m h of_p passes = absurd h
any_of_part test p (n ∷ ms) m h of_p passes =
    elim (n.0 == p) as (λ b. (n.0 == p) ≡ b → list_any test (if b then n.1 ∷ of_part p ms else of_part p ms) ≡ true) [
      | true ↦ λ e. elim h [
        | inl same ↦ ap (λ (b : Bool). b || list_any test (of_part p ms)) (ap (λ (o : ℕ × Frame). test o.1) (sym same) ∙ passes)
        | inr more ↦ or_right (test n.1) (list_any test (of_part p ms)) (any_of_part test p ms m more of_p passes)
      ]
      | false ↦ λ e. elim h [
        | inl same ↦ absurd (of_part_no n.0 p (ap (λ (o : ℕ × Frame). o.0) (sym same) ∙ of_p) e)
        | inr more ↦ any_of_part test p ms m more of_p passes
      ]
    ] refl

-- a message that passes
abbrev pub HasOne : (Frame → Bool) → Parted → Type 0
HasOne test ms = (m : ℕ × Frame) × IsIn m ms × (test m.1 ≡ true)

-- one of a part
abbrev pub HasOneOfPart : (Frame → Bool) → Parted → ℕ → Type 0
HasOneOfPart test ms p = (m : ℕ × Frame) × IsIn m ms × (m.0 ≡ p) × (test m.1 ≡ true)

later : (test : Frame → Bool) (p : ℕ) (n : ℕ × Frame) (ms : Parted) → HasOneOfPart test ms p → HasOneOfPart test (n ∷ ms) p
later test p n ms h = (h.0, inr h.1, h.2, h.3)

pub of_part_any : (test : Frame → Bool) (p : ℕ) (ms : Parted) → list_any test (of_part p ms) ≡ true → HasOneOfPart test ms p
of_part_any test p [] h = absurd (false≢true h)
of_part_any test p (n ∷ ms) h =
    elim (n.0 == p) as (λ b. (n.0 == p) ≡ b → list_any test (if b then n.1 ∷ of_part p ms else of_part p ms) ≡ true → HasOneOfPart test (n ∷ ms) p) [
      | true ↦ λ e passes. elim (or_cases (test n.1) (list_any test (of_part p ms)) passes) [
        | inl own ↦ (n, inl refl, eqb-true n.0 p e, own)
        | inr more ↦ later test p n ms (of_part_any test p ms more)
      ]
      | false ↦ λ e passes. later test p n ms (of_part_any test p ms passes)
    ] refl h

pub any_of_bodies : (test : Frame → Bool) (ms : Parted) (m : ℕ × Frame) → IsIn m ms → test m.1 ≡ true → list_any test (bodies ms) ≡ true
any_of_bodies test [] m h passes = absurd h
any_of_bodies test (n ∷ ms) m (inl same) passes = ap (λ (b : Bool). b || list_any test (bodies ms)) (ap (λ (o : ℕ × Frame). test o.1) (sym same) ∙ passes)
any_of_bodies test (n ∷ ms) m (inr more) passes = or_right (test n.1) (list_any test (bodies ms)) (any_of_bodies test ms m more passes)

pub of_bodies_any : (test : Frame → Bool) (ms : Parted) → list_any test (bodies ms) ≡ true → HasOne test ms
of_bodies_any test [] h = absurd (false≢true h)
of_bodies_any test (n ∷ ms) h =
    elim (or_cases (test n.1) (list_any test (bodies ms)) h) [
      | inl own ↦ (n, inl refl, own)
      | inr more ↦ let one = of_bodies_any test ms more in (one.0, inr one.1, one.2)
    ]

-- ---- rows that are left of a book

pub within_retained : (rows : Rows) (test : RowKey → Bool) → IsWithin (map.retain_keys rows test) rows
within_retained rows test k =
    subst (λ (o : Option RowVal). IfSome o (λ v. map.get rows k ≡ Some v)) (sym (get_retained rows test k))
    (elim (test k) as (λ b. IfSome (cond b (map.get rows k) None) (λ v. map.get rows k ≡ Some v)) [ true ↦ own_value (map.get rows k) | false ↦ tt ])

-- a row that is left passes
pub left_passes : (rows : Rows) (test : RowKey → Bool) (k : RowKey) → map.get (map.retain_keys rows test) k ≢ None → test k ≡ true
left_passes rows test k there =
    elim (test k) as (λ b. test k ≡ b → b ≡ true) [
      | true ↦ λ _. refl
      | false ↦ λ out. absurd (there (get_retained rows test k ∙ ap (λ (b : Bool). cond b (map.get rows k) None) out))
    ] refl

-- one that passes is left
pub passes_left : (rows : Rows) (test : RowKey → Bool) (k : RowKey) → test k ≡ true → map.get (map.retain_keys rows test) k ≡ map.get rows k
passes_left rows test k h = get_retained rows test k ∙ ap (λ (b : Bool). cond b (map.get rows k) None) h

-- it is as it was, or not there
pub same_or_gone : (rows : Rows) (test : RowKey → Bool) (k : RowKey) → (map.get (map.retain_keys rows test) k ≡ map.get rows k) ⊎ (map.get (map.retain_keys rows test) k ≡ None)
same_or_gone rows test k =
    elim (test k) as (λ b. test k ≡ b → (map.get (map.retain_keys rows test) k ≡ map.get rows k) ⊎ (map.get (map.retain_keys rows test) k ≡ None)) [
      | true ↦ λ own. inl (passes_left rows test k own)
      | false ↦ λ out. inr (get_retained rows test k ∙ ap (λ (b : Bool). cond b (map.get rows k) None) out)
    ] refl
