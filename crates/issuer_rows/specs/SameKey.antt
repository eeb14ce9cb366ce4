-- The test of equality of row keys decides it.
use Rattle.std.proofs.Common.{◌≡◌, ℕ, zero, suc, Bool, true, false, ◌&&◌, ◌==◌, List, refl, sym, ap, ◌∙◌, rules}
use Rattle.std.proofs.lemmas.Bool.{false≢true}
use Rattle.std.specs.Bool.{Decides}
use Rattle.std.specs.Cmp.Derive.{both_true}
use Rattle.issuer_rows.specs.RowKey.{kind_of, first_text, second_text, third_text, text_eq, key_eq}
use Rattle.issuer_rows.specs.declared.row_key.RowKey.{RowKey}
use Rattle.issuer_rows.specs.declared.row_key.RowKey.TheVariants as key

-- a key from its kind's place and its texts
of_texts : ℕ → List ℕ → List ℕ → List ℕ → RowKey
of_texts zero first second third = key.Card (record { 0 = first })
of_texts (suc zero) first second third = key.Velocity (record { 0 = first }) second
of_texts (suc (suc zero)) first second third = key.Budget (record { 0 = first })
of_texts (suc (suc (suc zero))) first second third = key.Original (record { acquirer = record { 0 = first }; stan = record { 0 = second }; stamp = third })
of_texts (suc (suc (suc (suc n)))) first second third = key.Account (record { 0 = first })

its_texts : (k : RowKey) → of_texts (kind_of k) (first_text k) (second_text k) (third_text k) ≡ k
unfolding of_texts
its_texts (key.Card pan) = refl
its_texts (key.Velocity pan day) = refl
its_texts (key.Budget prefix) = refl
its_texts (key.Original identity) = refl
its_texts (key.Account id) = refl

-- keys of the same kind and the same texts are the same
pub same_texts : (a b : RowKey) → kind_of a ≡ kind_of b → first_text a ≡ first_text b → second_text a ≡ second_text b → third_text a ≡ third_text b → a ≡ b
same_texts a b kind first second third =
    sym (its_texts a) ∙ (λ i. of_texts (kind i) (first i) (second i) (third i)) ∙ its_texts b

split : (a b : Bool) → (a && b) ≡ true → (a ≡ true) × (b ≡ true)
split true b h = (refl, h)
split false b h = absurd (false≢true h)

-- the test of texts decides whether they are the same
pub text_eq_decides : (s t : List ℕ) → Decides (text_eq s t) (s ≡ t)
text_eq_decides s t = search rules

number_eq_decides : (m n : ℕ) → Decides (m == n) (m ≡ n)
number_eq_decides m n = search rules

-- the test of equality decides it
pub key_eq_decides : (a b : RowKey) → Decides (key_eq a b) (a ≡ b)
key_eq_decides a b =
    let kinds = number_eq_decides (kind_of a) (kind_of b) in
    let firsts = text_eq_decides (first_text a) (first_text b) in
    let seconds = text_eq_decides (second_text a) (second_text b) in
    let thirds = text_eq_decides (third_text a) (third_text b) in (
      λ t.
          let t1 = split _ _ t in
          let t2 = split _ _ t1.1 in
          let t3 = split _ _ t2.1 in
          same_texts a b (kinds.0 t1.0) (firsts.0 t2.0) (seconds.0 t3.0) (thirds.0 t3.1),
      λ e. both_true (kinds.1 (ap kind_of e)) (both_true (firsts.1 (ap first_text e)) (both_true (seconds.1 (ap second_text e)) (thirds.1 (ap third_text e)))),
    )
