-- Rows of a book under what was written, and what the tests of keys and texts say.
use Rattle.std.proofs.Common.{◌≡◌, ◌≢◌, ℕ, true, false, cond, ◌==◌, not, List, [], ◌∷◌, Some, Ordering, Less, Equal, Greater, Decides, IsTrue, ◌⊎◌, inl, inr, refl, sym, ap, ◌∙◌, subst, arith, rules}
use Rattle.std.proofs.lemmas.Bool.{false≢true}
use Rattle.std.proofs.lemmas.Bool.Decides.{nat_tests}
use Rattle.std.specs.FinMap as map
use Rattle.std.specs.Ordering.{is_eq}
use Rattle.std.specs.Cmp.{tied_itself}
use Rattle.issuer_rows.proofs.KeyLaws.{key_cmp_total, key_cmp_antisymmetric, key_eq_decides}
use Rattle.issuer_rows.proofs.PutsOnce.{IsFresh, not_another}
use Rattle.issuer_words.specs.Words.{Funds, Identity, Lookup, Plan, ReplyBody, RowKey, RowVal, Rows, Writes, carried_out, key_cmp, key_eq, key_of_funds, kind_of, original_in, overlay, text_eq}

-- the row that is written has the value that is written
pub get-put : (rows : Rows) (k : RowKey) (v : RowVal) → map.get (map.insert rows k v) k ≡ Some v
get-put rows k v = map.get-insert key_cmp_total rows k v k ∙ ap (λ (o : Ordering). cond (is_eq o) (Some v) (map.get rows k)) (tied_itself key_cmp_total k)

-- another row stays
pub get-other : (rows : Rows) (k : RowKey) (v : RowVal) (q : RowKey) → q ≢ k → map.get (map.insert rows k v) q ≡ map.get rows q
get-other rows k v q apart =
    map.get-insert key_cmp_total rows k v q
    ∙ elim (key_cmp q k) as (λ o. key_cmp q k ≡ o → cond (is_eq o) (Some v) (map.get rows q) ≡ map.get rows q) [
      | Less ↦ λ p. refl
      | Equal ↦ λ p. absurd (apart (key_cmp_antisymmetric q k p))
      | Greater ↦ λ p. refl
    ] refl

-- a row of a kind that isn't written has another key
pub other_key : (q k : RowKey) → IsTrue (not (kind_of q == kind_of k)) → q ≢ k
other_key q k fresh e = not_another (kind_of q) (subst (λ (x : RowKey). IsTrue (not (kind_of q == kind_of x))) (sym e) fresh)

-- a row of a kind that isn't written stays
pub get-fresh : (rows : Rows) (ws : Writes) (q : RowKey) → IsFresh (kind_of q) ws → map.get (overlay rows ws) q ≡ map.get rows q
get-fresh rows [] q fresh = refl
get-fresh rows (w ∷ ws) q fresh =
    get-fresh (map.insert rows w.0 w.1) ws q fresh.1 ∙ get-other rows w.0 w.1 q (other_key q w.0 fresh.0)

text_eq_decides : (s t : List ℕ) → Decides (text_eq s t) (s ≡ t)
text_eq_decides s t = search rules

-- a text is the same as itself
pub same_text : (s : List ℕ) → text_eq s s ≡ true
same_text s = (text_eq_decides s s).1 refl

-- texts that pass the test are the same
pub texts_same : (s t : List ℕ) → text_eq s t ≡ true → s ≡ t
texts_same s t e = (text_eq_decides s t).0 e

-- other texts don't pass it
pub texts_apart : (s t : List ℕ) → text_eq s t ≡ false → s ≢ t
texts_apart s t e same = false≢true (sym e ∙ (text_eq_decides s t).1 same)

-- a number is the same as itself
pub same_number : (n : ℕ) → (n == n) ≡ true
same_number n = grind (arith, nat_tests)

-- keys are the same, or they are not
pub same_or_other : (a b : RowKey) → (a ≡ b) ⊎ (a ≢ b)
same_or_other a b =
    elim (key_eq a b) as (λ t. key_eq a b ≡ t → (a ≡ b) ⊎ (a ≢ b)) [
      | true ↦ λ e. inl ((key_eq_decides a b).0 e)
      | false ↦ λ e. inr (λ same. false≢true (sym e ∙ (key_eq_decides a b).1 same))
    ] refl

-- the row that pays is no original
pub funds_other : (f : Funds) → IsTrue (not (3 == kind_of (key_of_funds f)))
funds_other (Funds.Account id row) = refl
funds_other (Funds.Budget prefix row) = refl

-- the original's row, where it is written with rows of other kinds
pub original_stands : (rows : Rows) (identity : Identity) (v : RowVal) (writes rest : Writes) → writes ≡ (RowKey.Original identity, v) ∷ rest → IsFresh 3 rest → original_in (map.get (overlay rows writes) (RowKey.Original identity)) ≡ original_in (Some v)
original_stands rows identity v writes rest e fresh =
    ap (λ (ws : Writes). original_in (map.get (overlay rows ws) (RowKey.Original identity))) e
    ∙ ap original_in (get-fresh (map.insert rows (RowKey.Original identity) v) rest (RowKey.Original identity) fresh ∙ get-put rows (RowKey.Original identity) v)

-- reply and rows that a plan comes to
abbrev pub Outcomes : Type 0
Outcomes = ReplyBody × Writes

abbrev pub comes_to : Plan → Lookup → Outcomes
comes_to p look = ((carried_out p look).reply, (carried_out p look).writes)
