-- What is found or written in a list of rows is of its key's kind, where all that stands there is.
use Rattle.std.proofs.Common.{ℕ, zero, suc, ◌++◌, slice_get, ◌≡◌, true, false, List, [], ◌∷◌, Some, IfSome, refl, sym, subst, if◌then◌else◌, cond}
use Rattle.std.proofs.lemmas.Option.{none-some, same_Some}
use Rattle.std.specs.List.{AllByRecursion}
use Rattle.indexmap.specs.IndexMap.{insert_entry}
use Rattle.issuer_rows.proofs.KeyLaws.{key_eq_decides}
use Rattle.issuer_words.specs.Words.{IsOfKind, RowKey, RowVal, Writes, key_eq}
use Rattle.issuer_view.proofs.ListLaws.{inserted_once}
use Rattle.issuer_view.specs.RowSets.{value_in, AreWritesOfKind, IsOnceEach}

module _ {V : Type 0} (Suits : RowKey → V → Type 0) where
  abbrev AllSuit : List (RowKey × V) → Type 0
  AllSuit rows = AllByRecursion (λ row. Suits row.0 row.1) rows

  -- a value that is found under a key
  pub found_suits : (rows : List (RowKey × V)) (key : RowKey) → AllSuit rows → IfSome (value_in rows key) (Suits key)
  found_suits [] key all = tt
  found_suits (row ∷ rows) key all =
      elim (key_eq key row.0) as (λ t. key_eq key row.0 ≡ t → IfSome (cond t (Some row.1) (value_in rows key)) (Suits key)) [
        | true ↦ λ same. subst (λ (k : RowKey). Suits k row.1) (sym ((key_eq_decides key row.0).0 same)) all.0
        | false ↦ λ _. found_suits rows key all.1
      ] refl

  -- one more value, written under its key
  pub inserted_suits : (rows : List (RowKey × V)) (key : RowKey) (value : V) → AllSuit rows → Suits key value → AllSuit (insert_entry key_eq rows key value)
  inserted_suits [] key value all suits = (suits, tt)
  inserted_suits (row ∷ rows) key value all suits =
      elim (key_eq key row.0) as (λ t. key_eq key row.0 ≡ t → AllSuit (if t then (row.0, value) ∷ rows else row ∷ insert_entry key_eq rows key value)) [
        | true ↦ λ same. (subst (λ (k : RowKey). Suits k value) ((key_eq_decides key row.0).0 same) suits, all.1)
        | false ↦ λ _. (all.0, inserted_suits rows key value all.1 suits)
      ] refl

  -- those behind others
  pub suits_behind : (xs ys : List (RowKey × V)) → AllSuit (xs ++ ys) → AllSuit ys
  suits_behind [] ys all = all
  suits_behind (x ∷ xs) ys all = suits_behind xs ys all.1

  -- a value at a place
  pub standing_suits : (rows : List (RowKey × V)) (i : ℕ) (e : RowKey × V) → AllSuit rows → slice_get rows i ≡ Some e → Suits e.0 e.1
  standing_suits [] i e all at = absurd (none-some e at)
  standing_suits (row ∷ rows) zero e all at = subst (λ (y : RowKey × V). Suits y.0 y.1) (same_Some row e at) all.0
  standing_suits (row ∷ rows) (suc i) e all at = standing_suits rows i e all.1 at

-- rows with one more that is written are of their kinds, each once
pub all_put : (rows now : Writes) (k : RowKey) (v : RowVal) → insert_entry key_eq rows k v ≡ now → AreWritesOfKind rows → IsOnceEach rows → IsOfKind k v → AreWritesOfKind now × IsOnceEach now
all_put rows now k v is kinds once kind = subst (λ (rows : Writes). AreWritesOfKind rows × IsOnceEach rows) is (inserted_suits IsOfKind rows k v kinds kind, inserted_once rows k v once)
