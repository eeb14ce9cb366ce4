-- What a version wrote stands in place of its index's entries.
use Rattle.std.proofs.Common.{◌≡◌, ◌≢◌, ◌↔◌, ◌⊎◌, ℕ, Bool, Some, None, IsSome, IsTrue, option_map, refl, sym, ap, ◌∙◌, inl, inr}
use Rattle.std.specs.FinMap as finite
use Rattle.issuer_words.specs.Words.{RowKey, RowVal, Writes}
use Rattle.issuer_view.specs.Words.{IsOnceEach, value_in}
use Rattle.stm_memory.specs.Words.{AreEstimated, AreReplaced, Chains, Entries, IsNewLocation}
use Rattle.stm_memory.specs.Words.{estimate_of, held, placed, rows_of, stands, value_at}
use Rattle.stm_memory.specs.declared.version.Version.{Version}
use Rattle.stm_memory.proofs.Kept.{once_still}
use Rattle.stm_memory.proofs.ListLaws.{written_is}
use Rattle.stm_memory.proofs.Loops.{some_of, is_some_of}
use Rattle.stm_memory.proofs.Placed.{held_placed}

-- what the two steps of recording do to the chains: rows that aren't written lose their entry, and then the written ones get theirs
pub record Steps (old mid new : Chains) (version : Version) (writes : Writes) : Type 0 where
  pub taken_others : (r : RowKey) (i : ℕ) → i ≢ version.index → stands mid r i ≡ stands old r i
  pub taken_written : (r : RowKey) → IsSome (value_in writes r) → stands mid r version.index ≡ stands old r version.index
  pub taken : (r : RowKey) → value_in writes r ≡ None → stands mid r version.index ≡ None
  pub put_others : (r : RowKey) (i : ℕ) → (i ≢ version.index) ⊎ (value_in writes r ≡ None) → stands new r i ≡ stands mid r i
  pub put_written : (r : RowKey) (value : RowVal) → value_in writes r ≡ Some value → stands new r version.index ≡ Some (value_at version.incarnation value)
  pub rows : rows_of new ≡ rows_of old
  pub once : IsOnceEach old
  pub writes_once : IsOnceEach writes

own : (old mid new : Chains) (version : Version) (writes : Writes) (row : RowKey) → Steps old mid new version writes → stands new row version.index ≡ option_map (value_at version.incarnation) (value_in writes row)
own old mid new version writes row steps =
    elim (value_in writes row) as (λ o. value_in writes row ≡ o → stands new row version.index ≡ option_map (value_at version.incarnation) o) [
      | None ↦ λ none. steps.put_others row version.index (inr none) ∙ steps.taken row none
      | Some value ↦ λ some. steps.put_written row value some
    ] refl

pub replaced : (old mid new : Chains) (version : Version) (writes : Writes) (was : Entries) → Steps old mid new version writes → finite.from_entries (placed old) ≡ was → AreReplaced version writes was (finite.from_entries (placed new))
replaced old mid new version writes was steps same =
    let once = once_still old new steps.rows steps.once in (
      λ row.
          held_placed new row version.index once ∙ own old mid new version writes row steps
          ∙ ap (option_map (value_at version.incarnation)) (sym (written_is writes row steps.writes_once)),
      λ row i ne.
          held_placed new row i once ∙ steps.put_others row i (inl ne) ∙ steps.taken_others row i ne
          ∙ sym (held_placed old row i steps.once) ∙ ap (λ (es : Entries). held es row i) same,
    )

pub new_location : (old mid new : Chains) (version : Version) (writes : Writes) (was : Entries) (answer : Bool) → Steps old mid new version writes → finite.from_entries (placed old) ≡ was → (IsTrue answer ↔ ((r : RowKey) × IsSome (value_in writes r) × (stands mid r version.index ≡ None))) → IsTrue answer ↔ IsNewLocation was version.index writes
new_location old mid new version writes was answer steps same told = (
  λ t.
      let there = told.0 t in
      let value = some_of (value_in writes there.0) there.1 in
      (there.0, value.0, written_is writes there.0 steps.writes_once ∙ value.1, sym (ap (λ (es : Entries). held es there.0 version.index) same) ∙ held_placed old there.0 version.index steps.once ∙ sym (steps.taken_written there.0 there.1) ∙ there.2),
  λ new_one.
      let some = is_some_of (value_in writes new_one.0) new_one.1 (sym (written_is writes new_one.0 steps.writes_once) ∙ new_one.2) in
      told.1 (new_one.0, some, steps.taken_written new_one.0 some ∙ sym (held_placed old new_one.0 version.index steps.once) ∙ ap (λ (es : Entries). held es new_one.0 version.index) same ∙ new_one.3),
)

-- all entries of an index are ESTIMATEs
pub estimated : (old new : Chains) (index : ℕ) (was : Entries) → ((r : RowKey) → stands new r index ≡ option_map estimate_of (stands old r index)) → ((r : RowKey) (i : ℕ) → i ≢ index → stands new r i ≡ stands old r i) → rows_of new ≡ rows_of old → IsOnceEach old → finite.from_entries (placed old) ≡ was → AreEstimated index was (finite.from_entries (placed new))
estimated old new index was own others rows once same =
    let after = once_still old new rows once in (
      λ row. held_placed new row index after ∙ own row ∙ ap (option_map estimate_of) (sym (held_placed old row index once) ∙ ap (λ (es : Entries). held es row index) same),
      λ row i ne. held_placed new row i after ∙ others row i ne ∙ sym (held_placed old row i once) ∙ ap (λ (es : Entries). held es row i) same,
    )

-- where an index has no entries, nothing has to be done
pub estimated_none : (old : Chains) (index : ℕ) (was : Entries) → ((r : RowKey) → stands old r index ≡ None) → IsOnceEach old → finite.from_entries (placed old) ≡ was → AreEstimated index was was
estimated_none old index was none once same =
    let empty : (row : RowKey) → held was row index ≡ None = λ row. sym (ap (λ (es : Entries). held es row index) same) ∙ held_placed old row index once ∙ none row in
    (λ row. empty row ∙ sym (ap (option_map estimate_of) (empty row)), λ row i ne. refl)
