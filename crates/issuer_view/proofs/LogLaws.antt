-- A row that was not read yet goes last in the log.
use Rattle.std.proofs.Common.{◌≡◌, ◌+◌, ◌<◌, ℕ, zero, suc, [], ◌∷◌, ◌++◌, length, take, set, slice_get, slice_index_or, Vec, Option, Some, None, ap, subst, refl, sym, arith, ◌∙◌}
use Rattle.std.proofs.lemmas.List.{take_more_set, with_items_is}
use Rattle.std.proofs.lemmas.Option.{same_Some}
use Rattle.std.specs.Vec.{with_items}
use Rattle.indexmap.specs.IndexMap.{IndexMap, insert_entry}
use Rattle.indexmap.proofs.CallerLemmas.{insert_entry-new}
use Rattle.issuer_words.specs.Words.{Reads, RowKey, RowVal, key_eq}
use Rattle.issuer_view.specs.RowSets.{value_in, latest, latest_after, logged}

module _ {S : Type 0} (room : IndexMap RowKey (Option RowVal) S) (reads entries : Reads) (key : RowKey) (row : Option RowVal) where
  pub logged_last : room.entries ≡ reads → value_in reads key ≡ None → entries ≡ insert_entry key_eq room.entries key row → entries ≡ logged reads key row
  logged_last kept none put = put ∙ insert_entry-new key_eq room key row (ap (λ r. value_in r key) kept ∙ none) ∙ ap (λ r. logged r key row) kept

-- what was read last is what stands last
pub latest_last : (before : Option RowVal) (reads : Reads) (key : RowKey) (row : Option RowVal) → latest_after before (logged reads key row) ≡ row
latest_last before [] key row = refl
latest_last before (read ∷ reads) key row = latest_last read.1 reads key row

written_last : (before : Option RowVal) (rows : Reads) (place : ℕ) (read : RowKey × Option RowVal) → place < length rows → latest_after before (take (suc place) (set rows place read)) ≡ read.1
written_last before [] place read within = absurd (omega (arith, within))
written_last before (row ∷ rows) zero read within = refl
written_last before (row ∷ rows) (suc place) read within = written_last row.1 rows place read (omega (arith, within))

-- what was read last is what was written at the last of the places that count
pub latest_set : (before : Option RowVal) (rows : Reads) (place : ℕ) (read : RowKey × Option RowVal) → place < length rows → latest_after before (take (place + 1) (set rows place read)) ≡ read.1
latest_set before rows place read within =
    let one_more : place + 1 ≡ suc place = omega arith in
    ap (λ n. latest_after before (take n (set rows place read))) one_more ∙ written_last before rows place read within

-- places of a vector that were lent as a slice, and written to
module _ {Z : Type 0} (places : Vec (RowKey × Option RowVal) Z) (written there before : Reads) (used : ℕ) (key : RowKey) (as_long : length written ≡ length there) (lent : there ≡ places.items) where
  -- what holds of the rows as they were written
  pub as_written : (P : Reads → Type 0) → P (take (used + 1) written) → P (take (used + 1) (with_items places written).items)
  as_written P p = subst (λ (rows : Reads). P (take (used + 1) rows)) (sym (with_items_is places written (as_long ∙ ap (λ (rows : Reads). length rows) lent ∙ sym places.ok.0))) p

  -- the row that was asked for goes behind those that were there
  pub asked_last : used < length places.items → take used places.items ≡ before → written ≡ set there used (key, latest (take (used + 1) written))
      → take (used + 1) (with_items places written).items ≡ logged before key (latest (take (used + 1) (with_items places written).items))
  asked_last within kept put =
      let last : Option RowVal = latest (take (used + 1) written) in
      as_written (λ rows. rows ≡ logged before key (latest rows))
      (ap (λ (rows : Reads). take (used + 1) rows) put
      ∙ take_more_set there used (key, last) (subst (λ (rows : Reads). used < length rows) (sym lent) within)
      ∙ ap (λ (rows : Reads). logged rows key last) (ap (λ (rows : Reads). take used rows) lent ∙ kept))

-- what was read last stands at the last place
pub last_place : (before : Option RowVal) (reads : Reads) (i : ℕ) (other : RowKey × Option RowVal) → suc i ≡ length reads → (slice_index_or reads i other).1 ≡ latest_after before reads
last_place before [] i other last = absurd (omega (arith, last))
last_place before (read ∷ []) zero other last = refl
last_place before (read ∷ []) (suc i) other last = absurd (omega (arith, last))
last_place before (read ∷ next ∷ reads) zero other last = absurd (omega (arith, last))
last_place before (read ∷ next ∷ reads) (suc i) other last = last_place read.1 (next ∷ reads) i other (omega (arith, last))

-- what was read last is the last of those that stand behind others
pub latest_behind : (before : Option RowVal) (first reads : Reads) (i : ℕ) (read : RowKey × Option RowVal) → suc i ≡ length reads → slice_get reads i ≡ Some read → read.1 ≡ latest_after before (first ++ reads)
latest_behind before (other ∷ first) reads i read last at = latest_behind other.1 first reads i read last at
latest_behind before [] [] i read last at = absurd (omega (arith, last))
latest_behind before [] (only ∷ []) zero read last at = sym (ap (λ (r : RowKey × Option RowVal). r.1) (same_Some only read at))
latest_behind before [] (only ∷ []) (suc i) read last at = absurd (omega (arith, last))
latest_behind before [] (one ∷ next ∷ reads) zero read last at = absurd (omega (arith, last))
latest_behind before [] (one ∷ next ∷ reads) (suc i) read last at = latest_behind one.1 [] (next ∷ reads) i read (omega (arith, last)) at

-- what was read last, where it goes behind others
pub latest_logged : (before : Option RowVal) (first reads : Reads) (key : RowKey) (row : Option RowVal) → latest_after before (first ++ logged reads key row) ≡ row
latest_logged before [] reads key row = latest_last before reads key row
latest_logged before (read ∷ first) reads key row = latest_logged read.1 first reads key row
