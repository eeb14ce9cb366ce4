-- Days are in order on the new book, too.
use Rattle.std.proofs.Common.{◌≡◌, ℕ, ◌≤◌, Bool, true, false, ◌&&◌, not, cond, if◌then◌else◌, List, [], ◌∷◌, Option, Some, None, refl, sym, ap, ◌∙◌, subst, arith}
use Rattle.std.proofs.lemmas.Bool.{false≢true}
use Rattle.std.proofs.lemmas.List.Sums.{sum_by-cons}
use Rattle.std.specs.FinMap as map
use Rattle.std.specs.List.{AllByRecursion, filter, sum_by}
use Rattle.issuer_words.specs.Words.{CardRow, KeptOriginal, Pan, RowKey, RowVal, Rows, card_in, day_of, is_same_card, spent_in, text_eq, velocity_in}
use Rattle.issuer_rows.proofs.KeyLaws.{text_eq_decides}
use Rattle.issuer_rows.proofs.ListedRows.{listed_found}
use Rattle.issuer_laws.specs.Cards.{IsWithin}
use Rattle.issuer_laws.specs.Covered.{is_open_request, open_in, IsCovered}
use Rattle.issuer_laws.specs.Rules.{has}
use Rattle.issuer_laws.specs.Undone.{spent_on}
use Rattle.book_changes.specs.Archive.{is_before, is_past, is_past_at, new_rows}
use Rattle.book_changes.specs.Days.{KeepsDaysCovered, KeepsLimits}
use Rattle.book_changes.proofs.Alike.{not_past_at}
use Rattle.book_changes.proofs.SoundBooks.{entries_retained, sum_left}
use Rattle.book_changes.proofs.Splitting.{Row, is_new, get_new}

-- ---- a day before the date

-- rows of which those that are left count nothing
none_counts : (f : Row → ℕ) (left : Row → Bool) (P : Row → Type 0) (es : List Row) → ((e : Row) → P e → left e ≡ true → f e ≡ 0) → AllByRecursion P es → sum_by f (filter left es) ≡ 0
none_counts f left P [] nothing h = refl
none_counts f left P (e ∷ es) nothing h =
    let rest = none_counts f left P es nothing h.1 in
    elim (left e) as (λ b. left e ≡ b → sum_by f (if b then e ∷ filter left es else filter left es) ≡ 0) [
      | true ↦ λ is. let own = nothing e h.0 is in omega (arith, own, rest, sum_by-cons f e (filter left es))
      | false ↦ λ _. rest
    ] refl

other_day : (a b c : Bool) → b ≡ false → (a && (b && c)) ≡ false
other_day true b c h = ap (λ x. x && c) h
other_day false b c h = refl

-- what stays is of no day before the date
not_open : (date : List ℕ) (weight : KeptOriginal → ℕ) (pan : Pan) (day : List ℕ) → is_before date day ≡ true → (k : RowKey) (v : RowVal) → is_past date k v ≡ false → open_in weight pan day (k, v) ≡ 0
not_open date weight pan day before (RowKey.Original identity) (RowVal.Kept k) now =
    ap (λ (b : Bool). if b then weight k else 0)
    (other_day (is_same_card k.card pan) (text_eq (day_of identity.stamp) day) (is_open_request k.outcome) (apart (text_eq (day_of identity.stamp) day) refl))
  where
    apart : (t : Bool) → text_eq (day_of identity.stamp) day ≡ t → text_eq (day_of identity.stamp) day ≡ false
    apart true same = absurd (false≢true (sym now ∙ ap (is_before date) ((text_eq_decides (day_of identity.stamp) day).0 same) ∙ before))
    apart false other = other
not_open date weight pan day before (RowKey.Original identity) (RowVal.Card row) now = refl
not_open date weight pan day before (RowKey.Original identity) (RowVal.Velocity row) now = refl
not_open date weight pan day before (RowKey.Original identity) (RowVal.Budget row) now = refl
not_open date weight pan day before (RowKey.Original identity) (RowVal.Ahead mark) now = refl
not_open date weight pan day before (RowKey.Original identity) (RowVal.Account row) now = refl
not_open date weight pan day before (RowKey.Card own) v now = refl
not_open date weight pan day before (RowKey.Velocity own other) v now = refl
not_open date weight pan day before (RowKey.Budget prefix) v now = refl
not_open date weight pan day before (RowKey.Account id) v now = refl

turned : (b : Bool) → not b ≡ true → b ≡ false
turned true h = absurd (false≢true h)
turned false h = refl

none_open : (date : List ℕ) (rows : Rows) (weight : KeptOriginal → ℕ) (pan : Pan) (day : List ℕ) → is_before date day ≡ true → sum_by (open_in weight pan day) (map.entries (new_rows date rows)) ≡ 0
none_open date rows weight pan day before =
    ap (sum_by (open_in weight pan day)) (entries_retained rows (is_new date rows))
    ∙ none_counts (open_in weight pan day) (λ e. is_new date rows e.0) (λ e. map.get rows e.0 ≡ Some e.1) (map.entries rows)
    (λ e found left. not_open date weight pan day before e.0 e.1 (ap (has (is_past date e.0)) (sym found) ∙ turned (is_past_at date rows e.0) left))
    (listed_found rows)

-- ---- a later day

open_left : (date : List ℕ) (rows : Rows) (weight : KeptOriginal → ℕ) (pan : Pan) (day : List ℕ) → sum_by (open_in weight pan day) (map.entries (new_rows date rows)) ≤ sum_by (open_in weight pan day) (map.entries rows)
open_left date rows weight pan day =
    subst (λ (es : List Row). sum_by (open_in weight pan day) es ≤ sum_by (open_in weight pan day) (map.entries rows)) (sym (entries_retained rows (is_new date rows)))
    (sum_left (open_in weight pan day) (λ e. is_new date rows e.0) (map.entries rows))

same_day : (date : List ℕ) (rows : Rows) (pan : Pan) (day : List ℕ) → is_before date day ≡ false → spent_on (new_rows date rows) pan day ≡ spent_on rows pan day
same_day date rows pan day now =
    ap (λ (o : Option RowVal). spent_in (velocity_in o))
    (get_new date rows (RowKey.Velocity pan day) ∙ ap (λ b. cond (not b) (map.get rows (RowKey.Velocity pan day)) None) (not_past_at date rows (RowKey.Velocity pan day) now))

pub days_covered : (date : List ℕ) (rows : Rows) → KeepsDaysCovered date rows
days_covered date rows h pan day =
    elim (is_before date day) as (λ b. is_before date day ≡ b → IsCovered (new_rows date rows) pan day) [
      | true ↦ λ before. record {
        count = let none = none_open date rows (λ k. 1) pan day before in omega (arith, none);
        sum = let none = none_open date rows (λ k. k.amount) pan day before in omega (arith, none);
      }
      | false ↦ λ now.
          let same = same_day date rows pan day now in
          record {
            count = let left = open_left date rows (λ k. 1) pan day in let most = (h pan day).count in let one = ap (λ s. s.count) same in omega (arith, left, most, one);
            sum = let left = open_left date rows (λ k. k.amount) pan day in let most = (h pan day).sum in let one = ap (λ s. s.sum) same in omega (arith, left, most, one);
          }
    ] refl

-- ---- limits

same_card : (date : List ℕ) (rows : Rows) (pan : Pan) → card_in (map.get (new_rows date rows) (RowKey.Card pan)) ≡ card_in (map.get rows (RowKey.Card pan))
same_card date rows pan =
    ap card_in (get_new date rows (RowKey.Card pan) ∙ ap (λ b. cond (not b) (map.get rows (RowKey.Card pan)) None) (not_past_at date rows (RowKey.Card pan) refl))

-- a day is as it was, or nothing is spent on it
day_within : (card : CardRow) (past : Bool) (o : Option RowVal) → IsWithin card (spent_in (velocity_in o)) → IsWithin card (spent_in (velocity_in (cond (not past) o None)))
day_within card true o h = record { count = omega arith; sum = omega arith }
day_within card false o h = h

pub limits_kept : (date : List ℕ) (rows : Rows) → KeepsLimits date rows
limits_kept date rows h pan day card at =
    subst (λ (o : Option RowVal). IsWithin card (spent_in (velocity_in o))) (sym (get_new date rows (RowKey.Velocity pan day)))
    (day_within card (is_past_at date rows (RowKey.Velocity pan day)) (map.get rows (RowKey.Velocity pan day)) (h pan day card (sym (same_card date rows pan) ∙ at)))
