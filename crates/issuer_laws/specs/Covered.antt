-- Requests that can still be reversed, and days that have what a reversal takes from them.
use Rattle.std.specs.Prelude.{ℕ, ◌≤◌, Bool, false, ◌&&◌, List, is_none, if◌then◌else◌}
use Rattle.std.specs.FinMap as map
use Rattle.std.specs.List.{sum_by}
use Rattle.issuer_words.specs.Words.{Identity, KeptOriginal, OriginalOutcome, Pan, RowKey, RowVal, Rows, day_of, is_same_card, text_eq}
use Rattle.issuer_laws.specs.Undone.{spent_on}

-- a request that was approved and has no reversal
abbrev pub is_open_request : OriginalOutcome → Bool
is_open_request (OriginalOutcome.Approved code payment) = is_none payment.settlement
is_open_request (OriginalOutcome.Declined action reversal) = false
is_open_request (OriginalOutcome.Accepted payment) = false
is_open_request (OriginalOutcome.Acknowledged action reversal) = false

-- it is such a request of this card and day
abbrev pub is_open_on : Pan → List ℕ → Identity → KeptOriginal → Bool
is_open_on pan day identity k = is_same_card k.card pan && (text_eq (day_of identity.stamp) day && is_open_request k.outcome)

-- what a row counts among these, by how much each of them counts
abbrev pub open_in : (KeptOriginal → ℕ) → Pan → List ℕ → RowKey × RowVal → ℕ
open_in weight pan day (RowKey.Original identity, RowVal.Kept k) = if is_open_on pan day identity k then weight k else 0
open_in weight pan day _ = 0

-- how many there are of a card and day, and how much money
abbrev pub open_count : Rows → Pan → List ℕ → ℕ
open_count rows pan day = sum_by (open_in (λ k. 1) pan day) (map.entries rows)

abbrev pub open_sum : Rows → Pan → List ℕ → ℕ
open_sum rows pan day = sum_by (open_in (λ k. k.amount) pan day) (map.entries rows)

-- a day has the approvals and the money of all of its requests that can still be reversed
pub record IsCovered (rows : Rows) (pan : Pan) (day : List ℕ) : Type 0 where
  pub count : open_count rows pan day ≤ (spent_on rows pan day).count
  pub sum : open_sum rows pan day ≤ (spent_on rows pan day).sum

-- each day does
abbrev pub AreDaysCovered : Rows → Type 0
AreDaysCovered rows = (pan : Pan) (day : List ℕ) → IsCovered rows pan day
