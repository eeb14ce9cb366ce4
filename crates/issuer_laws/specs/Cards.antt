-- Cards, and what their limits allow.
use Rattle.std.specs.Prelude.{◌≡◌, ◌≢◌, ℕ, ◌≤◌, List, Some}
use Rattle.std.specs.FinMap as map
use Rattle.issuer_words.specs.Words.{Approval, CardRow, Frame, Pan, Request, RowKey, Rows, VelocityRow, Verdict, card_in, day_of, identity_of, reply_of, reply_to_request, rows_after, rows_after_one}
use Rattle.issuer_laws.specs.Messages.{request_frame, IsUnseen}
use Rattle.issuer_laws.specs.Undone.{spent_on, IsAnsweredFirst}

-- the card of this number has this row
abbrev pub IsCardAt : Rows → Pan → CardRow → Type 0
IsCardAt rows pan card = card_in (map.get rows (RowKey.Card pan)) ≡ Some card

-- nothing of a card's row changes but its approvals, which never fall
pub record IsSameCard (before after : CardRow) : Type 0 where
  pub same : after ≡ record before { approvals = after.approvals }
  pub rises : before.approvals ≤ after.approvals

-- a card that is there is still there after these bodies
abbrev pub StaysCard : Rows → Pan → CardRow → List Frame → Type 0
StaysCard rows pan card frames = IsCardAt rows pan card → (later : CardRow) × IsCardAt (rows_after rows frames) pan later × IsSameCard card later

-- so many approvals and so much money are no more than the card allows for a day
pub record IsWithin (card : CardRow) (spent : VelocityRow) : Type 0 where
  pub count : spent.count ≤ card.day_count
  pub sum : spent.sum ≤ card.day_amount

-- on every day no more was spent with any card that is there than it allows
abbrev pub IsWithinLimits : Rows → Type 0
IsWithinLimits rows = (pan : Pan) (day : List ℕ) (card : CardRow) → IsCardAt rows pan card → IsWithin card (spent_on rows pan day)

-- a request whose identity wasn't seen, answered 000: its day is within its card's limits behind it
abbrev pub LeavesDayWithin : Rows → Request → Type 0
LeavesDayWithin rows r =
    IsAnsweredFirst rows r.transaction (request_frame r) 0
    → (card : CardRow) × IsCardAt (rows_after_one rows (request_frame r)) r.transaction.pan card
    × IsWithin card (spent_on (rows_after_one rows (request_frame r)) r.transaction.pan (day_of r.transaction.stamp))

-- a request whose identity wasn't seen is approved with this code
abbrev pub IsApprovedWith : Rows → Request → Approval → Type 0
IsApprovedWith rows r code =
    IsUnseen rows (identity_of r.transaction) × (reply_of rows (request_frame r) ≡ reply_to_request r (Verdict.Approved code))

-- the approval codes of two requests of one card differ, whatever comes between them
abbrev pub CodesDiffer : Rows → Request → List Frame → Request → Type 0
CodesDiffer rows first between second =
    second.transaction.pan ≡ first.transaction.pan
    → (a b : Approval)
    → IsApprovedWith rows first a
    → IsApprovedWith (rows_after (rows_after_one rows (request_frame first)) between) second b
    → a ≢ b
