-- What an acquirer's totals say of an account.
use Rattle.std.specs.Prelude.{◌≡◌, ℕ, ◌+◌, Bool, false, ◌&&◌, ◌==◌, List, [], ◌∷◌, Option, Some, None, is_none, if◌then◌else◌}
use Rattle.std.specs.FinMap as map
use Rattle.issuer_words.specs.Words.{AccountId, Frame, Identity, Message, OriginalRow, ReplyBody, Reversal, RowKey, Rows, account_in, available_in, given_back, identity_of, is_from_account, original_in, reply_of, reversal_of_outcome, rows_after, rows_after_one}
use Rattle.issuer_laws.specs.Messages.{action_of_answer}

-- what is available of the account
abbrev pub available : Rows → AccountId → ℕ
available rows id = available_in (account_in (map.get rows (RowKey.Account id)))

-- the row of an original
abbrev pub original_at : Rows → Identity → Option OriginalRow
original_at rows identity = original_in (map.get rows (RowKey.Original identity))

-- the reply has this action code
abbrev pub is_answered : ℕ → ReplyBody → Bool
is_answered action (ReplyBody.Reply reply) = action_of_answer reply.answer == action
is_answered action (ReplyBody.Fault fault) = false

-- what is kept was paid from the account
abbrev pub is_paid_from : AccountId → Option OriginalRow → Bool
is_paid_from id None = false
is_paid_from id (Some (OriginalRow.Ahead mark)) = false
is_paid_from id (Some (OriginalRow.Kept k)) = is_from_account id k

-- the amount of a message that is the first of its identity, gets this action, and is paid from the account
abbrev pub taken_by : AccountId → Rows → Frame → Identity → ℕ → ℕ → ℕ
taken_by id rows frame identity amount action =
    if is_none (original_at rows identity) && (is_answered action (reply_of rows frame) && is_paid_from id (original_at (rows_after_one rows frame) identity)) then amount
    else 0

-- what a message takes from the account: a request that is answered 000, an advice that is answered 901
abbrev pub taken : AccountId → Rows → Frame → ℕ
taken id rows (Frame.Good (Message.Request r)) =
    taken_by id rows (Frame.Good (Message.Request r)) (identity_of r.transaction) r.transaction.amount 0
taken id rows (Frame.Good (Message.Advice a)) =
    taken_by id rows (Frame.Good (Message.Advice a)) (identity_of a.transaction) a.transaction.amount 901
taken id rows (Frame.Good (Message.Reversal v)) = 0
taken id rows (Frame.Bad fault) = 0

-- what a reversal of this original gives back to the account: nothing where it has a reversal, or was paid from elsewhere
abbrev pub returned_of : AccountId → Reversal → Option OriginalRow → ℕ
returned_of id v None = 0
returned_of id v (Some (OriginalRow.Ahead mark)) = 0
returned_of id v (Some (OriginalRow.Kept k)) = if is_none (reversal_of_outcome k.outcome) && is_from_account id k then given_back v k else 0

-- what a message gives back to the account: a reversal that is answered 400
abbrev pub returned : AccountId → Rows → Frame → ℕ
returned id rows (Frame.Good (Message.Request r)) = 0
returned id rows (Frame.Good (Message.Advice a)) = 0
returned id rows (Frame.Good (Message.Reversal v)) =
    if is_answered 400 (reply_of rows (Frame.Good (Message.Reversal v))) then returned_of id v (original_at rows v.original.identity) else 0
returned id rows (Frame.Bad fault) = 0

-- the totals of a batch
abbrev pub all_taken : AccountId → Rows → List Frame → ℕ
all_taken id rows [] = 0
all_taken id rows (frame ∷ frames) = taken id rows frame + all_taken id (rows_after_one rows frame) frames

abbrev pub all_returned : AccountId → Rows → List Frame → ℕ
all_returned id rows [] = 0
all_returned id rows (frame ∷ frames) = returned id rows frame + all_returned id (rows_after_one rows frame) frames

-- what the account had, and what was returned to it, is what it has, and what was taken from it
abbrev pub IsReconciled : Rows → List Frame → AccountId → Type 0
IsReconciled rows frames id = available rows id + all_returned id rows frames ≡ available (rows_after rows frames) id + all_taken id rows frames
