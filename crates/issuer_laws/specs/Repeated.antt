-- A message that is sent again.
use Rattle.std.specs.Prelude.{◌≡◌, true, List, [], Option, Some, None, IsTrue}
use Rattle.std.specs.FinMap as map
use Rattle.issuer_words.specs.Words.{Advice, Frame, OriginalKind, OriginalRow, Request, RowKey, Rows, Transaction, identity_of, is_marked, original_in, reply_of, rows_after, rows_after_one, writes_of}
use Rattle.issuer_laws.specs.Messages.{request_frame, advice_frame}

-- a row of an identity leaves it to this message: there is none, or it is the mark of a reversal that came ahead and names its card and kind
abbrev pub IsLeftTo : Transaction → OriginalKind → Option OriginalRow → Type 0
IsLeftTo t k None = Unit {0}
IsLeftTo t k (Some (OriginalRow.Ahead mark)) = IsTrue (is_marked mark t k)
IsLeftTo t k (Some (OriginalRow.Kept kept)) = ⊥

-- the message is the first of its identity: none was decided, and a reversal that came ahead is its own
abbrev pub IsFirst : Rows → Transaction → OriginalKind → Type 0
IsFirst rows t k = IsLeftTo t k (original_in (map.get rows (RowKey.Original (identity_of t))))

-- the second body, after the first and those between, gets the first's reply, and writes nothing
abbrev pub GetsSameReply : Rows → Frame → List Frame → Frame → Type 0
GetsSameReply rows first between second =
    let later = rows_after (rows_after_one rows first) between in
    (reply_of later second ≡ reply_of rows first) × (writes_of later second ≡ [])

-- the request's repeat, 1101
abbrev pub repeat_of_request : Request → Request
repeat_of_request r = record r { repeat = true }

-- the advice's repeat, 1121
abbrev pub repeat_of_advice : Advice → Advice
repeat_of_advice a = record a { repeat = true }

-- a request that is the first of its identity, whatever comes behind it, its own reversal too, and its repeat
abbrev pub RequestIsAnsweredAlike : Rows → Request → List Frame → Type 0
RequestIsAnsweredAlike rows r between =
    IsFirst rows r.transaction OriginalKind.Request → GetsSameReply rows (request_frame r) between (request_frame (repeat_of_request r))

-- an advice that is the first of its identity, whatever comes behind it, its own reversal too, and its repeat
abbrev pub AdviceIsAnsweredAlike : Rows → Advice → List Frame → Type 0
AdviceIsAnsweredAlike rows a between =
    IsFirst rows a.transaction OriginalKind.Advice → GetsSameReply rows (advice_frame a) between (advice_frame (repeat_of_advice a))
