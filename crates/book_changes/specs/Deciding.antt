-- What the book without the rows of the past answers.
use Rattle.std.specs.Prelude.{◌≡◌, ℕ, Bool, true, false, not, List, None, IsTrue}
use Rattle.std.specs.FinMap as map
use Rattle.std.specs.List.{AllByRecursion}
use Rattle.issuer_words.specs.Words.{Advice, Frame, Identity, Message, Request, Reversal, RowKey, Rows, day_of, identity_of, replies_to, reply_of, rows_after, writes_of}
use Rattle.issuer_laws.specs.Messages.{request_frame, advice_frame, reversal_frame, HasAction}
use Rattle.issuer_laws.specs.Parts.{may_need}
use Rattle.issuer_laws.specs.Repeated.{repeat_of_request, repeat_of_advice}
use Rattle.book_changes.specs.Archive.{is_before, is_past_at, new_rows}

-- ---- messages that need no row of the past

-- the message may need none of the rows that went
abbrev pub NeedsNoPast : List ℕ → Rows → Frame → Type 0
NeedsNoPast date rows frame = AllByRecursion (λ k. is_past_at date rows k ≡ false) (may_need rows frame)

-- The new book gives the replies that the book gives. Behind them both have the same rows, but for those that went: these are as they were
-- in the book, and the new book still has none of them.
pub record IsAnsweredAlike (date : List ℕ) (rows : Rows) (frames : List Frame) : Type 0 where
  pub replies : replies_to (new_rows date rows) frames ≡ replies_to rows frames
  pub others : (k : RowKey) → is_past_at date rows k ≡ false → map.get (rows_after (new_rows date rows) frames) k ≡ map.get (rows_after rows frames) k
  pub past : (k : RowKey) → is_past_at date rows k ≡ true → map.get (rows_after rows frames) k ≡ map.get rows k
  pub gone : (k : RowKey) → is_past_at date rows k ≡ true → map.get (rows_after (new_rows date rows) frames) k ≡ None

-- a batch of such messages is answered alike
abbrev pub AnswersAlike : List ℕ → Rows → List Frame → Type 0
AnswersAlike date rows frames = AllByRecursion (NeedsNoPast date rows) frames → IsAnsweredAlike date rows frames

-- ---- messages of the date and later

-- the message is of no day before the date; of a reversal its original is
abbrev pub is_later : List ℕ → Frame → Bool
is_later date (Frame.Good (Message.Request r)) = not (is_before date (day_of r.transaction.stamp))
is_later date (Frame.Good (Message.Advice a)) = not (is_before date (day_of a.transaction.stamp))
is_later date (Frame.Good (Message.Reversal v)) = not (is_before date (day_of v.original.identity.stamp))
is_later date (Frame.Bad fault) = true

-- such a message may need none of the rows that went
abbrev pub LaterNeedsNoPast : List ℕ → Rows → Frame → Type 0
LaterNeedsNoPast date rows frame = IsTrue (is_later date frame) → NeedsNoPast date rows frame

-- Such messages leave of the new book what archiving leaves of the book behind them: whether a book is archived before them or behind
-- them, the new book is the same.
abbrev pub ArchivesAnyTime : List ℕ → Rows → List Frame → Type 0
ArchivesAnyTime date rows frames =
    AllByRecursion (λ frame. IsTrue (is_later date frame)) frames → rows_after (new_rows date rows) frames ≡ new_rows date (rows_after rows frames)

-- ---- what comes too late

-- the original of this identity went
abbrev pub HasGone : List ℕ → Rows → Identity → Type 0
HasGone date rows identity = is_past_at date rows (RowKey.Original identity) ≡ true

-- a reversal of an original that went: 914, not able to trace back to the original, as of one that never came
abbrev pub LateReversalIsLost : List ℕ → Rows → Reversal → Type 0
LateReversalIsLost date rows v = HasGone date rows v.original.identity → HasAction 914 (reply_of (new_rows date rows) (reversal_frame v))

-- both bodies get the same reply and write the same rows
abbrev pub AreDecidedAlike : Rows → Frame → Frame → Type 0
AreDecidedAlike rows one other = (reply_of rows one ≡ reply_of rows other) × (writes_of rows one ≡ writes_of rows other)

-- the repeat of a request or of an advice that went is decided as that message itself, as one whose identity wasn't seen
abbrev pub LateRequestIsNew : List ℕ → Rows → Request → Type 0
LateRequestIsNew date rows r =
    HasGone date rows (identity_of r.transaction) → AreDecidedAlike (new_rows date rows) (request_frame (repeat_of_request r)) (request_frame r)

abbrev pub LateAdviceIsNew : List ℕ → Rows → Advice → Type 0
LateAdviceIsNew date rows a =
    HasGone date rows (identity_of a.transaction) → AreDecidedAlike (new_rows date rows) (advice_frame (repeat_of_advice a)) (advice_frame a)
