-- A message that is sent again to a later run.
use Rattle.std.specs.Prelude.{◌≡◌, ◌≢◌, ℕ, zero, suc, List, [], ◌∷◌, take, Some}
use Rattle.std.specs.List.{slice_get}
use Rattle.issuer_words.specs.Words.{Frame, Message, OriginalKind, ReplyBody, Rows, rows_after}
use Rattle.issuer_laws.specs.Again.{again}
use Rattle.issuer_laws.specs.Repeated.{IsFirst}
use Rattle.file_batch.specs.Words.{Holding, IsReplyFileOf, Names}

-- a request or an advice that is the first of its identity on this book
abbrev pub IsFirstSent : Rows → Frame → Type 0
IsFirstSent rows (Frame.Good (Message.Request r)) = IsFirst rows r.transaction OriginalKind.Request
IsFirstSent rows (Frame.Good (Message.Advice a)) = IsFirst rows a.transaction OriginalKind.Advice
IsFirstSent rows _ = ⊥

-- Message i of a batch that was decided on these rows was the first of its identity, and message j of a later batch is its repeat.
pub record IsRepeatOf (rows : Rows) (batch : List Frame) (i : ℕ) (later : List Frame) (j : ℕ) : Type 0 where
  pub message : Frame
  pub sent : slice_get batch i ≡ Some message
  pub first : IsFirstSent (rows_after rows (take i batch)) message
  pub repeat : slice_get later j ≡ Some (again message)

-- the list without the item at this place
abbrev pub without : {X : Type 0} → ℕ → List X → List X
without place [] = []
without zero (x ∷ xs) = xs
without (suc place) (x ∷ xs) = x ∷ without place xs

-- whoever reads the file of the replies finds these
abbrev pub AreRepliesIn : Holding → Names → List ReplyBody → Type 0
AreRepliesIn holds names replies = (bytes : List ℕ) → holds names.replies bytes → IsReplyFileOf bytes replies

-- replies and new book are of two files
abbrev pub HasTwoOutputs : Names → Type 0
HasTwoOutputs names = names.replies ≢ names.new_book

-- the book of a later run is the new book that an earlier one left
abbrev pub IsBookLeft : Holding → Names → Holding → Names → Type 0
IsBookLeft left names opened later = (bytes : List ℕ) → left names.new_book bytes → opened later.book bytes
