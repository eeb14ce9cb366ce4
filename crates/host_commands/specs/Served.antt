-- What serving a link comes to, by the book's file, the log's, and the bytes that came and went.
use Rattle.std.specs.Prelude.{◌≡◌, ◌≢◌, ◌⊎◌, ℕ, List, [], ◌++◌, Ok}
use Rattle.std.specs.List.{AllByRecursion}
use Rattle.issuer_words.specs.Words.{Frame, Rows, rows_after}
use Rattle.book_laws.specs.Reading.{reading}
use Rattle.file_laws.specs.Frames.{AreFramesOf}
use Rattle.link_frames.specs.Incoming.{Incoming, IsIncoming, frames_of, bodies_of}
use Rattle.link_frames.specs.Link.{AreFrames}
use Rattle.link_frames.specs.Replies.{AppendsPart}
use Rattle.host_serving.specs.Deciding.{answers_to}
use Rattle.host_serving.specs.Entries.{AreMessagesOf}
use Rattle.host_commands.specs.Opening.{book_digest, HoldsEntries}

-- The text is a book, and the log is this book's. Some first frames came; the bodies among them, which are all but network management, were
-- decided, one after another, on the book after the messages of the log, and what was written is a beginning of their replies and of those
-- to network management, in the order of the frames; where all is answered, no byte of what came is left, and it is all of them.
pub record IsAnswered (text log came before after : List ℕ) (all : Type 0) : Type 0 where
  pub opening : Rows
  pub read : reading text ≡ Ok opening
  pub entries : List (List (List ℕ))
  pub held : HoldsEntries (book_digest opening) log entries
  pub logged : List Frame
  pub spelled : AreMessagesOf entries logged
  pub incoming : List Incoming
  pub left : List ℕ
  pub frames : AreFrames came (frames_of incoming) left
  pub each : AllByRecursion IsIncoming incoming
  pub messages : List Frame
  pub are : AreFramesOf (bodies_of incoming) messages
  pub answered : AppendsPart before after (answers_to (rows_after opening logged) incoming messages)
  pub whole : all → (left ≡ []) × (after ≡ before ++ answers_to (rows_after opening logged) incoming messages)

-- with status 0 all that came is answered; with another one nothing is, or a beginning
abbrev pub IsServed : List ℕ → List ℕ → List ℕ → ℕ → List ℕ → List ℕ → Type 0
IsServed text log came status before after = ((status ≢ 0) × (after ≡ before)) ⊎ IsAnswered text log came before after (status ≡ 0)
