-- What serving several links on a log comes to, by the book's file, the log's, and the bytes that came and went on each.
use Rattle.std.specs.Prelude.{◌≡◌, ◌<◌, ℕ, List, ◌++◌, Ok, length, slice_index_or}
use Rattle.std.specs.List.{AllByRecursion}
use Rattle.issuer_words.specs.Words.{Frame, Rows, rows_after}
use Rattle.book_laws.specs.Reading.{reading}
use Rattle.host_serving.specs.Entries.{AreMessagesOf}
use Rattle.host_commands.specs.Opening.{book_digest, HoldsEntries}
use Rattle.host_links.specs.Merged.{LinkMerged}
use Rattle.host_links.specs.Turns.{IsTurnOfLink}
use Rattle.host_links.specs.declared.link_turn.LinkTurn.{LinkTurn}
use Rattle.host_links.specs.declared.seat.Seat.{Seat}

-- The text is a book, and the log is this book's. There is one list of turns of all links; of each link what came on it are its turns, or
-- after a fault these are a beginning, and what was written are the answers to them, or a beginning: each decided on the book after the
-- messages of the log and of all turns before it.
pub record AreAnswered {I O : Type 0} (comes : I → Type 0) (remaining : I → List ℕ) (puts : O → Type 0) (written : O → List ℕ) (text log : List ℕ) (old new : List (Seat I O)) : Type 0 where
  pub opening : Rows
  pub read : reading text ≡ Ok opening
  pub entries : List (List (List ℕ))
  pub held : HoldsEntries (book_digest opening) log entries
  pub logged : List Frame
  pub spelled : AreMessagesOf entries logged
  pub turns : List LinkTurn
  pub are : ∥ AllByRecursion IsTurnOfLink turns ∥₁
  pub each : (link : ℕ) (other : Seat I O) → link < length old
      → LinkMerged comes remaining puts written link (rows_after opening logged) turns (slice_index_or old link other) (slice_index_or new link other)
