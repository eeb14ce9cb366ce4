-- One turn of a link at a host.
use Rattle.std.specs.Prelude.{◌≡◌, ℕ, List}
use Rattle.issuer_rows.specs.Fold.{rows_after}
use Rattle.host_serving.specs.Entering.{Grows, book_of}
use Rattle.host_serving.specs.Serving.{LogAfter}
use Rattle.host_serving.specs.Tally.{counted}
use Rattle.host_serving.specs.Turn.{entry_of}
use Rattle.host_serving.specs.declared.host.Host.{Host}
use Rattle.host_serving.specs.declared.host_fault.HostFault.{HostFault}
use Rattle.host_serving.specs.declared.host_fault.HostFault.TheVariants.{Link, Log, OutOfMemory}
use Rattle.host_links.specs.Turns.{IsTurnOfLink, answer_to_turn}
use Rattle.host_links.specs.declared.link_turn.LinkTurn.{LinkTurn}

-- a fault in a turn is one of the log or of memory: answers that can't be kept are want of memory, too
abbrev pub of_all : HostFault → HostFault
of_all (Link fault) = OutOfMemory
of_all (Log fault) = Log fault
of_all OutOfMemory = OutOfMemory

module _ {G : Type 0} (is_known : G → Type 0) (synced unsynced : G → List ℕ) where
  -- The turn is whole frames; its entry stands in the log, synced; the book is the one after its messages; and these are the answers to it.
  pub record Turns (old new : Host G) (turn : LinkTurn) (replies : List ℕ) : Type 0 where
    pub is : IsTurnOfLink turn
    pub log : Grows is_known synced unsynced old.log new.log (entry_of turn.bodies)
    pub book : book_of new ≡ rows_after (book_of old) turn.messages
    pub tally : new.decider.tally ≡ counted old.decider.tally turn.messages
    pub answers : replies ≡ answer_to_turn (book_of old) turn

  -- It stopped in the turn: the log may have its entry, or a beginning of it.
  abbrev pub StopsTurning : HostFault → Host G → Host G → Type 0
  StopsTurning fault old new = (more : List (List (List ℕ))) × LogAfter is_known synced unsynced fault old.log new.log more
