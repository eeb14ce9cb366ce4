-- What serving all links comes to, by the history of the host that they shared.
use Rattle.std.specs.Prelude.{◌≡◌, ◌<◌, ℕ, List, [], None, Some, IfSome, IsTrue, length, slice_get, slice_index_or}
use mathlib.Core.List.{IsPrefix}
use Rattle.logbook.specs.Pages.{Book}
use Rattle.issuer_rows.specs.Fold.{Rows}
use Rattle.host_serving.specs.Entering.{book_of}
use Rattle.host_serving.specs.declared.host.Host.{Host}
use Rattle.host_links.specs.Kept.{IsBehind}
use Rattle.host_links.specs.Lines.{LinkServed, LinkStopped}
use Rattle.host_links.specs.declared.links_outcome.LinksOutcome.{LinksOutcome}
use Rattle.host_links.specs.declared.link_turn.LinkTurn.{LinkTurn}
use Rattle.host_links.specs.declared.seat.Seat.{Seat}
use Rattle.host_links.specs.declared.seat.SeenTurns.{SeenTurns}

-- the link has seen a beginning of these turns, and as many of its own as the host counted
pub record HasAllTurns (link : ℕ) (turns : List LinkTurn) (counts : List ℕ) (seen : SeenTurns) : Type 0 where
  pub begins : IsPrefix seen.trace.seen.log turns
  pub count : slice_get counts link ≡ Some seen.count

-- the same of a link that was served
abbrev pub HasSeenAll : {I O : Type 0} → ℕ → List LinkTurn → List ℕ → Seat I O → Type 0
HasSeenAll link turns counts seat = IfSome seat.seen (HasAllTurns link turns counts)

-- what the link has seen is of this history
abbrev pub IsOfBook : {I O : Type 0} → Book → Seat I O → Type 0
IsOfBook book seat = IfSome seat.seen (λ seen. seen.trace.seen.book ≡ book)

-- over its source and its sink
module _ {I O : Type 0} (is_known : I → Type 0) (remaining : I → List ℕ) (puts : O → Type 0) (written : O → List ℕ) where
  -- By the turns of all links: without a fault all that came on this link came in its turns, and it was given the answers to them; with one
  -- the bytes of its turns are a beginning of what came, and it was given a beginning of the answers.
  pub record LinkMerged (link : ℕ) (opening : Rows) (turns : List LinkTurn) (old new : Seat I O) : Type 0 where
    pub served : new.fault ≡ None → LinkServed link opening turns (is_known old.source) (remaining old.source) [] (puts old.sink) (written old.sink) (written new.sink)
    pub stopped : LinkStopped link opening turns (is_known old.source) (remaining old.source) (puts old.sink) (written old.sink) (written new.sink)

-- There is one list of turns, each of one link: the log has their entries in that order, and the book is the one after their messages; and of
-- each link what came on it are its turns, and what it was given are the answers to them, each on the book after all turns before it.
pub record MergesAll {G N I O : Type 0} (is_known : G → Type 0) (synced unsynced : G → List ℕ) (comes : I → Type 0) (remaining : I → List ℕ) (puts : O → Type 0) (written : O → List ℕ)
    (host : Host G) (outcome : LinksOutcome G N) (old new : List (Seat I O)) : Type 0 where
  pub turns : List LinkTurn
  pub stands : ∥ IsBehind is_known synced unsynced host outcome.host outcome.fault turns ∥₁
  pub each : IsTrue outcome.has_all → (link : ℕ) (other : Seat I O) → link < length old
      → LinkMerged comes remaining puts written link (book_of host) turns (slice_index_or old link other) (slice_index_or new link other)
