-- What serving one of several links comes to.
use Rattle.std.specs.Prelude.{◌≡◌, ℕ, List, [], None, Some}
use Rattle.logbook.specs.Pages.{Book}
use Rattle.issuer_rows.specs.Fold.{Rows}
use Rattle.host_links.specs.Lines.{LinkServed, LinkStopped}
use Rattle.host_links.specs.Turns.{turns_of}
use Rattle.host_links.specs.declared.seat.Seat.{Seat}
use Rattle.host_links.specs.declared.seat.SeenTurns.{SeenTurns}

-- over its source and its sink
module _ {I O : Type 0} (is_known : I → Type 0) (remaining : I → List ℕ) (puts : O → Type 0) (written : O → List ℕ) where
  -- The link has seen turns of this history, all its own among them, and counted these. Without a fault all that came was served and answered;
  -- with one a beginning was.
  pub record SeatServed (book : Book) (link : ℕ) (opening : Rows) (old new : Seat I O) : Type 0 where
    pub seen : SeenTurns
    pub is : new.seen ≡ Some seen
    pub of : seen.trace.seen.book ≡ book
    pub count : turns_of link seen.trace.seen.log ≡ seen.count
    pub served : new.fault ≡ None → LinkServed link opening seen.trace.seen.log (is_known old.source) (remaining old.source) [] (puts old.sink) (written old.sink) (written new.sink)
    pub stopped : LinkStopped link opening seen.trace.seen.log (is_known old.source) (remaining old.source) (puts old.sink) (written old.sink) (written new.sink)
