-- Serving several links on a log that was opened.
use Rattle.std.proofs.Common.{ℕ, List, IsTrue, subst, sym}
use Rattle.std.proofs.Math.Logic.{∥∥₁_map}
use Rattle.issuer_rows.specs.Fold.{rows_after}
use Rattle.host_serving.specs.Entering.{book_of}
use Rattle.host_serving.specs.declared.host.Host.{Host}
use Rattle.host_commands.specs.Opening.{IsOpened}
use Rattle.host_links.specs.Merged.{MergesAll}
use Rattle.host_links.specs.declared.links_outcome.LinksOutcome.{LinksOutcome}
use Rattle.host_links.specs.declared.seat.Seat.{Seat}
use Rattle.host_links.proofs.Merging.{merged_for}
use Rattle.host_commands.specs.Together.{AreAnswered}

pub answered_together : {G N I O : Type 0} (is_known : G → Type 0) (synced unsynced : G → List ℕ) (comes : I → Type 0) (remaining : I → List ℕ) (puts : O → Type 0) (written : O → List ℕ)
    (text log : List ℕ) (host : Host G) (outcome : LinksOutcome G N) (old new : List (Seat I O)) → IsOpened is_known synced unsynced text log host
    → MergesAll is_known synced unsynced comes remaining puts written host outcome old new → IsTrue outcome.has_all → AreAnswered comes remaining puts written text log old new
answered_together is_known synced unsynced comes remaining puts written text log host outcome old new on merges has =
    let again = on.again in
    record {
      opening = on.book;
      read = on.read;
      entries = again.entries;
      held = again.held;
      logged = again.messages;
      spelled = again.stands.read;
      turns = merges.turns;
      are = ∥∥₁_map merges.stands (λ stands. stands.are);
      each = λ link other less.
          merged_for comes remaining puts written link (book_of host) (rows_after on.book again.messages) merges.turns _ _ (sym again.stands.book) (merges.each has link other less);
    }
