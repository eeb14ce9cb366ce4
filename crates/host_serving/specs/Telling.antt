-- What it changes to tell of an entry.
use Rattle.std.specs.Prelude.{◌≡◌, ℕ, List, Option, false}
use Rattle.std.specs.Io.KnownBytes.{Appends}
use Rattle.issuer_rows.specs.declared.frame.Frame.{Frame}
use Rattle.host_serving.specs.Tally.{one_more}
use Rattle.host_serving.specs.declared.tally.Tally.{Tally}
use Rattle.host_serving.specs.Lines.{entry_lines}
use Rattle.host_serving.specs.declared.teller.Teller.{Teller}

-- The log has one entry more, and unless the teller is stuck, which it stays for good, the writer took the lines of the entry and nothing else.
pub record TellsEntry {E : Type 0} (contents : E → Option (List ℕ)) (old : Teller E) (before : Tally) (messages : List Frame) (new : Teller E) : Type 0 where
  pub stats : new.stats ≡ old.stats
  pub entries : new.entries ≡ one_more old.entries
  pub stuck : new.is_stuck ≡ false → old.is_stuck ≡ false
  pub lines : new.is_stuck ≡ false → Appends (contents old.writer) (contents new.writer) (entry_lines old.stats before messages (one_more old.entries))
