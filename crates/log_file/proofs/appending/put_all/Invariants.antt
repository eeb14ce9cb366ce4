use Rattle.std.proofs.Common.{◌≡◌, length}
use Rattle.log_file.specs.Device.{UsesFile}
use Rattle.std.specs.Prelude.{Ok}
use Rattle.log_file.proofs.appending.put_all.Given as goal
use Rattle.file_devices.proofs.Puts.{IsPut}

-- what was written, and the rest
abbrev pub invariant-loop-rest : goal.invariant-loop-rest
invariant-loop-rest g l = record {
  device : UsesFile g.G.GrowingFile.is_known g.G.GrowingFile.has_failed g.G.GrowingFile.may_fail {X = Unit {0}} l.fn.file l.file (Ok tt);
  synced : g.G.GrowingFile.is_known l.fn.file → g.G.GrowingFile.synced l.file ≡ g.G.GrowingFile.synced l.fn.file;
  bytes : g.G.GrowingFile.is_known l.fn.file → IsPut (g.G.GrowingFile.unsynced l.fn.file) (g.G.GrowingFile.unsynced l.file) l.bytes l.rest;
}

abbrev pub decreases-loop-rest : goal.decreases-loop-rest
decreases-loop-rest g l = length l.rest
