use Rattle.std.proofs.Common.{take}
use Rattle.app_parts_folder.specs.Writing.{AreWritten}
use Rattle.app_parts_folder.proofs.putting.write_texts.Given as goal

-- the first texts are written
abbrev pub invariant-loop-text : goal.invariant-loop-text
invariant-loop-text g l = AreWritten g.F.Output.Sink.is_known g.F.Output.Sink.written (g.F.Files.is_known l.fn.files) (take l.text-index l.texts) l.all.items
