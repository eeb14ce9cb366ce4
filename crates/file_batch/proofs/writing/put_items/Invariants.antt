use Rattle.std.proofs.Common.{length, take}
use Rattle.std.specs.List.{AllByRecursion}
use Rattle.file_laws.specs.Files.{head_text}
use Rattle.file_batch.proofs.Pieces.{Progress, behind_length, so_many}
use Rattle.file_batch.specs.Device.{KeepsDevice}
use Rattle.file_batch.proofs.writing.put_items.Given as goal

-- what was written and what is about to be written are the text of the items so far
abbrev pub invariant-loop-item : goal.invariant-loop-item
invariant-loop-item g l = record {
  device : KeepsDevice g.W.Sink.is_known g.W.Sink.has_failed g.W.Sink.may_fail l.fn.sink l.sink;
  bytes : g.W.Sink.is_known l.fn.sink → Progress (g.W.Sink.written l.fn.sink) (g.W.Sink.written l.sink) l.out.items
      (so_many (behind_length g.T.FileItem.text) (head_text l.magic (length l.items)) l.items l.item-index);
  holds : AllByRecursion g.T.FileItem.holds (take l.item-index l.items);
}
