use Rattle.std.proofs.Common.{take}
use Rattle.std.specs.List.{flat_map}
use Rattle.book_laws.specs.Text.{Adds}
use Rattle.reason_json.specs.Tokens.{read_tokens}
use Rattle.reason_json.proofs.sets.put_each_read.Given as goal

-- the rows so far are written
abbrev pub invariant-loop-index : goal.invariant-loop-index
invariant-loop-index l = Adds l.fn.out l.out (flat_map (read_tokens l.cards) (take l.index l.reads))
