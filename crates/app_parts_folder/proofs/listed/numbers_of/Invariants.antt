use Rattle.std.proofs.Common.{◌≡◌, ◌++◌, drop}
use Rattle.app_parts_folder.proofs.listed.numbers_of.Given as goal

abbrev pub invariant-loop-byte : goal.invariant-loop-byte
invariant-loop-byte l = l.numbers.items ++ drop l.byte-index l.bytes ≡ l.bytes
