use Rattle.std.proofs.Common.{◌≡◌, ℕ, ◌<◌, Some, IsSome, slice_get}
use Rattle.issuer_words.specs.Words.{RowKey, RowVal}
use Rattle.stm_memory.specs.Entries.{held}
use Rattle.stm_core.proofs.logging.puts_new_location.Given as goal

abbrev pub invariant-loop-place : goal.invariant-loop-place
invariant-loop-place l = (k : ℕ) (write : RowKey × RowVal) → k < l.place → slice_get l.writes k ≡ Some write → IsSome (held l.memory.entries write.0 l.index)
