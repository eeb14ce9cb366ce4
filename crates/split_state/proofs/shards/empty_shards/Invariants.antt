use Rattle.std.proofs.Common.{◌≡◌, length}
use Rattle.split_state.proofs.shards.empty_shards.Given as goal

-- as many shards as turns
abbrev pub invariant-loop : goal.invariant-loop
invariant-loop l = length l.shards.items ≡ l.counter
