use Rattle.std.proofs.Common.{ℕ, ◌<◌, ◌≤◌, ◌-◌, ◌^◌, length, get_or}
use Rattle.stm_memory.specs.declared.link.Link.{Link}
use Rattle.stm_memory.proofs.chain.count_below.Given as goal

abbrev pub invariant-loop-low : goal.invariant-loop-low
invariant-loop-low l = record {
  ordered : l.low ≤ l.high;
  within : l.high ≤ length l.links;
  few : length l.links < 2 ^ 64;
  below : (k : ℕ) (d : Link) → k < l.low → (get_or l.links k d).index < l.index;
  above : (k : ℕ) (d : Link) → l.high ≤ k → k < length l.links → l.index ≤ (get_or l.links k d).index;
  digits : (n : ℕ) → length l.links < 2 ^ n → (l.comparisons ≤ n) × (l.high - l.low < 2 ^ (n - l.comparisons));
}

abbrev pub decreases-loop-low : goal.decreases-loop-low
decreases-loop-low l = l.high - l.low
