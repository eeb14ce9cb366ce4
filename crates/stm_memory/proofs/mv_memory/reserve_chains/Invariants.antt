use Rattle.std.proofs.Common.{◌≡◌, ◌<◌, ℕ, slice_get, Some}
use Rattle.issuer_words.specs.Words.{RowKey, RowVal}
use Rattle.issuer_view.specs.Words.{IsOnceEach}
use Rattle.stm_memory.specs.Chains.{stands, row_at, room_of}
use Rattle.stm_memory.proofs.mv_memory.reserve_chains.Given as goal

abbrev pub invariant-loop-place : goal.invariant-loop-place
invariant-loop-place l = record {
  stands : (r : RowKey) (i : ℕ) → stands l.chains r i ≡ stands l.fn.chains r i;
  room : (k : ℕ) (w : RowKey × RowVal) → k < l.place → slice_get l.writes k ≡ Some w → 0 < room_of l.chains w.0;
  numbers : (n : ℕ) (r : RowKey) → row_at l.fn.chains n ≡ Some r → row_at l.chains n ≡ Some r;
  once : IsOnceEach l.fn.chains → IsOnceEach l.chains;
}
