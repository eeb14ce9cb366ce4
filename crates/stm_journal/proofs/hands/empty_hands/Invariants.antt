use Rattle.std.proofs.Common.{◌≡◌, ◌≤◌, replicate, vec_len, vec_capacity}
use Rattle.stm_journal.specs.declared.holding.Holding.{Holding}
use Rattle.stm_journal.specs.declared.holding.Holding.TheVariants as holds
use Rattle.stm_journal.proofs.hands.empty_hands.Given as goal

abbrev pub invariant-loop : goal.invariant-loop
invariant-loop l = record {
  made : l.hands.items ≡ replicate {A = Holding} l.counter holds.Nothing;
  len : vec_len l.hands ≡ l.counter;
  room : 64 ≤ vec_capacity l.hands;
}
