use Rattle.std.proofs.Common.{◌≡◌}
use Rattle.engine_split.proofs.alone.decide_first.Given as goal

-- the ledger stays that of its batch
abbrev pub invariant-loop : goal.invariant-loop
invariant-loop g l = record {
  opening : l.ledger.opening ≡ l.fn.ledger.opening;
  frames : l.ledger.frames ≡ l.fn.ledger.frames;
}
