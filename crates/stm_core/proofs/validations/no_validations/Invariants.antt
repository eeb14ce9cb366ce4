use Rattle.std.proofs.Common.{◌≡◌, ◌≤◌, None, Option, replicate, vec_len, vec_capacity}
use Rattle.stm_core_laws.specs.declared.validation.Validation.{Validation}
use Rattle.stm_core.proofs.validations.no_validations.Given as goal

abbrev pub invariant-loop : goal.invariant-loop
invariant-loop l = record {
  made : l.validations.items ≡ replicate {A = Option Validation} l.counter None;
  len : vec_len l.validations ≡ l.counter;
  room : 64 ≤ vec_capacity l.validations;
}
