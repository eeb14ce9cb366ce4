use Rattle.std.proofs.Common.{◌≤◌, ◌+◌, ℕ, ◌++◌, ◌∷◌, [], List, None, Option, ap, subst, sym, ◌∙◌}
use Rattle.std.proofs.lemmas.List.{replicate_more}
use Rattle.stm_core_laws.specs.declared.validation.Validation.{Validation}
use Rattle.stm_core.proofs.validations.no_validations.Goals as goal

pub loop-preserved : goal.loop-preserved
loop-preserved c = record {
  made = c.push_reserved.ensures.items ∙ ap (λ (validations : List (Option Validation)). validations ++ None ∷ []) c.loop.invariant.made ∙ replicate_more c.loop.counter None;
  len = c.push_reserved.ensures.len ∙ ap (λ (n : ℕ). n + 1) c.loop.invariant.len;
  room = subst (λ (n : ℕ). 64 ≤ n) (sym c.push_reserved.ensures.capacity) c.loop.invariant.room;
}
