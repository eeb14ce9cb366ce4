use Rattle.std.proofs.Common.{refl, rules}
use Rattle.host_commands.proofs.Together.{answered_together}
use Rattle.host_commands.proofs.serving_links.serve_links.Goals as goal

pub returns-clause-served : goal.returns-clause-served
returns-clause-served g c = λ text bytes held logged zero. (
  answered_together _ _ _ _ _ _ _ text bytes c.in-Ok.opened.host c.serve_links-outcome.result c.args.seats.now c.serve_links-outcome.new.seats (c.in-Ok.ensures.opened text bytes held logged)
      c.serve_links-outcome.ensures (search rules),
  c.if-has_fault.ensures refl,
)
