use Rattle.std.proofs.Common.{◌≡◌, Some, sym, ◌∙◌, append_assoc}
use Rattle.switch.specs.Advancing.{estimate_of}
use Rattle.switch.proofs.advance.AdvanceDisplay.fmt.Goals as goal

pub returns-in-Some-clause-writes : goal.returns-in-Some-clause-writes
returns-in-Some-clause-writes g c =
    let known : estimate_of c.args.self.now ≡ Some c.in-Some.estimate = sym c.estimate.ensures ∙ c.in-Some.is in
    rw known (simp append_assoc at c.write.ensures.writes)
