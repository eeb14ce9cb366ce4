use Rattle.std.proofs.Common.{subst}
use Rattle.app_parts.specs.Told.{IsWritten}
use Rattle.app_parts.proofs.telling.answer_parts.Goals as goal

pub returns-in-Part-clause-others : goal.returns-in-Part-clause-others
returns-in-Part-clause-others g c = λ name none. c.answer_part.ensures.others name (subst (λ a. ¬ IsWritten a name) c.in-Part.is none)
