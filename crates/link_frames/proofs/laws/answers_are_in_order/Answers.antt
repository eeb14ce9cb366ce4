use Rattle.link_frames.proofs.InOrder.{in_order, frames_alone, bodies_alone, answers_alone}
use Rattle.link_frames.proofs.laws.answers_are_in_order.Goals as goal

pub returns-clause-merged : goal.returns-clause-merged
returns-clause-merged c = in_order

pub returns-clause-alone : goal.returns-clause-alone
returns-clause-alone c = λ bodies replies size. (frames_alone bodies, bodies_alone bodies, answers_alone bodies replies size)
