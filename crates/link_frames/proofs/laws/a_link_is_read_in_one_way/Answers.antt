use Rattle.link_frames.proofs.Once.{once, begins}
use Rattle.link_frames.proofs.laws.a_link_is_read_in_one_way.Goals as goal

pub returns-clause-once : goal.returns-clause-once
returns-clause-once c = once

pub returns-clause-begins : goal.returns-clause-begins
returns-clause-begins c = begins
