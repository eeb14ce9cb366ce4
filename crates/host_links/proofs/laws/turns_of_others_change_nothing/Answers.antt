use Rattle.host_links.proofs.Merges.{came_whole, given_whole}
use Rattle.host_links.proofs.laws.turns_of_others_change_nothing.Goals as goal

pub returns-clause-came : goal.returns-clause-came
returns-clause-came g = came_whole

pub returns-clause-given : goal.returns-clause-given
returns-clause-given g = given_whole
