use Rattle.host_links.proofs.Merges.{came_more, given_more}
use Rattle.host_links.proofs.laws.turns_go_on.Goals as goal

pub returns-clause-came : goal.returns-clause-came
returns-clause-came g = came_more

pub returns-clause-given : goal.returns-clause-given
returns-clause-given g = given_more
