use Rattle.iso_laws.proofs.FirstWrong.{first_wrong_element, element_behind}
use Rattle.iso_laws.proofs.laws.names_the_first_wrong_element.Goals as goal

pub returns-clause-first : goal.returns-clause-first
returns-clause-first c = first_wrong_element

pub returns-clause-behind : goal.returns-clause-behind
returns-clause-behind c = element_behind
