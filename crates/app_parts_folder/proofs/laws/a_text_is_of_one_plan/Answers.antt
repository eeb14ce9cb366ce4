use Rattle.app_parts_folder.proofs.Fronts.{same_plan}
use Rattle.app_parts_folder.proofs.laws.a_text_is_of_one_plan.Goals as goal

pub returns : goal.returns
returns c = same_plan
