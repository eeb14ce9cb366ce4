use Rattle.issuer_fold.proofs.FoldLaws.{replies_to-append}
use Rattle.host_commands.proofs.laws.replies_go_on.Goals as goal

pub returns : goal.returns
returns c = replies_to-append
