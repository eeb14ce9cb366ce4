use Rattle.std.proofs.lemmas.Result.{IfOk-weaker}
use Rattle.app_words.proofs.LineLemmas.{with_word}
use Rattle.app_words.proofs.command_line.audit_line.Goals as goal

pub returns : goal.returns
returns c = IfOk-weaker c.arg.result _ _ (λ command adds. with_word _ _ _ _ _ adds c.in_ok-files.ensures c.journal_setting.ensures) c.arg.ensures
