use Rattle.std.proofs.lemmas.Result.{IfOk-weaker}
use Rattle.app_words.proofs.LineLemmas.{with_word}
use Rattle.app_words.proofs.command_line.run_line.Goals as goal

pub returns : goal.returns
returns c =
    let logged = with_word _ _ _ _ _ c.in_ok-logged.ensures (c.in_ok-shared.ensures _ c.in_ok-files.ensures) c.journal_setting.ensures in
    IfOk-weaker c.arg-2.result _ _ (λ command adds. with_word _ _ _ _ _ adds logged c.strict_flag.ensures) c.arg-2.ensures
