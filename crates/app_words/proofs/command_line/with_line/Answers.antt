use Rattle.std.proofs.lemmas.Result.{IfOk-weaker}
use Rattle.app_words.specs.CommandLine.{IsLine}
use Rattle.app_words.proofs.LineLemmas.{with_line}
use Rattle.app_words.proofs.command_line.with_line.Goals as goal

pub returns : goal.returns
returns c app sub_app line sub =
    let begun : IsLine app c.in_ok-line.field-0 = rw c.in_ok-line.was at line in
    let made : IsLine sub_app c.in_ok-subcommand.field-0 = rw c.in_ok-subcommand.was at sub in
    IfOk-weaker c.subcommand.result _ _ (λ command adds. with_line _ _ _ _ _ adds begun made) c.subcommand.ensures
