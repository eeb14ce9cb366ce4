use Rattle.std.proofs.Common.{◌∙◌, ap}
use Rattle.std.proofs.lemmas.Result.{IfOk-weaker}
use Rattle.clap.specs.Simple.{app_of_fields, new_app}
use Rattle.clap.specs.declared.builder.command.Command.{Command}
use Rattle.clap.specs.declared.builder.command.Command.TheOpen.{Command-F}
use Rattle.app_words.specs.CommandLine.{IsLine}
use Rattle.app_words.proofs.LineLemmas.{with_word}
use Rattle.app_words.proofs.command_line.files_line.Goals as goal

pub returns : goal.returns
returns c =
    let begun : IsLine (new_app c.args.name.now) c.about-line.result =
    (ap app_of_fields c.about-line.ensures ∙ c.new.ensures.app, ap (λ (f : Command-F Command). f.has_globals) c.about-line.ensures ∙ c.new.ensures.local) in
    let book = with_word _ _ _ _ _ c.in_ok-book.ensures begun c.operand.ensures in
    let batch = with_word _ _ _ _ _ c.in_ok-batch.ensures book c.operand-2.ensures in
    let replies = with_word _ _ _ _ _ c.in_ok-replies.ensures batch c.operand-3.ensures in
    IfOk-weaker c.arg-4.result _ _ (λ command adds. with_word _ _ _ _ _ adds replies c.operand-4.ensures) c.arg-4.ensures
