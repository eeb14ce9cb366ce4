use Rattle.std.proofs.Common.{◌∙◌, ap, codes}
use Rattle.std.proofs.lemmas.Result.{IfOk-weaker}
use Rattle.clap.specs.Simple.{app_of_fields, new_app}
use Rattle.clap.specs.declared.builder.command.Command.{Command}
use Rattle.clap.specs.declared.builder.command.Command.TheOpen.{Command-F}
use Rattle.app_words.specs.CommandLine.{IsLine}
use Rattle.app_words.proofs.LineLemmas.{with_word}
use Rattle.app_words.proofs.command_line.show_line.Goals as goal

pub returns : goal.returns
returns c =
    let begun : IsLine (new_app (codes "show")) c.about-line.result = (ap app_of_fields c.about-line.ensures ∙ c.new.ensures.app, ap (λ (f : Command-F Command). f.has_globals) c.about-line.ensures ∙ c.new.ensures.local) in
    IfOk-weaker c.arg.result _ _ (λ command adds. with_word _ _ _ _ _ adds begun c.operand.ensures) c.arg.ensures
