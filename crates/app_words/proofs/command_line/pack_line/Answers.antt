use Rattle.std.proofs.Common.{◌∙◌, ap, codes}
use Rattle.std.proofs.lemmas.Result.{IfOk-weaker}
use Rattle.clap.specs.Simple.{app_of_fields, new_app}
use Rattle.clap.specs.declared.builder.command.Command.{Command}
use Rattle.clap.specs.declared.builder.command.Command.TheOpen.{Command-F}
use Rattle.app_words.specs.CommandLine.{IsLine}
use Rattle.app_words.proofs.LineLemmas.{with_word}
use Rattle.app_words.proofs.command_line.pack_line.Goals as goal

pub returns : goal.returns
returns c =
    let begun : IsLine (new_app (codes "pack")) c.override_usage-line.result = (
      ap app_of_fields c.override_usage-line.ensures ∙ (ap app_of_fields c.about.ensures ∙ c.new.ensures.app),
      ap (λ (f : Command-F Command). f.has_globals) c.override_usage-line.ensures ∙ (ap (λ (f : Command-F Command). f.has_globals) c.about.ensures ∙ c.new.ensures.local),
    ) in
    let text = with_word _ _ _ _ _ c.in_ok-text.ensures begun c.operand.ensures in
    let batch = with_word _ _ _ _ _ c.in_ok-batch.ensures text c.operands.ensures in
    IfOk-weaker c.arg-3.result _ _ (λ command adds. with_word _ _ _ _ _ adds batch c.blocks_flag.ensures) c.arg-3.ensures
