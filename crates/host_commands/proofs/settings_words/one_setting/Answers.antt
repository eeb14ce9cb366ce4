use Rattle.std.proofs.Common.{◌∙◌}
use Rattle.std.proofs.lemmas.List.{length-map}
use Rattle.host_commands.proofs.SettingWords.{if_none, none_of_six}
use Rattle.host_commands.proofs.settings_words.one_setting.Goals as goal

pub returns-in_err-every-clause-none : goal.returns-in_err-every-clause-none
returns-in_err-every-clause-none c =
    if_none c.from_residual.result (none_of_six _ (length-map c.args.words.now _ ∙ c.requires) c.in_default.ensures.none c.in_err-every.ensures.none)
