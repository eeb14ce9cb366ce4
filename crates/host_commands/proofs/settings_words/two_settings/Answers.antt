use Rattle.std.proofs.Common.{◌∙◌}
use Rattle.std.proofs.lemmas.List.{length-map}
use Rattle.host_commands.proofs.SettingWords.{if_none, none_of_eight, not_both}
use Rattle.host_commands.proofs.settings_words.two_settings.Goals as goal

pub returns-in_err-stats_at-clause-none : goal.returns-in_err-stats_at-clause-none
returns-in_err-stats_at-clause-none c =
    if_none c.from_residual.result (none_of_eight _ (length-map c.args.words.now _ ∙ c.requires) (λ most every max stats. c.in_err-stats_at.ensures.none every stats)
    (λ most every stats max. not_both _ 4 c.in-Some.max_batch every c.in-Some.ensures.some stats))

pub returns-in_err-stats_at-2-clause-none : goal.returns-in_err-stats_at-2-clause-none
returns-in_err-stats_at-2-clause-none c =
    if_none c.from_residual-in_err-stats_at-2.result (none_of_eight _ (length-map c.args.words.now _ ∙ c.requires) (λ most every max stats. c.in_default.ensures.none most max)
    (λ most every stats max. c.in_err-stats_at-2.ensures.none every stats))

pub returns-in_err-max_batch-clause-none : goal.returns-in_err-max_batch-clause-none
returns-in_err-max_batch-clause-none c =
    if_none c.from_residual-in_err-max_batch.result (none_of_eight _ (length-map c.args.words.now _ ∙ c.requires) (λ most every max stats. c.in_default.ensures.none most max)
    (λ most every stats max. c.in_err-max_batch.ensures.none most max))
