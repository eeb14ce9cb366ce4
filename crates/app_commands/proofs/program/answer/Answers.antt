use Rattle.std.proofs.Common.{map, string_bytes}
use Rattle.std.proofs.lemmas.Result.{err_from_is_err_and}
use Rattle.app_words.specs.Asked.{asked_of}
use Rattle.app_commands.proofs.DoneLemmas.{asked_for, refused_line}
use Rattle.app_commands.proofs.program.answer.Goals as goal

pub returns-in_err-command-clause-answered : goal.returns-in_err-command-clause-answered
returns-in_err-command-clause-answered g c =
    let p = err_from_is_err_and c.from_residual.result c.from_residual.ensures.1 in
    rw p.1 (refused_line _ _ _ (map string_bytes c.args.words.now) c.in_err-command.field-0.0 p.0 p.2.0 p.2.1 c.in_err-command.ensures)

pub returns-clause-answered : goal.returns-clause-answered
returns-clause-answered g c = asked_for _ _ _ _ (map string_bytes c.args.words.now) (asked_of c.in_ok-command.command) c.done.result c.in_ok-command.ensures c.done.ensures.apart c.done.ensures.done

pub returns-clause-others : goal.returns-clause-others
returns-clause-others g c other sparing = c.done.ensures.others other (sparing (asked_of c.in_ok-command.command) c.in_ok-command.ensures)
