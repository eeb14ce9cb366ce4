use Rattle.std.proofs.lemmas.Result.{err_from_is_err_and}
use Rattle.app_words.specs.Asked.{names_of}
use Rattle.app_commands.proofs.DoneLemmas.{halted}
use Rattle.app_commands.proofs.doing.blocks.Goals as goal

pub returns-in_err-count-clause-done : goal.returns-in_err-count-clause-done
returns-in_err-count-clause-done g c =
    let p = err_from_is_err_and c.from_residual.result c.from_residual.ensures.1 in
    let blocks = c.in_err-count.ensures.decides in
    rw (p.1, p.2) (halted _ _ _ (g.F.Files.failing c.args.files.now) (names_of c.args.names.now) c.args.workers c.args.engine c.args.strictness c.in_err-count.field-0.0.fault c.in_err-count.field-0.0.kept
    blocks.halted blocks.kept blocks.fault)
