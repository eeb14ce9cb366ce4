use Rattle.std.proofs.lemmas.Result.{IfOk-weaker}
use Rattle.app_words.proofs.command_line.command_line.Goals as goal

pub returns : goal.returns
returns c =
    let one = c.with_line-one.ensures _ _ c.program_line.ensures c.one_line.ensures in
    let run = c.with_line-run.ensures _ _ one c.run_line.ensures in
    let serial = c.with_line-serial.ensures _ _ run c.serial_line.ensures in
    let blocks = c.with_line-blocks.ensures _ _ serial c.blocks_line.ensures in
    let audit = c.with_line-audit.ensures _ _ blocks c.audit_line.ensures in
    let audit_blocks = c.with_line-audit_blocks.ensures _ _ audit c.audit_blocks_line.ensures in
    let show = c.with_line-show.ensures _ _ audit_blocks c.show_line.ensures in
    IfOk-weaker c.with_line.result _ _ (λ command line. line.0) (c.with_line.ensures _ _ show c.pack_line.ensures)
