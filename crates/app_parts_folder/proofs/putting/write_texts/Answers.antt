use Rattle.std.proofs.Common.{◌+◌, take, rules, subst, sym}
use Rattle.std.proofs.lemmas.Result.{err_from_is_err_and}
use Rattle.app_jobs.specs.Faults.{MayNotBePut}
use Rattle.app_parts_folder.specs.Texts.{texts_of}
use Rattle.app_parts_folder.specs.Writing.{AreWritten}
use Rattle.app_parts_folder.proofs.PutTexts.{one_of, unwritten, written_all, written_more}
use Rattle.app_parts_folder.proofs.putting.write_texts.Goals as goal

pub loop-text-init : goal.loop-text-init
loop-text-init g c = search rules

pub loop-text-preserved : goal.loop-text-preserved
loop-text-preserved g c =
    subst (λ (all : _). AreWritten g.F.Output.Sink.is_known g.F.Output.Sink.written (g.F.Files.is_known c.args.files.now) (take (c.loop-text.text-index + 1) c.args.texts.now) all) (sym c.in_ok-push.ensures.items)
    (written_more g.F.Output.Sink.is_known g.F.Output.Sink.written (g.F.Files.is_known c.args.files.now) c.args.texts.now c.loop-text.text-index c.text-item.result c.loop-text.all.items c.in_ok-one.one
    c.loop-text-test.true c.text-item.is c.loop-text.invariant (c.in_ok-one.ensures.name, c.in_ok-one.ensures.text))

pub returns-in_err-one-clause-fault : goal.returns-in_err-one-clause-fault
returns-in_err-one-clause-fault g c =
    let p = err_from_is_err_and c.from_residual.result c.from_residual.ensures.1 in
    rw (p.1, p.2) (unwritten (g.F.Files.failing c.args.files.now) (texts_of c.args.texts.now) _ c.in_err-one.field-0.0
    (λ may. one_of (MayNotBePut (g.F.Files.failing c.args.files.now)) c.args.texts.now c.loop-text.text-index c.text-item.result c.loop-text-test.true c.text-item.is may)
    c.in_err-one.ensures.fault)

pub returns-clause-written : goal.returns-clause-written
returns-clause-written g c =
    written_all g.F.Output.Sink.is_known g.F.Output.Sink.written (g.F.Files.is_known c.args.files.now) c.args.texts.now c.loop-text.text-index c.loop-text.all.items c.loop-text-test.false c.loop-text.invariant
