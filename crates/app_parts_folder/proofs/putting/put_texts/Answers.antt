use Rattle.std.proofs.Common.{Err, ap}
use Rattle.std.proofs.lemmas.Result.{err_from_is_err_and}
use Rattle.file_devices.specs.declared.write_fault.WriteFault.{WriteFault}
use Rattle.app_parts_folder.specs.Texts.{texts_of}
use Rattle.app_parts_folder.proofs.PutTexts.{none_of_these, one_refused, placed_all, unplaced}
use Rattle.app_parts_folder.proofs.putting.put_texts.Goals as goal

pub returns-clause-held : goal.returns-clause-held
returns-clause-held g c = λ known distinct.
    placed_all g.F.Output.Sink.is_known g.F.Output.Sink.written (g.F.Files.is_known c.args.files.now) (g.F.Files.holds c.put_in_place.new.self) c.args.texts.now c.in_ok-written.written.items known c.in_ok-written.ensures.written
    (c.in_ok-put_in_place.ensures.placed known) distinct

pub returns-clause-others : goal.returns-clause-others
returns-clause-others g c = λ other none.
    c.in_ok-put_in_place.ensures.others other (none_of_these g.F.Output.Sink.is_known g.F.Output.Sink.written (g.F.Files.is_known c.args.files.now) other c.args.texts.now c.in_ok-written.written.items c.in_ok-written.ensures.written none)

pub returns-in_err-put_in_place-clause-fault : goal.returns-in_err-put_in_place-clause-fault
returns-in_err-put_in_place-clause-fault g c =
    let p = err_from_is_err_and c.from_residual-in_err-put_in_place.result c.from_residual-in_err-put_in_place.ensures.1 in
    let failing = g.F.Files.failing c.args.files.now in
    rw (p.1, p.2) (unplaced failing (texts_of c.args.texts.now) c.in_err-put_in_place.field-0.0
    (λ is. one_refused g.F.Output.Sink.is_known g.F.Output.Sink.written (g.F.Files.is_known c.args.files.now) failing.refused c.args.texts.now c.in_ok-written.written.items c.in_ok-written.ensures.written
    (c.in_err-put_in_place.ensures.refused (ap (λ (e : WriteFault). Err e) is))))
