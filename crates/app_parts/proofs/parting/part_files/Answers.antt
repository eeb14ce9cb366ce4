use Rattle.std.proofs.Common.{◌≡◌, ◌≤◌, ℕ, List, inl, inr, subst, arith}
use Rattle.std.proofs.lemmas.Result.{err_from_is_err_and}
use Rattle.app_parts.proofs.DoneParts.{few_parts, not_of_folder, not_outside, parted_folder}
use Rattle.app_parts.proofs.FaultsOf.{batch_is_outside, book_is_outside, held_batch, parted_put_fault, unread_batch}
use Rattle.app_parts_folder.specs.Parting.{IsCut, folder_texts, names_of}
use Rattle.app_parts_folder.specs.Planning.{IsBatchFaultOf}
use Rattle.app_parts_folder.specs.Texts.{texts_of}
use Rattle.app_parts.proofs.parting.part_files.Goals as goal

pub returns-in_err-check_outside-clause-fault : goal.returns-in_err-check_outside-clause-fault
returns-in_err-check_outside-clause-fault g c =
    let p = err_from_is_err_and c.from_residual.result c.from_residual.ensures.1 in
    rw (p.1, p.2) (book_is_outside (g.F.Files.is_known c.args.files.now) (g.F.Files.holds c.args.files.now) (g.F.Files.failing c.args.files.now) (names_of c.args.names.now)
    c.in_err-check_outside.field-0.0 c.in_err-check_outside.ensures.fault)

pub returns-in_err-check_outside-2-clause-fault : goal.returns-in_err-check_outside-2-clause-fault
returns-in_err-check_outside-2-clause-fault g c =
    let p = err_from_is_err_and c.from_residual-in_err-check_outside-2.result c.from_residual-in_err-check_outside-2.ensures.1 in
    rw (p.1, p.2) (batch_is_outside (g.F.Files.is_known c.args.files.now) (g.F.Files.holds c.args.files.now) (g.F.Files.failing c.args.files.now) (names_of c.args.names.now)
    c.in_err-check_outside-2.field-0.0 c.in_err-check_outside-2.ensures.fault)

pub returns-in_err-book-clause-fault : goal.returns-in_err-book-clause-fault
returns-in_err-book-clause-fault g c =
    let p = err_from_is_err_and c.from_residual-in_err-book.result c.from_residual-in_err-book.ensures.1 in
    rw (p.1, p.2) (inl c.in_err-book.ensures.fault)

pub returns-in_err-batch-clause-fault : goal.returns-in_err-batch-clause-fault
returns-in_err-batch-clause-fault g c =
    let p = err_from_is_err_and c.from_residual-in_err-batch.result c.from_residual-in_err-batch.ensures.1 in
    rw (p.1, p.2) (inr (inl (unread_batch (g.F.Files.holds c.args.files.now) (g.F.Files.failing c.args.files.now) c.args.names.now.batch.now c.in_err-batch.field-0.0 c.in_err-batch.ensures.fault)))

pub returns-in_err-planned-clause-fault : goal.returns-in_err-planned-clause-fault
returns-in_err-planned-clause-fault g c =
    let p = err_from_is_err_and c.from_residual-in_err-planned.result c.from_residual-in_err-planned.ensures.1 in
    let why = c.in_err-planned.field-0.0 in
    rw (p.1, p.2) (inr (inl (held_batch (g.F.Files.is_known c.args.files.now) (g.F.Files.holds c.args.files.now) (g.F.Files.failing c.args.files.now) c.args.names.now.batch.now
    c.in_ok-batch.batch.items why c.in_ok-batch.ensures.held (subst (λ (bytes : List ℕ). IsBatchFaultOf bytes why) c.deref.ensures.value c.in_err-planned.ensures.fault))))

pub returns-in_err-put_texts-clause-fault : goal.returns-in_err-put_texts-clause-fault
returns-in_err-put_texts-clause-fault g c =
    let p = err_from_is_err_and c.from_residual-in_err-put_texts.result c.from_residual-in_err-put_texts.ensures.1 in
    let parting = c.in_ok-planned.planned in
    rw (p.1, p.2) (parted_put_fault (g.F.Files.is_known c.args.files.now) (g.F.Files.holds c.args.files.now) (g.F.Files.failing c.args.files.now) (names_of c.args.names.now) parting
    (texts_of c.deref-2.result.now) c.in_err-put_texts.field-0.0 (few_parts parting c.args.most c.count-count.result c.count-count.ensures.value c.count-count.ensures.high c.in_ok-planned.ensures.planned)
    (rw c.deref-2.ensures.value c.in_ok-texts.ensures.texts) c.in_err-put_texts.ensures.fault)

pub returns-in_err-put_texts-clause-others : goal.returns-in_err-put_texts-clause-others
returns-in_err-put_texts-clause-others g c = λ other not.
    let parting = c.in_ok-planned.planned in
    c.in_err-put_texts.ensures.others other
    (not_of_folder c.args.names.now.folder.now parting other (texts_of c.deref-2.result.now) (few_parts parting c.args.most c.count-count.result c.count-count.ensures.value c.count-count.ensures.high c.in_ok-planned.ensures.planned)
    (rw c.deref-2.ensures.value c.in_ok-texts.ensures.texts) not)

pub returns-clause-others : goal.returns-clause-others
returns-clause-others g c = λ other not.
    let parting = c.in_ok-planned.planned in
    c.in_ok-put_texts.ensures.others other
    (not_of_folder c.args.names.now.folder.now parting other (texts_of c.deref-2.result.now) (few_parts parting c.args.most c.count-count.result c.count-count.ensures.value c.count-count.ensures.high c.in_ok-planned.ensures.planned)
    (rw c.deref-2.ensures.value c.in_ok-texts.ensures.texts) not)

pub returns-clause-parted : goal.returns-clause-parted
returns-clause-parted g c =
    let parting = c.in_ok-planned.planned in
    let planned = c.in_ok-planned.ensures in
    parted_folder (g.F.Files.is_known c.args.files.now) (g.F.Files.holds c.args.files.now) (g.F.Files.holds c.put_texts.new.files) (names_of c.args.names.now) c.args.most c.in_ok-texts.counts.items
    parting c.in_ok-book.ensures.book.0 c.in_ok-batch.batch.items (texts_of c.deref-2.result.now) (omega (arith, c.count-count.ensures.value, c.count-count.ensures.high))
    c.in_ok-book.ensures.book.1 (rw planned.rows c.in_ok-book.ensures.book.2) c.in_ok-batch.ensures.held
    (subst (λ (bytes : List ℕ). IsCut bytes parting.bodies parting.frames) c.deref.ensures.value planned.cut) planned.planned
    c.in_ok-texts.ensures.counts c.in_ok-texts.ensures.back (rw c.deref-2.ensures.value c.in_ok-texts.ensures.texts) c.in_ok-put_texts.ensures.held

pub returns-clause-inputs : goal.returns-clause-inputs
returns-clause-inputs g c = λ known.
    let parting = c.in_ok-planned.planned in
    let folder = c.args.names.now.folder.now in
    let texts = texts_of c.deref-2.result.now in
    let count = c.count-count.result in
    let few : parting.count ≤ count = omega (arith, c.in_ok-planned.ensures.planned.few, c.count-count.ensures.value) in
    let are : texts ≡ folder_texts folder parting = rw c.deref-2.ensures.value c.in_ok-texts.ensures.texts in (
      c.in_ok-put_texts.ensures.others c.args.names.now.book.now
          (not_outside folder parting c.args.names.now.book.now count texts few are (c.in_ok-check_outside.ensures.outside known)),
      c.in_ok-put_texts.ensures.others c.args.names.now.batch.now
          (not_outside folder parting c.args.names.now.batch.now count texts few are (c.in_ok-check_outside-2.ensures.outside known)),
    )
