use Rattle.std.proofs.Common.{ℕ, List, subst}
use Rattle.std.proofs.lemmas.Result.{err_from_is_err_and}
use Rattle.app_parts.proofs.DoneParts.{part_decided}
use Rattle.app_parts.proofs.FaultsOf.{batch_fault, book_fault, bytes_fault, decided_put_fault, read_fault}
use Rattle.app_parts_folder.specs.Deciding.{IsDecidedFaultOf, IsDecidedText}
use Rattle.app_parts_folder.specs.Texts.{texts_of}
use Rattle.app_parts.proofs.deciding.decide_part.Goals as goal

pub returns-in_err-check_written_apart-clause-fault : goal.returns-in_err-check_written_apart-clause-fault
returns-in_err-check_written_apart-clause-fault g c =
    let p = err_from_is_err_and c.from_residual-in_err-check_written_apart.result c.from_residual-in_err-check_written_apart.ensures.1 in
    rw (p.1, p.2) (read_fault (g.F.Files.is_known c.args.files.now) (g.F.Files.holds c.args.files.now) (g.F.Files.failing c.args.files.now) c.args.folder.now c.args.part
    c.in_err-check_written_apart.field-0.0 c.in_err-check_written_apart.ensures.fault)

pub returns-in_err-book-clause-fault : goal.returns-in_err-book-clause-fault
returns-in_err-book-clause-fault g c =
    let p = err_from_is_err_and c.from_residual-in_err-book.result c.from_residual-in_err-book.ensures.1 in
    rw (p.1, p.2) (book_fault (g.F.Files.is_known c.args.files.now) (g.F.Files.holds c.args.files.now) (g.F.Files.failing c.args.files.now) c.args.folder.now c.args.part
    c.in_ok-opened.opened c.in_ok-digests.digests c.in_err-book.field-0.0 c.in_ok-opened.ensures.plan c.in_ok-digests.ensures.ok c.in_err-book.ensures.fault)

pub returns-in_err-batch-clause-fault : goal.returns-in_err-batch-clause-fault
returns-in_err-batch-clause-fault g c =
    let p = err_from_is_err_and c.from_residual-in_err-batch.result c.from_residual-in_err-batch.ensures.1 in
    rw (p.1, p.2) (batch_fault (g.F.Files.is_known c.args.files.now) (g.F.Files.holds c.args.files.now) (g.F.Files.failing c.args.files.now) c.args.folder.now c.args.part
    c.in_ok-opened.opened c.in_ok-digests.digests c.in_err-batch.field-0.0 c.in_ok-opened.ensures.plan c.in_ok-digests.ensures.ok c.in_err-batch.ensures.fault)

pub returns-in_err-decided-clause-fault : goal.returns-in_err-decided-clause-fault
returns-in_err-decided-clause-fault g c =
    let p = err_from_is_err_and c.from_residual-in_err-decided.result c.from_residual-in_err-decided.ensures.1 in
    let book = c.in_ok-book.book.items in
    let why = c.in_err-decided.field-0.0 in
    rw (p.1, p.2) (bytes_fault (g.F.Files.is_known c.args.files.now) (g.F.Files.holds c.args.files.now) (g.F.Files.failing c.args.files.now) c.args.folder.now c.args.part
    book c.in_ok-batch.batch.items why c.in_ok-book.ensures.held c.in_ok-batch.ensures.held
    (subst (λ (batch : List ℕ). IsDecidedFaultOf book batch why) c.deref-2.ensures.value
    (subst (λ (bytes : List ℕ). IsDecidedFaultOf bytes c.deref-2.result.now why) c.deref.ensures.value c.in_err-decided.ensures.fault)))

pub returns-in_err-put_texts-clause-fault : goal.returns-in_err-put_texts-clause-fault
returns-in_err-put_texts-clause-fault g c =
    let p = err_from_is_err_and c.from_residual-in_err-put_texts.result c.from_residual-in_err-put_texts.ensures.1 in
    rw (p.1, p.2) (decided_put_fault (g.F.Files.is_known c.args.files.now) (g.F.Files.holds c.args.files.now) (g.F.Files.failing c.args.files.now) c.args.folder.now c.args.part
    c.in_ok-opened.opened.digest c.in_ok-decided.decided.replies.items c.in_ok-decided.decided.new_book.items (texts_of c.deref-3.result.now) c.in_err-put_texts.field-0.0
    (rw c.deref-3.ensures.value c.in_ok-texts.ensures) c.in_err-put_texts.ensures.fault)

pub returns-clause-decided : goal.returns-clause-decided
returns-clause-decided g c =
    let book = c.in_ok-book.book.items in
    let replies = c.in_ok-decided.decided.replies.items in
    let new_book = c.in_ok-decided.decided.new_book.items in
    let count = c.in_ok-decided.decided.count.bodies in
    let decided =
    subst (λ (batch : List ℕ). IsDecidedText book batch replies new_book count) c.deref-2.ensures.value
    (subst (λ (bytes : List ℕ). IsDecidedText bytes c.deref-2.result.now replies new_book count) c.deref.ensures.value c.in_ok-decided.ensures.decided) in
    part_decided (g.F.Files.is_known c.args.files.now) (g.F.Files.holds c.args.files.now) (g.F.Files.holds c.put_texts.new.files) c.args.folder.now c.args.part
    c.in_ok-opened.opened c.in_ok-digests.digests book c.in_ok-batch.batch.items replies new_book count (texts_of c.deref-3.result.now)
    c.in_ok-opened.ensures.plan c.in_ok-digests.ensures.ok c.in_ok-book.ensures.held c.in_ok-book.ensures.digest c.in_ok-batch.ensures.held c.in_ok-batch.ensures.digest
    decided (rw c.deref-3.ensures.value c.in_ok-texts.ensures) c.in_ok-put_texts.ensures.held
