use Rattle.std.proofs.Common.{inr}
use Rattle.std.proofs.lemmas.Result.{err_from_is_err_and}
use Rattle.app_parts_folder.specs.declared.part_file.PartFile.TheVariants.{Decided}
use Rattle.app_parts.proofs.Answered.{answer_of, unopened, unread}
use Rattle.app_parts.proofs.answers.open_answer.Goals as goal

pub returns-in_err-decided-clause-fault : goal.returns-in_err-decided-clause-fault
returns-in_err-decided-clause-fault g c =
    let p = err_from_is_err_and c.from_residual-in_err-decided.result c.from_residual-in_err-decided.ensures.1 in
    rw (p.1, p.2) (unopened (g.F.Files.holds c.args.files.now) (g.F.Files.failing c.args.files.now) c.args.folder.now c.args.plan.now c.args.part Decided c.in_err-decided.field-0.0 c.in_err-decided.ensures.fault)

pub returns-in_err-answer-clause-fault : goal.returns-in_err-answer-clause-fault
returns-in_err-answer-clause-fault g c =
    let p = err_from_is_err_and c.from_residual-in_err-answer.result c.from_residual-in_err-answer.ensures.1 in
    rw (p.1, p.2) (inr (unread (g.F.Files.is_known c.args.files.now) (g.F.Files.holds c.args.files.now) (g.F.Files.failing c.args.files.now) c.args.folder.now c.args.part
    c.in_ok-replies.replies.items c.in_ok-book.book.items c.in_err-answer.field-0.0 c.in_ok-replies.ensures.held c.in_ok-book.ensures.held
    (rw (c.in_err-answer.was, c.deref-2.ensures.value, c.deref-3.ensures.value) at c.check_and_read-answer.ensures.unread)))

pub returns-clause-answer : goal.returns-clause-answer
returns-clause-answer g c =
    answer_of (g.F.Files.is_known c.args.files.now) (g.F.Files.holds c.args.files.now) c.args.folder.now c.args.plan.now c.args.part
    c.in_ok-replies.replies.items c.in_ok-book.book.items c.in_ok-decided.decided.items c.in_ok-answer.field-0
    c.in_ok-replies.ensures.held c.in_ok-book.ensures.held c.in_ok-decided.ensures.held
    (rw (c.in_ok-checked.was, c.deref.ensures.value, c.deref-2.ensures.value, c.deref-3.ensures.value) at c.check_and_read-answer.ensures.decided)
    (rw (c.in_ok-answer.was, c.deref-2.ensures.value) at c.check_and_read-answer.ensures.replies)
    (rw (c.in_ok-answer.was, c.deref-3.ensures.value) at c.check_and_read-answer.ensures.book)
