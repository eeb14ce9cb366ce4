use Rattle.std.proofs.Common.{arith, ◌∙◌}
use Rattle.std.proofs.lemmas.Result.{err_from_is_err_and}
use Rattle.app_parts_folder.specs.Joining.{names_of}
use Rattle.app_parts_folder.specs.Texts.{texts_of}
use Rattle.app_parts.proofs.Joined.{AreOpened, both_written, joined, no_order, no_rest, not_over_folder, not_put, over_folder}
use Rattle.app_parts.proofs.joining.join_parts.Goals as goal

pub returns-in_err-check_outside_parts-clause-fault : goal.returns-in_err-check_outside_parts-clause-fault
returns-in_err-check_outside_parts-clause-fault g c =
    let p = err_from_is_err_and c.from_residual-in_err-check_outside_parts.result c.from_residual-in_err-check_outside_parts.ensures.1 in
    rw (p.1, p.2) (over_folder (g.F.Files.is_known c.args.files.now) (g.F.Files.holds c.args.files.now) (g.F.Files.failing c.args.files.now) (names_of c.args.names.now)
    c.in_ok-open.open c.len-count.result c.in_err-check_outside_parts.field-0.0 c.in_ok-open.ensures.plan
    (omega (arith, c.len-count.ensures, c.in_ok-open.ensures.plan.is_plan.listed.few)) c.in_err-check_outside_parts.ensures.fault)

pub returns-in_err-rest-clause-fault : goal.returns-in_err-rest-clause-fault
returns-in_err-rest-clause-fault g c =
    let p = err_from_is_err_and c.from_residual-in_err-rest.result c.from_residual-in_err-rest.ensures.1 in
    rw (p.1, p.2) (no_rest (g.F.Files.is_known c.args.files.now) (g.F.Files.holds c.args.files.now) (g.F.Files.failing c.args.files.now) (names_of c.args.names.now)
    c.in_ok-open.open c.in_err-rest.field-0.0 c.in_ok-open.ensures.plan c.in_err-rest.ensures.fault)

pub returns-in_err-replies-clause-fault : goal.returns-in_err-replies-clause-fault
returns-in_err-replies-clause-fault g c =
    let p = err_from_is_err_and c.from_residual-in_err-replies.result c.from_residual-in_err-replies.ensures.1 in
    let known = g.F.Files.is_known c.args.files.now in
    let holds = g.F.Files.holds c.args.files.now in
    let answers = c.in_ok-answers.ensures.answers in
    let all : AreOpened known holds c.args.names.now.folder.now c.in_ok-open.open c.in_ok-answers.answers =
    (answers.0, omega (arith, answers.1, c.len-count.ensures, c.in_ok-open.ensures.plan.is_plan.listed.few), answers.2) in
    rw (p.1, p.2) (no_order known holds (g.F.Files.failing c.args.files.now) (names_of c.args.names.now) c.in_ok-open.open c.in_ok-answers.answers c.in_err-replies.field-0.0
    c.in_ok-open.ensures.plan all (rw (c.deref.ensures.value, c.deref-2.ensures.value) at c.in_err-replies.ensures.fault))

pub returns-in_err-put_texts-clause-fault : goal.returns-in_err-put_texts-clause-fault
returns-in_err-put_texts-clause-fault g c =
    let p = err_from_is_err_and c.from_residual-in_err-put_texts.result c.from_residual-in_err-put_texts.ensures.1 in
    rw (p.1, p.2) (not_put (g.F.Files.is_known c.args.files.now) (g.F.Files.holds c.args.files.now) (g.F.Files.failing c.args.files.now) (names_of c.args.names.now)
    c.deref-4.result.now c.in_ok-book.book (texts_of c.in_ok-texts.texts.items) c.in_err-put_texts.field-0.0
    c.in_ok-texts.ensures.texts (rw c.deref-5.ensures.value at c.in_err-put_texts.ensures.fault))

pub returns-clause-joined : goal.returns-clause-joined
returns-clause-joined g c =
    let known = g.F.Files.is_known c.args.files.now in
    let holds = g.F.Files.holds c.args.files.now in
    let new = g.F.Files.holds c.put_texts.new.files in
    let names = names_of c.args.names.now in
    let answers = c.in_ok-answers.ensures.answers in
    let all : AreOpened known holds names.folder c.in_ok-open.open c.in_ok-answers.answers =
    (answers.0, omega (arith, answers.1, c.len-count.ensures, c.in_ok-open.ensures.plan.is_plan.listed.few), answers.2) in
    joined known holds new names c.in_ok-open.open c.in_ok-rest.rest c.in_ok-answers.answers c.in_ok-replies.replies.items c.in_ok-book.book c.len.result
    c.in_ok-open.ensures.plan c.in_ok-rest.ensures.rest all
    (rw (c.deref.ensures.value, c.deref-2.ensures.value) at c.in_ok-replies.ensures.order)
    (c.len.ensures ∙ c.in_ok-replies.replies.ok.0)
    (rw c.deref-3.ensures.value at c.in_ok-book.ensures)
    (rw c.deref-4.ensures.value at c.in_ok-texts.ensures.bodies)
    c.in_ok-texts.ensures.back
    (both_written known new names c.in_ok-replies.replies.items c.in_ok-book.book (texts_of c.in_ok-texts.texts.items)
    (rw c.deref-4.ensures.value at c.in_ok-texts.ensures.texts)
    c.in_ok-check_joined.ensures.apart (rw c.deref-5.ensures.value at c.in_ok-put_texts.ensures.held))

pub returns-clause-outside : goal.returns-clause-outside
returns-clause-outside g c = λ known.
    not_over_folder (g.F.Files.is_known c.args.files.now) (g.F.Files.holds c.args.files.now) (names_of c.args.names.now) c.in_ok-open.open c.len-count.result
    c.in_ok-open.ensures.plan (omega (arith, c.len-count.ensures, c.in_ok-open.ensures.plan.is_plan.listed.few)) (c.in_ok-check_outside_parts.ensures.outside known)
