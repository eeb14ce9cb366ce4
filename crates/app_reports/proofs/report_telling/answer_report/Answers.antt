use Rattle.std.proofs.Common.{Result, Ok, Err, IfOk, IsOk}
use Rattle.std.proofs.lemmas.Bool.{false≢true}
use Rattle.app_reports.proofs.report_telling.answer_report.Goals as goal

-- what holds of a result that is there
of_result : {T E : Type 0} (P Q : T → Type 0) (r : Result T E) → IsOk r → IfOk r P → IfOk r Q → (x : T) × P x × Q x
of_result P Q (Ok x) is p q = (x, p, q)
of_result P Q (Err e) is p q = absurd (false≢true is)

pub returns-in-Day-clause-said : goal.returns-in-Day-clause-said
returns-in-Day-clause-said g c zero =
    let text = of_result _ _ c.lines_of_files-lines.result (c.say.ensures.done zero) c.lines_of_files-lines.ensures.lines (c.say.ensures.said zero) in
    rw (c.in-Day.is) (text.1.0, text.1.1, rw (← text.1.2) text.2)

pub returns-in-Page-clause-said : goal.returns-in-Page-clause-said
returns-in-Page-clause-said g c zero =
    let text = of_result _ _ c.page_of_files-lines.result (c.say-in-Page.ensures.done zero) c.page_of_files-lines.ensures.lines (c.say-in-Page.ensures.said zero) in
    rw (c.in-Page.is) (text.1.0, text.1.1, rw (← text.1.2) text.2, text.1.3)
