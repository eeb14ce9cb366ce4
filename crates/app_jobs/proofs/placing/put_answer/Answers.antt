use Rattle.std.proofs.Common.{◌∙◌, ap, Err}
use Rattle.std.proofs.lemmas.Result.{err_from_is_err_and}
use Rattle.file_batch.specs.Words.{WriteFault, names_of}
use Rattle.app_jobs.proofs.AnsweredFiles.{answer_placed, answer_unput}
use Rattle.app_jobs.proofs.placing.put_answer.Goals as goal

pub returns : goal.returns
returns g c =
    let placed = c.in_ok-put_in_place.ensures in
    record {
      puts = answer_placed _ _ _ _ _ _ _ (names_of c.args.names.now) c.in_ok-replies.replies c.in_ok-new_book.new_book _ _ _ c.in_ok-answer.ensures
          (c.in_ok-replies.ensures.name ∙ c.as_str.ensures.value) c.in_ok-replies.ensures.output
          (c.in_ok-new_book.ensures.name ∙ c.as_str-2.ensures.value) c.in_ok-new_book.ensures.output
          placed.placed placed.known placed.others;
    }

pub returns-in_err-put_in_place : goal.returns-in_err-put_in_place
returns-in_err-put_in_place g c =
    let p = err_from_is_err_and c.from_residual-in_err-put_in_place.result c.from_residual-in_err-put_in_place.ensures.1 in
    let put = c.in_err-put_in_place.ensures in
    record {
      puts = rw (p.1, p.2) (answer_unput _ _ (g.F.Files.failing c.args.files.now) _ _ (names_of c.args.names.now) c.in_ok-replies.replies c.in_ok-new_book.new_book _ _ _ c.in_err-put_in_place.field-0.0
          c.in_ok-answer.ensures (c.in_ok-replies.ensures.name ∙ c.as_str.ensures.value) (c.in_ok-new_book.ensures.name ∙ c.as_str-2.ensures.value)
          put.kept (λ is. put.refused (ap (λ (e : WriteFault). Err e) is)) put.known);
    }
