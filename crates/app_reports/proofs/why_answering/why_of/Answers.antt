use Rattle.std.proofs.Common.{length, ap, inr}
use Rattle.std.proofs.lemmas.Result.{err_from_is_err_and}
use Rattle.app_reports.proofs.why_answering.why_of.Goals as goal

pub returns-in_err-frames-clause-fault : goal.returns-in_err-frames-clause-fault
returns-in_err-frames-clause-fault g c =
    let p = err_from_is_err_and c.from_residual-in_err-frames.result c.from_residual-in_err-frames.ensures.1 in
    rw (p.1, p.2) (inr ((c.in_ok-opening.opening, c.in_ok-opening.ensures.book), c.in_err-frames.ensures.fault))

pub returns-then-count-index-clause-fault : goal.returns-then-count-index-clause-fault
returns-then-count-index-clause-fault g c = (
  (c.in_ok-opening.opening, c.in_ok-opening.ensures.book),
  record {
    frames = c.in_ok-frames.frames.items;
    messages = c.in_ok-frames.ensures.frames;
    counted = ap length c.as_slice-count.ensures.value;
    none = c.if-count-index.true;
  },
)

pub returns-clause-why : goal.returns-clause-why
returns-clause-why g c = record {
  rows = c.in_ok-opening.opening;
  frames = c.in_ok-frames.frames.items;
  book_there = c.in_ok-opening.ensures.there;
  batch_there = c.in_ok-frames.ensures.there;
  opening = c.in_ok-opening.ensures.book;
  messages = c.in_ok-frames.ensures.frames;
  explained = rw c.deref.ensures.value at c.in_ok-explain_at.ensures;
}
