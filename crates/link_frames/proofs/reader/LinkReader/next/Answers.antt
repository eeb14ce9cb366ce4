use Rattle.std.proofs.Common.{rules, inl, sym, subst}
use Rattle.std.proofs.lemmas.Result.{err_from_is_err_and}
use Rattle.link_frames.specs.Link.{HasFrame, HasWrongLength}
use Rattle.link_frames.specs.Reader.{given, kept}
use Rattle.link_frames.proofs.Fronts.{not_none, wrong_more}
use Rattle.link_frames.proofs.Runs.{one_given}
use Rattle.link_frames.proofs.reader.LinkReader.next.Goals as goal

pub returns-in_err-has_frame-clause-fault : goal.returns-in_err-has_frame-clause-fault
returns-in_err-has_frame-clause-fault g c =
    let p = err_from_is_err_and c.from_residual.result c.from_residual.ensures.1 in
    let self = c.reading.self in
    let left = g.R.Source.remaining c.reading.source in
    rw (p.1, p.2, c.in_err-has_frame.ensures.fault.0)
    (λ known. subst HasWrongLength (sym (c.reading.invariant.bytes known)) (wrong_more (kept self) left c.in_err-has_frame.ensures.fault.1))

pub returns-then-branch-clause-end : goal.returns-then-branch-clause-end
returns-then-branch-clause-end g c = λ zero known.
    absurd (one_given c.give.result c.args.most (kept c.reading.self) (given c.give.new.self) (kept c.give.new.self)
    c.requires.some (c.in_ok-has_frame.ensures.whole c.if-branch.true) c.give.ensures.frames c.give.ensures.order c.give.ensures.all zero)

pub returns-in_err-take_more-clause-ready : goal.returns-in_err-take_more-clause-ready
returns-in_err-take_more-clause-ready g c = λ whole.
    absurd (not_none (kept c.reading.self) (subst HasFrame (sym (c.reading.invariant.ready whole).1) whole) (inl (c.in_ok-has_frame.ensures.part c.if-branch.false)))

pub returns-then-not-branch-clause-ready : goal.returns-then-not-branch-clause-ready
returns-then-not-branch-clause-ready g c = λ whole.
    absurd (not_none (kept c.reading.self) (subst HasFrame (sym (c.reading.invariant.ready whole).1) whole) (inl (c.in_ok-has_frame.ensures.part c.if-branch.false)))

pub reading-preserved : goal.reading-preserved
reading-preserved g c =
    record {
      source = search rules;
      none = c.in_ok-take_more.ensures.none;
      bytes = search rules;
      ready = λ whole. absurd (not_none (kept c.reading.self) (subst HasFrame (sym (c.reading.invariant.ready whole).1) whole) (inl (c.in_ok-has_frame.ensures.part c.if-branch.false)));
    }
