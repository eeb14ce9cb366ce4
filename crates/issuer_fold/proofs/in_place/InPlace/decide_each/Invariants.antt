use Rattle.std.proofs.Common.{◌≡◌, take}
use Rattle.issuer_rows.specs.Fold.{rows_after, replies_to}
use Rattle.issuer_fold.specs.Formers.{LeadsBack}
use Rattle.issuer_fold.proofs.in_place.InPlace.decide_each.Given as goal

-- the bodies before this one are decided
abbrev pub invariant-loop-frame : goal.invariant-loop-frame
invariant-loop-frame g l = record {
  book : l.book ≡ rows_after l.fn.book (take l.frame-index l.frames);
  replies : l.self.replies.items ≡ replies_to l.fn.book (take l.frame-index l.frames);
  back : LeadsBack l.book l.self.formers l.fn.book;
}
