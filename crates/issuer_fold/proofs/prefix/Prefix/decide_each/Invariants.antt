use Rattle.std.proofs.Common.{◌≡◌, ◌+◌, ◌++◌, take}
use Rattle.issuer_rows.specs.Fold.{rows_after, replies_to}
use Rattle.issuer_fold.proofs.prefix.Prefix.decide_each.Given as goal

-- the bodies before this one are decided
abbrev pub invariant-loop-frame : goal.invariant-loop-frame
invariant-loop-frame g l = record {
  count : l.self.count ≡ l.fn.self.count + l.frame-index;
  book : l.self.book ≡ rows_after l.fn.self.book (take l.frame-index l.frames);
  replies : l.self.replies.items ≡ l.fn.self.replies.items ++ replies_to l.fn.self.book (take l.frame-index l.frames);
}
