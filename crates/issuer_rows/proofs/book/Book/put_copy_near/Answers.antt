use Rattle.std.proofs.Common.{Result, Ok, Err, OnOk}
use Rattle.issuer_rows.proofs.BookLaws.{get_seen, insert_seen}
use Rattle.issuer_rows.proofs.book.Book.put_copy_near.Goals as goal

after_ok : {T E : Type 0} {P Q : Type 0} (r : Result T E) → (P → Q) → OnOk r P → OnOk r Q
after_ok (Ok x) f p = f p
after_ok (Err e) f p = tt

pub returns-then-copy_at-clause-ok : goal.returns-then-copy_at-clause-ok
returns-then-copy_at-clause-ok c =
    rw (← c.self.view_is)
    (insert_seen c.self.inside.rows.entries c.copy_at.new.rows.entries c.args.key.now c.args.val.now (c.copy_at.ensures.found c.if-copy_at.true).0)

pub returns-clause-ok : goal.returns-clause-ok
returns-clause-ok c =
    rw (← c.self.view_is, ← c.copy_at.ensures.not_found c.if-copy_at.false)
    (after_ok c.put_noting.result (λ updates. insert_seen c.copy_at.new.rows.entries c.put_noting.new.rows.entries c.args.key.now c.args.val.now updates.0) c.put_noting.ensures.updates)

pub returns-clause-full : goal.returns-clause-full
returns-clause-full c =
    rw (← c.self.view_is, get_seen c.self.inside.rows.entries c.args.key.now, ← c.copy_at.ensures.not_found c.if-copy_at.false) c.put_noting.ensures.absent
