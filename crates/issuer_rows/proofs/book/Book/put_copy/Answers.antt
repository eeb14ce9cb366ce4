use Rattle.std.proofs.Common.{Result, Ok, Err, OnOk, OnErr}
use Rattle.issuer_rows.proofs.BookLaws.{get_seen, insert_seen}
use Rattle.issuer_rows.proofs.book.Book.put_copy.Goals as goal

after_ok : {T E : Type 0} {P Q : Type 0} (r : Result T E) → (P → Q) → OnOk r P → OnOk r Q
after_ok (Ok x) f p = f p
after_ok (Err e) f p = tt

after_err : {T E : Type 0} {P Q : Type 0} (r : Result T E) → (P → Q) → OnErr r P → OnErr r Q
after_err (Ok x) f p = tt
after_err (Err e) f p = f p

pub returns-clause-ok : goal.returns-clause-ok
returns-clause-ok c =
    rw (← c.self.view_is)
    (after_ok c.put_entry.result (λ updates. insert_seen c.self.inside.rows.entries c.put_entry.new.rows.entries c.args.key.now c.args.val.now updates.0) c.put_entry.ensures.updates)

pub returns-clause-full : goal.returns-clause-full
returns-clause-full c =
    rw (← c.self.view_is, get_seen c.self.inside.rows.entries c.args.key.now) c.put_entry.ensures.absent
