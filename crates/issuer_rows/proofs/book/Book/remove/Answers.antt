use Rattle.issuer_rows.proofs.BookLaws.{remove_seen, kinds_removed}
use Rattle.issuer_rows.proofs.book.Book.remove.Goals as goal

pub invariant_of-self : goal.invariant_of-self
invariant_of-self c = kinds_removed c.self.inside.rows.entries c.swap_remove.new.self.entries c.args.key.now c.self.invariant c.swap_remove.ensures.updates.0

pub returns-clause-after : goal.returns-clause-after
returns-clause-after c =
    rw (← c.self.view_is) (remove_seen c.self.inside.rows.entries c.swap_remove.new.self.entries c.args.key.now c.swap_remove.ensures.updates.0)
