use Rattle.std.proofs.Common.{ap, subst}
use Rattle.issuer_rows.specs.Fold.{Rows}
use Rattle.stm_memory.proofs.Laid.{laid_entries}
use Rattle.stm_memory.specs.Words.{IsLaidOver, Memory, stands}
use Rattle.stm_memory.proofs.mv_memory.MvMemory.overlay.Goals as goal

pub returns-in-Ok : goal.returns-in-Ok
returns-in-Ok c =
    laid_entries c.self.inside.chains c.args.index c.args.book.now c.lay_over.new.book c.args.self.now.entries c.self.invariant.once (ap (λ (m : Memory). m.entries) c.self.view_is)
    (subst (λ (book : Rows). IsLaidOver (stands c.self.inside.chains) c.args.index book c.lay_over.new.book) c.in_ok-laid.ensures c.in-Ok.ensures)
