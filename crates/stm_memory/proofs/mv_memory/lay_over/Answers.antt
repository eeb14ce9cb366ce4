use Rattle.std.proofs.Common.{◌+◌, ap, sym, subst, ◌∙◌, inl, arith}
use Rattle.issuer_rows.specs.Fold.{Rows}
use Rattle.std.specs.FinMap as map
use Rattle.stm_memory.proofs.Laid.{Laying, laid_value, laid_nothing, laid_all, no_value}
use Rattle.stm_memory.specs.Words.{Resolves, row_under, stands}
use Rattle.stm_memory.proofs.mv_memory.lay_over.Goals as goal
use Rattle.stm_memory.proofs.mv_memory.lay_over.Goals.{in-Value+in_ok-put_copy, in_default}

pub loop-number-init : goal.loop-number-init
loop-number-init c = record { each = λ r. inl (ap (λ (m : Rows). map.get m r) c.reserve.ensures); done = λ n r l. absurd (omega arith) }

pub loop-number-preserved : goal.loop-number-preserved
loop-number-preserved c =
    let chains = c.args.chains.now in
    let row = c.row-row.result.now in
    let seen = c.seen_of-seen.result in
    let resolves = subst (Resolves (stands chains) row c.args.index) (sym c.seen_of-seen.ensures) (c.nearest_at.ensures.seen row c.row-row.ensures) in
    elim c.match-seen.branch [
      | in-Value+in_ok-put_copy w ↦
          laid_value chains c.args.index c.args.book.now c.loop-number.book c.match-seen.book c.loop-number.number row seen w.in-Value.value c.loop-number.invariant c.row-row.ensures resolves (ap (row_under (map.get c.args.book.now row)) w.in-Value.is) (w.book-is ∙ w.in_ok-put_copy.ensures.ok)
      | in_default w ↦
          subst (λ (laid : Rows). Laying chains c.args.index c.args.book.now laid (c.loop-number.number + 1)) (sym w.book-is)
          (laid_nothing chains c.args.index c.args.book.now c.loop-number.book c.loop-number.number row seen c.loop-number.invariant c.row-row.ensures resolves (no_value seen (map.get c.args.book.now row) w.in_default.not-Value))
    ]

pub returns : goal.returns
returns c = laid_all c.args.chains.now c.args.index c.args.book.now c.loop-number.book c.loop-number.number c.loop-number.invariant (let end = c.loop-number-test.false in let many = c.len-number-end.ensures in omega arith)
