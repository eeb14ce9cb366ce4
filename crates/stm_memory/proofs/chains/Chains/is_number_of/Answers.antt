use Rattle.std.proofs.Common.{◌≡◌, Some, ap, sym, ◌∙◌}
use Rattle.std.proofs.lemmas.Bool.{false≢true}
use Rattle.std.proofs.lemmas.Option.{same_Some, none-some}
use Rattle.issuer_rows.proofs.KeyLaws.{key_eq_decides}
use Rattle.issuer_rows.specs.declared.row_key.RowKey.{RowKey}
use Rattle.stm_memory.proofs.RowLaws.{row_here, no_row_here}
use Rattle.stm_memory.specs.Chains.{Chains, row_at}
use Rattle.stm_memory.proofs.chains.Chains.is_number_of.Goals as goal

pub returns-in-Some : goal.returns-in-Some
returns-in-Some c =
    let other : RowKey = c.in-Some.other.now in
    let at : row_at c.args.self.now c.args.number ≡ Some other =
    ap (λ (es : Chains). row_at es c.args.number) (sym c.self.view_is) ∙ row_here c.self.inside.rows.entries c.args.number (other, c.in-Some.field-0-1.now) (sym c.in-Some.ensures.entry) in (
      λ same. at ∙ ap Some ((key_eq_decides other c.args.row.now).0 (sym c.eq.ensures ∙ same)),
      λ is. c.eq.ensures ∙ (key_eq_decides other c.args.row.now).1 (same_Some other c.args.row.now (sym at ∙ is)),
    )

pub returns-in-None : goal.returns-in-None
returns-in-None c = (
  λ wrong. absurd (false≢true wrong),
  λ is. absurd (none-some c.args.row.now (sym (ap (λ (es : Chains). row_at es c.args.number) (sym c.self.view_is) ∙ no_row_here c.self.inside.rows.entries c.args.number (sym c.in-None.ensures.entry)) ∙ is)),
)
