use Rattle.std.proofs.Common.{◌≤◌, ◌+◌, ◌^◌, ◌↔◌, ◌≡◌, Bool, true, IsTrue, sym, ◌∙◌, ap, arith}
use Rattle.issuer_words.specs.Words.{Identity, KeptOriginal, PanPrefix, RowKey, RowVal, Rows, budget_paid, is_from_budget, payment_of_outcome, prefix_of, stays}
use Rattle.issuer_rows.specs.declared.row_key.RowKey.TheVariants as key
use Rattle.issuer_rows.specs.declared.row_val.RowVal.TheVariants as val
use Rattle.book_laws.specs.CheckBook.{IsRowInRange, is_among}
use Rattle.book_laws.specs.declared.paid_from.PaidFrom.TheVariants as from
use Rattle.book_laws.proofs.checking.is_row_in_range.Goals as goal

budget_row : (rows : Rows) (k : RowKey × RowVal) (identity : Identity) (kept : KeptOriginal) (prefix : PanPrefix) (b : Bool) → k.0 ≡ key.Original identity → k.1 ≡ val.Kept kept → prefix ≡ prefix_of kept.card → budget_paid (payment_of_outcome kept.outcome) ≡ true → (IsTrue b ↔ (0 + stays (is_among (from.Budget prefix)) rows ≤ 10 ^ 15)) → (IsTrue b ↔ IsRowInRange rows k.0 k.1)
budget_row rows k identity kept prefix b key_is val_is prefix_is paid h =
    rw (key_is, val_is) (
      λ t _. let got : 0 + stays (is_from_budget (prefix_of kept.card)) rows ≤ 10 ^ 15 = rw (← prefix_is) (h.0 t) in omega (arith, got),
      λ g. h.1 (rw (prefix_is) (omega (arith, g paid))),
    )

pub returns-in-Original-Kept : goal.returns-in-Original-Kept
returns-in-Original-Kept c =
    budget_row c.args.book.now (c.args.key.now, c.args.val.now) c.in-Original-Kept.field-0-0 c.in-Original-Kept.kept c.prefix-prefix.result _
    c.in-Original-Kept.is-0 c.in-Original-Kept.is-1 (c.prefix-prefix.ensures ∙ ap prefix_of c.card.ensures.card)
    (sym c.is_paid_by_budget.ensures ∙ c.if-is_paid_by_budget.true) c.is_backing_in_range-in-Original-Kept.ensures
