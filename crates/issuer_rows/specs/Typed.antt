-- The row of each kind in what was found under a key.
use Rattle.std.specs.Prelude.{Option, Some, None}
use Rattle.issuer_rows.specs.declared.account_row.AccountRow.{AccountRow}
use Rattle.issuer_rows.specs.declared.budget_row.BudgetRow.{BudgetRow}
use Rattle.issuer_rows.specs.declared.card_row.CardRow.{CardRow}
use Rattle.issuer_rows.specs.declared.original_row.OriginalRow.{OriginalRow}
use Rattle.issuer_rows.specs.declared.original_row.OriginalRow.TheVariants as original
use Rattle.issuer_rows.specs.declared.row_val.RowVal.{RowVal}
use Rattle.issuer_rows.specs.declared.row_val.RowVal.TheVariants as val
use Rattle.issuer_rows.specs.declared.velocity_row.VelocityRow.{VelocityRow}

-- the card, if there is one
abbrev pub card_in : Option RowVal → Option CardRow
card_in (Some (val.Card row)) = Some row
card_in _ = None

-- the card's day, if there is one
abbrev pub velocity_in : Option RowVal → Option VelocityRow
velocity_in (Some (val.Velocity row)) = Some row
velocity_in _ = None

-- the budget, if there is one
abbrev pub budget_in : Option RowVal → Option BudgetRow
budget_in (Some (val.Budget row)) = Some row
budget_in _ = None

-- the original or its mark, if there is one
abbrev pub original_in : Option RowVal → Option OriginalRow
original_in (Some (val.Kept k)) = Some (original.Kept k)
original_in (Some (val.Ahead mark)) = Some (original.Ahead mark)
original_in _ = None

-- the account, if there is one
abbrev pub account_in : Option RowVal → Option AccountRow
account_in (Some (val.Account row)) = Some row
account_in _ = None

-- what was spent on a day: nothing where there is no row
abbrev pub spent_in : Option VelocityRow → VelocityRow
spent_in None = record { count = 0; sum = 0 }
spent_in (Some day) = day

-- the value of an original's row
abbrev pub row_of_original : OriginalRow → RowVal
row_of_original (original.Kept k) = val.Kept k
row_of_original (original.Ahead mark) = val.Ahead mark
