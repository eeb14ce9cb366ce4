use Rattle.book_laws.proofs.RowsPlain.{card_read, day_read, budget_read, mark_read, account_read}
use Rattle.book_text.proofs.ranges.row_is_read.Goals as goal

pub returns-in-Card-Card : goal.returns-in-Card-Card
returns-in-Card-Card c = rw (c.in-Card-Card.is-0, c.in-Card-Card.is-1) (card_read _ _ c.card_in_range.ensures)

pub returns-in-Velocity-Velocity : goal.returns-in-Velocity-Velocity
returns-in-Velocity-Velocity c = rw (c.in-Velocity-Velocity.is-0, c.in-Velocity-Velocity.is-1) (day_read _ _ _ c.day_in_range.ensures)

pub returns-in-Budget-Budget : goal.returns-in-Budget-Budget
returns-in-Budget-Budget c = rw (c.in-Budget-Budget.is-0, c.in-Budget-Budget.is-1) (budget_read _ _ c.budget_in_range.ensures)

pub returns-in-Original-Kept : goal.returns-in-Original-Kept
returns-in-Original-Kept c = rw (c.in-Original-Kept.is-0, c.in-Original-Kept.is-1) c.kept_is_read.ensures

pub returns-in-Original-Ahead : goal.returns-in-Original-Ahead
returns-in-Original-Ahead c = rw (c.in-Original-Ahead.is-0, c.in-Original-Ahead.is-1) (mark_read _ _ c.mark_in_range.ensures)

pub returns-in-Account-Account : goal.returns-in-Account-Account
returns-in-Account-Account c = rw (c.in-Account-Account.is-0, c.in-Account-Account.is-1) (account_read _ _ c.account_in_range.ensures)
