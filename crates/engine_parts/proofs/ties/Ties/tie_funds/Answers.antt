use Rattle.std.proofs.Common.{Option, subst}
use Rattle.issuer_laws.specs.Parts.{account_keys, accounts_at, budget_at}
use Rattle.issuer_rows.specs.declared.card_row.CardRow.{CardRow}
use Rattle.engine_parts.proofs.TieLaws.{all_kept, all_of_both, kept_twice, same_cards_twice}
use Rattle.engine_parts.specs.Ties.{AreTied, IsTied, numbers_of}
use Rattle.engine_parts.proofs.ties.Ties.tie_funds.Goals as goal

pub returns-clause-kept : goal.returns-clause-kept
returns-clause-kept c =
    kept_twice (numbers_of c.args.self.now) (numbers_of c.tie_accounts.new.self) (numbers_of c.tie_budget.new.self)
    c.args.self.now.links.items c.tie_accounts.new.self.links.items c.tie_budget.new.self.links.items
    c.in_ok-tie_accounts.ensures.kept c.in_ok-tie_budget.ensures.kept

pub returns-clause-cards : goal.returns-clause-cards
returns-clause-cards c =
    same_cards_twice (numbers_of c.args.self.now) (numbers_of c.tie_accounts.new.self) (numbers_of c.tie_budget.new.self)
    c.in_ok-tie_accounts.ensures.cards c.in_ok-tie_budget.ensures.cards

pub returns-clause-tied : goal.returns-clause-tied
returns-clause-tied c =
    let rows = c.args.book.now in
    let pan = c.args.pan.now in
    let head = c.args.head in
    let mid = c.tie_accounts.new.self in
    let new = c.tie_budget.new.self in
    let accounts = subst (λ (card : Option CardRow). AreTied (numbers_of mid) mid.links.items head (account_keys card)) c.card_of-card.ensures c.in_ok-tie_accounts.ensures.tied in
    all_of_both (IsTied (numbers_of new) new.links.items head) (accounts_at rows pan) (budget_at rows pan)
    (all_kept (numbers_of mid) (numbers_of new) mid.links.items new.links.items head (accounts_at rows pan) c.in_ok-tie_budget.ensures.kept accounts)
    c.in_ok-tie_budget.ensures.tied
