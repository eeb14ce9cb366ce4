use Rattle.std.proofs.Common.{Option, sym, subst}
use Rattle.issuer_words.specs.Words.{AccountId, CardRow, RowKey}
use Rattle.issuer_laws.specs.Parts.{account_keys, second_key}
use Rattle.engine_parts.proofs.TieLaws.{tied_kept, kept_twice, same_cards_twice}
use Rattle.engine_parts.specs.Ties.{AreTied, IsTied, numbers_of}
use Rattle.engine_parts.proofs.ties.Ties.tie_accounts.Goals as goal

pub returns-clause-kept : goal.returns-clause-kept
returns-clause-kept c =
    kept_twice (numbers_of c.args.self.now) (numbers_of c.tie.new.self) (numbers_of c.tie_account.new.self)
    c.args.self.now.links.items c.tie.new.self.links.items c.tie_account.new.self.links.items
    c.in_ok-tie.ensures.kept c.in_ok-tie_account.ensures.kept

pub returns-clause-cards : goal.returns-clause-cards
returns-clause-cards c =
    same_cards_twice (numbers_of c.args.self.now) (numbers_of c.tie.new.self) (numbers_of c.tie_account.new.self)
    c.in_ok-tie.ensures.cards c.in_ok-tie_account.ensures.cards

pub returns-clause-tied : goal.returns-clause-tied
returns-clause-tied c =
    let mid = c.tie.new.self in
    let new = c.tie_account.new.self in
    let first = tied_kept (numbers_of mid) (numbers_of new) mid.links.items new.links.items c.args.head (RowKey.Account c.first.result) c.in_ok-tie_account.ensures.kept c.in_ok-tie.ensures.tied in
    subst (λ (card : Option CardRow). AreTied (numbers_of new) new.links.items c.args.head (account_keys card)) (sym c.in-Some.is) (
      subst (λ (id : AccountId). IsTied (numbers_of new) new.links.items c.args.head (RowKey.Account id)) c.first.ensures first,
      subst (λ (id : Option AccountId). AreTied (numbers_of new) new.links.items c.args.head (second_key id)) c.second.ensures c.in_ok-tie_account.ensures.tied,
    )
