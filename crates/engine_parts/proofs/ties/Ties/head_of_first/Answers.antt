use Rattle.std.proofs.Common.{refl, inl, subst, ◌∙◌}
use Rattle.issuer_words.specs.Words.{Identity, RowKey}
use Rattle.issuer_laws.specs.Parts.{funds_at}
use Rattle.engine_parts.proofs.TieLaws.{all_kept, funds_kept, kept_twice}
use Rattle.engine_parts.specs.Ties.{IsTied, numbers_of}
use Rattle.engine_parts.proofs.ties.Ties.head_of_first.Goals as goal

pub returns-clause-funds : goal.returns-clause-funds
returns-clause-funds c =
    let mid = c.head_of_card.new.self in
    let new = c.tie_original.new.self in
    funds_kept c.args.book.now (numbers_of mid) (numbers_of new) mid.links.items new.links.items c.in_ok-tie_original.ensures.cards c.in_ok-tie_original.ensures.kept c.in_ok-head.ensures.funds

pub returns-clause-kept : goal.returns-clause-kept
returns-clause-kept c =
    kept_twice (numbers_of c.args.self.now) (numbers_of c.head_of_card.new.self) (numbers_of c.tie_original.new.self)
    c.args.self.now.links.items c.head_of_card.new.self.links.items c.tie_original.new.self.links.items
    c.in_ok-head.ensures.kept c.in_ok-tie_original.ensures.kept

pub returns-clause-tied : goal.returns-clause-tied
returns-clause-tied c =
    let mid = c.head_of_card.new.self in
    let new = c.tie_original.new.self in
    let head = c.in_ok-head.head in
    let pan = c.args.transaction.now.pan in (
      subst (λ (id : Identity). IsTied (numbers_of new) new.links.items head (RowKey.Original id)) c.identity.ensures c.in_ok-tie_original.ensures.tied,
      (
        (head, c.in_ok-tie_original.ensures.cards pan ∙ c.in_ok-head.ensures.card, inl refl),
        all_kept (numbers_of mid) (numbers_of new) mid.links.items new.links.items head (funds_at c.args.book.now pan) c.in_ok-tie_original.ensures.kept
            (c.in_ok-head.ensures.funds pan head c.in_ok-head.ensures.card),
      ),
    )
