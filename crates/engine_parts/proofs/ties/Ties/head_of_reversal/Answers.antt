use Rattle.std.proofs.Common.{List, refl, inl, sym, subst, ◌∙◌}
use Rattle.issuer_laws.specs.Parts.{funds_at, payer_at}
use Rattle.issuer_rows.specs.declared.row_key.RowKey.{RowKey}
use Rattle.engine_parts.proofs.TieLaws.{all_kept, all_of_both, funds_kept, kept_twice, same_cards_twice, tied_kept}
use Rattle.engine_parts.specs.Ties.{AreTied, IsTied, numbers_of}
use Rattle.engine_parts.proofs.ties.Ties.head_of_reversal.Goals as goal

pub returns-clause-funds : goal.returns-clause-funds
returns-clause-funds c =
    let one = c.head_of_card.new.self in
    let two = c.tie_original.new.self in
    let new = c.tie_account.new.self in
    funds_kept c.args.book.now (numbers_of one) (numbers_of new) one.links.items new.links.items
    (same_cards_twice (numbers_of one) (numbers_of two) (numbers_of new) c.in_ok-tie_original.ensures.cards c.in_ok-tie_account.ensures.cards)
    (kept_twice (numbers_of one) (numbers_of two) (numbers_of new) one.links.items two.links.items new.links.items c.in_ok-tie_original.ensures.kept c.in_ok-tie_account.ensures.kept)
    c.in_ok-head.ensures.funds

pub returns-clause-kept : goal.returns-clause-kept
returns-clause-kept c =
    let old = c.args.self.now in
    let one = c.head_of_card.new.self in
    let two = c.tie_original.new.self in
    let new = c.tie_account.new.self in
    kept_twice (numbers_of old) (numbers_of one) (numbers_of new) old.links.items one.links.items new.links.items c.in_ok-head.ensures.kept
    (kept_twice (numbers_of one) (numbers_of two) (numbers_of new) one.links.items two.links.items new.links.items c.in_ok-tie_original.ensures.kept c.in_ok-tie_account.ensures.kept)

pub returns-clause-tied : goal.returns-clause-tied
returns-clause-tied c =
    let rows = c.args.book.now in
    let original = c.args.reversal.now.original.identity in
    let pan = c.args.reversal.now.transaction.pan in
    let head = c.in_ok-head.head in
    let one = c.head_of_card.new.self in
    let two = c.tie_original.new.self in
    let new = c.tie_account.new.self in
    let cards = same_cards_twice (numbers_of one) (numbers_of two) (numbers_of new) c.in_ok-tie_original.ensures.cards c.in_ok-tie_account.ensures.cards in
    let kept = kept_twice (numbers_of one) (numbers_of two) (numbers_of new) one.links.items two.links.items new.links.items c.in_ok-tie_original.ensures.kept c.in_ok-tie_account.ensures.kept in (
      tied_kept (numbers_of two) (numbers_of new) two.links.items new.links.items head (RowKey.Original original) c.in_ok-tie_account.ensures.kept c.in_ok-tie_original.ensures.tied,
      (
        (head, cards pan ∙ c.in_ok-head.ensures.card, inl refl),
        all_of_both (IsTied (numbers_of new) new.links.items head) (payer_at rows original) (funds_at rows pan)
            (subst (λ (keys : List RowKey). AreTied (numbers_of new) new.links.items head keys) (sym c.paying_account-payer.ensures) c.in_ok-tie_account.ensures.tied)
            (all_kept (numbers_of one) (numbers_of new) one.links.items new.links.items head (funds_at rows pan) kept
            (c.in_ok-head.ensures.funds pan head c.in_ok-head.ensures.card)),
      ),
    )
