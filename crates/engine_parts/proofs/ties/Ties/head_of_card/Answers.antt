use Rattle.std.proofs.Common.{subst}
use Rattle.issuer_rows.specs.declared.row_key.RowKey.{RowKey}
use Rattle.engine_parts.proofs.TieLaws.{card_tied, kept_twice, numbered_kept}
use Rattle.engine_parts.specs.Ties.{HasNumber, Numbers, numbers_of}
use Rattle.engine_parts.specs.declared.key_number.KeyNumber.{KeyNumber}
use Rattle.engine_parts.proofs.ties.Ties.head_of_card.Goals as goal

pub returns-in_ok-tie_funds-in-New-clause-funds : goal.returns-in_ok-tie_funds-in-New-clause-funds
returns-in_ok-tie_funds-in-New-clause-funds c =
    let old = c.args.self.now in
    let mid = c.numbered.new.keys.entries in
    let new = c.tie_funds.new.self in
    let pan = c.args.pan.now in
    let numbered = subst (λ (n : KeyNumber). HasNumber old.keys.entries mid (RowKey.Card pan) n) c.in-New.is c.in_ok-number.ensures in
    card_tied c.args.book.now old.keys.entries mid old.firsts.entries (numbers_of new) old.links.items new.links.items pan c.in-New.head numbered
    c.in_ok-tie_funds-in-New.ensures.cards c.in_ok-tie_funds-in-New.ensures.kept c.in_ok-tie_funds-in-New.ensures.tied c.requires

pub returns-in_ok-tie_funds-in-New-clause-kept : goal.returns-in_ok-tie_funds-in-New-clause-kept
returns-in_ok-tie_funds-in-New-clause-kept c =
    let old = c.args.self.now in
    let keys = c.numbered.new.keys.entries in
    let mid : Numbers = record { keys = keys; firsts = old.firsts.entries } in
    let new = c.tie_funds.new.self in
    kept_twice (numbers_of old) mid (numbers_of new) old.links.items old.links.items new.links.items
    (numbered_kept old.keys.entries keys old.firsts.entries (RowKey.Card c.args.pan.now) c.in_ok-number.number old.links.items c.in_ok-number.ensures)
    c.in_ok-tie_funds-in-New.ensures.kept
