use Rattle.std.proofs.Common.{Some, ap, sym, ◌∙◌}
use Rattle.engine_parts.proofs.TieLaws.{kept_longer, kept_twice, has_number, linked_tied, numbered_kept, numbered_other}
use Rattle.engine_parts.specs.Ties.{Numbers, numbers_of}
use Rattle.engine_parts.specs.declared.link.Link.{Link}
use Rattle.engine_parts.proofs.ties.Ties.tie.Goals as goal

pub returns-clause-kept : goal.returns-clause-kept
returns-clause-kept c =
    let old = c.args.self.now in
    let keys = c.numbered.new.keys.entries in
    let new : Numbers = record { keys = keys; firsts = old.firsts.entries } in
    let link : Link = record { head = c.args.head; other = c.number-other.result } in
    rw (c.in_ok-push.ensures.items)
    (kept_twice (numbers_of old) new new old.links.items old.links.items _
    (numbered_kept old.keys.entries keys old.firsts.entries c.args.key.now c.in_ok-numbered.field-0 old.links.items c.in_ok-numbered.ensures)
    (kept_longer new old.links.items link))

pub returns-clause-cards : goal.returns-clause-cards
returns-clause-cards c =
    let old = c.args.self.now in
    numbered_other old.keys.entries c.numbered.new.keys.entries old.firsts.entries c.args.key.now c.in_ok-numbered.field-0 c.requires c.in_ok-numbered.ensures

pub returns-clause-tied : goal.returns-clause-tied
returns-clause-tied c =
    let old = c.args.self.now in
    let keys = c.numbered.new.keys.entries in
    let new : Numbers = record { keys = keys; firsts = old.firsts.entries } in
    let has = has_number old.keys.entries keys old.firsts.entries c.args.key.now c.in_ok-numbered.field-0 c.requires c.in_ok-numbered.ensures in
    rw (c.in_ok-push.ensures.items)
    (linked_tied new old.links.items c.args.head c.number-other.result c.args.key.now c.requires (has ∙ ap (λ n. Some n) (sym c.number-other.ensures)))
