use Rattle.engine_parts.proofs.TieLaws.{first_kept, first_tied, kept_longer, kept_twice, linked_last}
use Rattle.engine_parts.specs.Ties.{Numbers, numbers_of}
use Rattle.engine_parts.specs.declared.link.Link.{Link}
use Rattle.engine_parts.proofs.ties.Ties.tie_original.Goals as goal

pub returns-in_ok-push-clause-kept : goal.returns-in_ok-push-clause-kept
returns-in_ok-push-clause-kept c =
    let old = c.args.self.now in
    let firsts = c.first_of.new.firsts.entries in
    let new : Numbers = record { keys = old.keys.entries; firsts = firsts } in
    let link : Link = record { head = c.args.head; other = c.in_ok-other.other } in
    rw (c.in_ok-push.ensures.items)
    (kept_twice (numbers_of old) new new old.links.items old.links.items _
    (first_kept old.keys.entries old.firsts.entries firsts c.mark_of.result c.in_ok-other.other old.links.items c.in_ok-other.ensures)
    (kept_longer new old.links.items link))

pub returns-in_ok-push-clause-tied : goal.returns-in_ok-push-clause-tied
returns-in_ok-push-clause-tied c =
    let old = c.args.self.now in
    let other = c.in_ok-other.other in
    rw (c.in_ok-push.ensures.items)
    (first_tied old.keys.entries old.firsts.entries c.first_of.new.firsts.entries _ c.args.head other c.args.identity.now
    (rw c.mark_of.ensures at c.in_ok-other.ensures) (linked_last old.links.items c.args.head other))
