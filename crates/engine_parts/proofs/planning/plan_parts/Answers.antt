use Rattle.std.proofs.Common.{◌≡◌, ℕ, ◌<◌, List, map, zip, sym, ap, subst, ◌∙◌}
use Rattle.std.specs.List.{AllByRecursion}
use Rattle.issuer_laws.specs.Parts.{AreApart}
use Rattle.engine_parts.proofs.ApartLaws.{are_apart, parts_below}
use Rattle.engine_parts.specs.Plan.{Planned}
use Rattle.engine_parts.specs.Ties.{IsOfOnePart, numbers_of, part_at}
use Rattle.engine_parts.specs.declared.link.Link.{Link}
use Rattle.engine_parts.proofs.planning.plan_parts.Goals as goal

pub returns-clause-apart : goal.returns-clause-apart
returns-clause-apart c =
    let table = c.checked-table.result.of_number.items in
    let heads = c.in_ok-heads.heads.items in
    let links = subst (λ (ls : List Link). AllByRecursion (IsOfOnePart table) ls) c.deref-3.ensures.value c.checked-table.ensures.links in
    let parts : c.new-plan.result.parts ≡ map (part_at table) heads
    = ap (λ (plan : Planned). plan.parts) c.new-plan.ensures ∙ c.in_ok-parts.ensures ∙ ap (map (part_at table)) c.deref-4.ensures.value in
    subst (λ (ps : List ℕ). AreApart c.args.book.now (zip ps c.args.frames.now)) (sym parts)
    (are_apart c.args.book.now (numbers_of c.heads_of.new.ties) c.heads_of.new.ties.links.items table heads c.args.frames.now c.in_ok-heads.ensures.heads links)

pub new-plan-requires-clause-below : goal.new-plan-requires-clause-below
new-plan-requires-clause-below c =
    let table = c.checked-table.result in
    subst (λ (ps : List ℕ). AllByRecursion (λ part. part < table.count) ps) (sym c.in_ok-parts.ensures)
    (parts_below table.of_number.items table.count c.checked-table.ensures.some c.checked-table.ensures.below c.deref-4.result.now)
