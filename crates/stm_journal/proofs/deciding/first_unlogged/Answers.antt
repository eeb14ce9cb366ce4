use Rattle.std.proofs.Common.{◌≡◌, ◌≢◌, None, rules, refl, sym, ◌∙◌}
use Rattle.stm_core_laws.specs.State.{slot}
use Rattle.stm_journal.proofs.Kept.{first_at, logged_past}
use Rattle.stm_journal.proofs.deciding.first_unlogged.Goals as goal

pub returns-then-is_none-clause-first : goal.returns-then-is_none-clause-first
returns-then-is_none-clause-first c =
    let found = (rw c.present_version-version.ensures at c.logged.ensures.present) refl in
    let none : c.logged.result ≡ None = search rules in
    first_at (slot c.args.core.now.state c.args.index).log c.args.reads.now c.loop-place.place c.at-row.result c.at-row.ensures.entry c.loop-place.invariant (sym found ∙ none)

pub loop-place-preserved : goal.loop-place-preserved
loop-place-preserved c =
    let found = (rw c.present_version-version.ensures at c.logged.ensures.present) refl in
    let some : c.logged.result ≢ None = search rules in
    logged_past (slot c.args.core.now.state c.args.index).log c.args.reads.now c.loop-place.place c.at-row.result c.at-row.ensures.entry c.loop-place.invariant (λ none. some (found ∙ none))
