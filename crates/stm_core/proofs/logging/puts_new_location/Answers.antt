use Rattle.std.proofs.Common.{sym, ◌∙◌, refl, arith}
use Rattle.std.proofs.lemmas.Bool.{false≢true}
use Rattle.std.proofs.lemmas.Option.{slice_get_within}
use Rattle.stm_core.proofs.Resolving.{new_location_at, no_new_location}
use Rattle.stm_core.proofs.logging.puts_new_location.Goals as goal

pub returns-then-not-has_entry : goal.returns-then-not-has_entry
returns-then-not-has_entry c = (
  λ t. new_location_at c.args.memory.now.entries c.args.index c.args.writes.now c.loop-place.place c.at-row.result c.len-place-end.ensures.once c.at-row.ensures.entry (λ some. false≢true (sym c.if-not-has_entry.true ∙ c.has_entry.ensures.1 some)),
  λ new. refl,
)

pub returns : goal.returns
returns c = (
  λ wrong. absurd (false≢true wrong),
  λ new. absurd (no_new_location c.args.memory.now.entries c.args.index c.args.writes.now c.len-place-end.ensures.once (λ k write at. let l = slice_get_within c.args.writes.now k write at in c.loop-place.invariant k write (omega arith) at) new),
)
