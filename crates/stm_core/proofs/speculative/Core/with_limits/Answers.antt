use Rattle.std.proofs.Common.{◌≡◌, arith}
use Rattle.stm_core_laws.specs.State.{State, start}
use Rattle.stm_core.proofs.Steps.{opened_state, sound_at_start}
use Rattle.stm_core.proofs.speculative.Core.with_limits.Goals as goal

abbrev opened : goal.After-new-2 → State
opened c = record {
  opening = c.in_ok-opening.opening;
  frames = c.in_ok-copies.copies.items;
  entries = c.new-2.result.entries;
  board = c.in_ok-scheduler.scheduler.board;
  slots = c.in_ok-slots.slots.items;
  limits = record { incarnation = c.args.limits.incarnation; epoch = c.max.result };
  validations = c.in_ok-validations.validations.items;
}

is_start : (c : goal.After-new-2) → opened c ≡ start c.args.book.now c.args.frames.now c.args.limits
is_start c =
    opened_state c.args.book.now c.args.frames.now c.args.limits c.in_ok-opening.opening c.in_ok-copies.copies.items c.new-2.result.entries
    c.in_ok-scheduler.scheduler c.in_ok-slots.slots.items c.max.result c.in_ok-validations.validations.items c.in_ok-opening.ensures
    (c.in_ok-copies.ensures.items_if_clones_equal (λ x y e. e)) c.new-2.ensures c.in_ok-scheduler.ensures c.in_ok-slots.ensures
    (let most = c.max.ensures in omega arith) c.in_ok-validations.ensures

pub invariant_of-result : goal.invariant_of-result
invariant_of-result c =
    let most = c.max.ensures in
    sound_at_start c.args.book.now c.args.frames.now c.args.limits (opened c) (is_start c) c.requires (omega arith) (omega arith)

pub returns : goal.returns
returns c =
    λ i. record { state = is_start c i; execution = (c.in_ok-scheduler.ensures i).execution; validation = (c.in_ok-scheduler.ensures i).validation }
