use Rattle.std.proofs.Common.{◌≡◌, ℕ, ◌<◌, length, get_or, refl, sym, ap, ◌∙◌, subst, length-set}
use Rattle.std.proofs.lemmas.List.{get_or_read}
use Rattle.stm_journal.proofs.Drives.{AreOfMessages, AreOfMessages-empty, AreOfMessages-set, IsDriven-more}
use Rattle.stm_journal.proofs.Turning.{turn_frames, turn_message, turn_reached}
use Rattle.stm_journal.proofs.driving.take_turns.Goals as goal
use Rattle.stm_journal.specs.Drives.{Hands, empty_hands, hand}
use Rattle.stm_journal.specs.Turns.{IsOfMessage, IsTurn}
use Rattle.stm_journal.specs.declared.holding.Holding.{Holding}
use Rattle.stm_journal.specs.declared.holding.Holding.TheVariants as holds
use Rattle.stm_core_laws.specs.State.{seats}

-- what a place of the hands has
held_at : (hands : Hands) (place : ℕ) (holding : Holding) → length hands ≡ seats → place < seats → holding ≡ get_or hands place holding → holding ≡ hand hands place
held_at hands place holding all l is = get_or_read hands place holding (subst (λ (n : ℕ). place < n) (sym all) l) is holds.Nothing

pub loop-index-init : goal.loop-index-init
loop-index-init c = record {
  driven = (c.requires.entries, refl, c.in_ok-hands.ensures);
  hands = ap (λ (hands : Hands). length hands) c.in_ok-hands.ensures;
  bodies = c.requires.frames;
  reached = c.requires.reached;
  messages = subst (AreOfMessages (length c.args.frames.now)) (sym c.in_ok-hands.ensures) (AreOfMessages-empty (length c.args.frames.now));
}

pub take_turn-requires-clause-message : goal.take_turn-requires-clause-message
take_turn-requires-clause-message c =
    subst (IsOfMessage (length c.args.frames.now)) (sym (held_at c.loop-index.hands.items c.number-place.result c.index.result.now c.loop-index.invariant.hands c.number-place.ensures.bound c.index.ensures))
    (c.loop-index.invariant.messages c.number-place.result)

pub loop-index-preserved : goal.loop-index-preserved
loop-index-preserved c =
    let old = c.loop-index.traced.core in
    let new = c.take_turn.new.traced.core in
    let hands = c.loop-index.hands.items in
    let place = c.number-place.result in
    let holding = c.index.result.now in
    let next = c.in_ok-next.next in
    let turned = c.in_ok-next.ensures in
    let held : holding ≡ hand hands place = held_at hands place holding c.loop-index.invariant.hands c.number-place.ensures.bound c.index.ensures in
    let turn : IsTurn old place (hand hands place) turned.0 next new =
    subst (λ (h : Holding). IsTurn old place h turned.0 next new) held (subst (λ (k : ℕ). IsTurn old k holding turned.0 next new) (sym c.number-place.ensures.value) turned.2) in
    let at : place ≡ get_or c.args.seats.now c.loop-index.index place = subst (λ (k : ℕ). k ≡ get_or c.args.seats.now c.loop-index.index k) (sym c.number-place.ensures.value) c.index-seats-index.is in
    let bodies = c.loop-index.invariant.bodies in
    let before : IsOfMessage (length old.state.frames) (hand hands place) = subst (λ (fs : _). IsOfMessage (length fs) (hand hands place)) (sym bodies) (c.loop-index.invariant.messages place) in
    let one : IsOfMessage (length c.args.frames.now) next =
    subst (λ (fs : _). IsOfMessage (length fs) next) bodies (turn_message old place (hand hands place) turned.0 next new c.loop-index.invariant.reached before turn) in
    record {
      driven = IsDriven-more _ empty_hands c.args.seats.now c.loop-index.index c.loop-index.traced.entries c.take_turn.new.traced.entries old hands place turned.0 next new c.loop-index-test.true at c.loop-index.invariant.driven turned.1 turn;
      hands = length-set hands place next ∙ c.loop-index.invariant.hands;
      bodies = turn_frames old place (hand hands place) turned.0 next new turn ∙ bodies;
      reached = turn_reached old place (hand hands place) turned.0 next new c.loop-index.invariant.reached turn;
      messages = AreOfMessages-set (length c.args.frames.now) hands place next (subst (λ (n : ℕ). place < n) (sym c.loop-index.invariant.hands) c.number-place.ensures.bound) c.loop-index.invariant.messages one;
    }
