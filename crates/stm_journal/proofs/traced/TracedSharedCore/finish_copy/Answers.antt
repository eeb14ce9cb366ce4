use Rattle.std.proofs.Common.{List, sym, ◌∙◌, subst, ◌++◌, ◌∷◌, [], ap}
use Rattle.stm_journal_text.specs.Plays.{IsPlayed}
use Rattle.stm_journal_text.specs.declared.entry.Entry.{Entry}
use Rattle.stm_journal_text.specs.declared.event.Event.TheVariants.{Finish}
use Rattle.stm_core_laws.specs.Play.{Play}
use Rattle.stm_journal_text.proofs.Playing.{IsPlayed-push, stands_where_entered, same_where_not_entered}
use Rattle.stm_journal.proofs.traced.TracedSharedCore.finish_copy.Goals as goal

pub invariant_of-self-then-enters : goal.invariant_of-self-then-enters
invariant_of-self-then-enters c =
    subst (IsPlayed c.hand_in-answer.new.core) (sym (c.enter.ensures ∙ ap (λ (es : List Entry). es ++ record { seat = c.args.seat; event = Finish c.args.version } ∷ []) c.reserve.ensures.items))
    (IsPlayed-push c.self.inside.core c.self.inside.entries.items c.args.seat (Finish c.args.version) c.hand_in-answer.result c.hand_in-answer.new.core
    c.self.invariant c.hand_in-answer.ensures.answer (stands_where_entered c.hand_in-answer.result (sym c.enters.ensures ∙ c.if-enters.true)))

pub invariant_of-self-else-enters : goal.invariant_of-self-else-enters
invariant_of-self-else-enters c =
    let same = same_where_not_entered c.self.inside.core c.args.seat (Finish c.args.version) c.hand_in-answer.result c.hand_in-answer.new.core c.hand_in-answer.ensures.answer (sym c.enters.ensures ∙ c.if-enters.false) in
    subst (IsPlayed c.hand_in-answer.new.core) (sym c.reserve.ensures.items) (subst (λ (p : Play). IsPlayed p c.self.inside.entries.items) (sym same) c.self.invariant)
