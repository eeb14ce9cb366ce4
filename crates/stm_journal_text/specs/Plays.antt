-- A journal played again.
use Rattle.std.specs.Prelude.{◌≡◌, true, List, [], ◌∷◌}
use Rattle.stm_journal_text.specs.declared.entry.Entry.{Entry}
use Rattle.stm_core_laws.specs.Play.{Play, opening_play}
use Rattle.stm_journal_text.specs.Answers.{Answers, stands}
use Rattle.stm_journal_text.specs.declared.core_answer.CoreAnswer.{CoreAnswer}

-- The entry leads from old to new: its event is answered, and refused neither where memory ran out nor because other rows were read.
abbrev pub EntryStep : Play → Entry → Play → Type 0
EntryStep old entry new = (answer : CoreAnswer) × (stands answer ≡ true) × Answers old entry.seat entry.event answer new

-- the entries lead from old to new, one after another
abbrev pub Plays : Play → List Entry → Play → Type 0
Plays old [] new = new ≡ old
Plays old (entry ∷ entries) new = (mid : Play) × EntryStep old entry mid × Plays mid entries new

-- the core is the play of these entries, from the opening state of its book, its bodies and its limits
unfoldable pub IsPlayed : Play → List Entry → Type 0
IsPlayed core entries = Plays (opening_play core.state.opening core.state.frames core.state.limits) entries core
