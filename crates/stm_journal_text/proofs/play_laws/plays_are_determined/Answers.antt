use Rattle.stm_core_laws.proofs.Reached.{IsReached-start}
use Rattle.stm_core_laws.specs.Play.{opening_play}
use Rattle.stm_journal_text.proofs.OneEntry.{one_play, reached_play}
use Rattle.stm_journal_text.proofs.play_laws.plays_are_determined.Goals as goal

pub returns-clause-one : goal.returns-clause-one
returns-clause-one c opening frames limits entries core other = one_play (opening_play opening frames limits) entries core other

pub returns-clause-reached : goal.returns-clause-reached
returns-clause-reached c opening frames limits entries core =
    reached_play (opening_play opening frames limits) entries core (IsReached-start opening frames limits)
