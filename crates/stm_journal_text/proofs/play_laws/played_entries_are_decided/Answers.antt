use Rattle.stm_core_laws.specs.Play.{opening_play}
use Rattle.stm_journal_text.proofs.First.{all_decided}
use Rattle.stm_journal_text.proofs.play_laws.played_entries_are_decided.Goals as goal

pub returns : goal.returns
returns c opening frames limits entries core plays n = all_decided (opening_play opening frames limits) entries core n plays
