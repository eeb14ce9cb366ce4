-- What plays to a core, where nothing is kept of it.
use Rattle.std.specs.Prelude.{List}
use Rattle.stm_journal_text.specs.Plays.{IsPlayed}
use Rattle.stm_journal_text.specs.declared.entry.Entry.{Entry}
use Rattle.stm_core_laws.specs.Play.{Play}

-- some entries play to the core, whether they are kept or not
pub record IsSomePlay (core : Play) : Type 0 where
  pub entries : List Entry
  pub played : IsPlayed core entries
