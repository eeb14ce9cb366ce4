use Rattle.std.proofs.Common.{◌≡◌, ◌++◌, length}
use Rattle.stm_journal_text.specs.Journal.{journal_text, AreEntries}
use Rattle.stm_journal_text.proofs.reading.read_journal.Given as goal

abbrev pub invariant-loop-rest : goal.invariant-loop-rest
invariant-loop-rest l = record {
  entries : AreEntries l.entries.items;
  parts : l.text ≡ journal_text l.entries.items ++ l.rest;
}

abbrev pub decreases-loop-rest : goal.decreases-loop-rest
decreases-loop-rest l = length l.rest
