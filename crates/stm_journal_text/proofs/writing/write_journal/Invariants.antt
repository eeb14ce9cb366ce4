use Rattle.std.proofs.Common.{◌≡◌, take}
use Rattle.stm_journal_text.specs.Journal.{journal_text, AreEntries}
use Rattle.stm_journal_text.proofs.writing.write_journal.Given as goal

abbrev pub invariant-loop-entry : goal.invariant-loop-entry
invariant-loop-entry l = record {
  text : l.text.items ≡ journal_text (take l.entry-index l.entries);
  entries : AreEntries (take l.entry-index l.entries);
}
