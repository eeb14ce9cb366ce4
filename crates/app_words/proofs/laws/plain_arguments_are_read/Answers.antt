use Rattle.app_words.proofs.PlainLemmas.{audit_read, block_audit_read, blocks_read, help, journal_audit_read, journal_read, no_frame, no_word, one_frame, run_read, serial_read, split_blocks_read, split_journal_none, split_read, strict_serial_read, version}
use Rattle.app_words.proofs.laws.plain_arguments_are_read.Goals as goal

pub returns : goal.returns
returns c = record {
  one = one_frame;
  help = help;
  version = version;
  no_frame = no_frame;
  no_word = no_word;
  serial = serial_read;
  strict_serial = strict_serial_read;
  run = run_read;
  journal = journal_read;
  split = split_read;
  split_journal = split_journal_none;
  blocks = blocks_read;
  split_blocks = split_blocks_read;
  audit = audit_read;
  journal_audit = journal_audit_read;
  block_audit = block_audit_read;
}
