use Rattle.stm_journal_text.proofs.Back.{keys_apart}
use Rattle.stm_journal_text.proofs.Lines.{journals_apart, lines_apart}
use Rattle.stm_journal_text.proofs.text_laws.no_two_journals_have_one_text.Goals as goal

pub returns : goal.returns
returns c = record { journals = journals_apart; lines = lines_apart; keys = keys_apart }
