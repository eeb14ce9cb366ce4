use Rattle.stm_journal_text.specs.Logged.{greatest}
use Rattle.stm_core_laws.specs.Play.{opening_play}
use Rattle.stm_journal.proofs.OneDrive.{one_drive}
use Rattle.stm_journal.proofs.laws.drives_are_determined.Goals as goal
use Rattle.stm_journal.specs.Drives.{empty_hands}

pub returns : goal.returns
returns c opening frames turns entries others core other one also =
    one_drive (opening_play opening frames greatest) empty_hands turns entries others core other one.0 also.0 one.1 also.1
