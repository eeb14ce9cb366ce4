-- The number of a fault, and its text.
use Rattle.std.specs.Prelude.{ℕ, List, ◌++◌, codes}
use Rattle.std.specs.Fmt.{decimal}
use Rattle.stm_journal_text.specs.declared.replay_fault.ReplayFault.{ReplayFault}
use Rattle.stm_journal_text.specs.declared.replay_fault.ReplayFault.TheVariants.{Line, Unlogged, OutOfMemory}

-- which fault it is, from 1 to 3
abbrev pub number_of_replay_fault : ReplayFault → ℕ
number_of_replay_fault (Line n) = 1
number_of_replay_fault (Unlogged n) = 2
number_of_replay_fault OutOfMemory = 3

-- what is printed of it
abbrev pub replay_fault_text : ReplayFault → List ℕ
replay_fault_text (Line n) = codes "line " ++ (decimal n ++ codes " is no entry of a journal")
replay_fault_text (Unlogged n) = codes "the decision of entry " ++ (decimal n ++ codes " asks for a row that isn't logged")
replay_fault_text OutOfMemory = codes "memory ran out"
