-- Faults of the program: their texts and exit statuses.
use Rattle.std.specs.Prelude.{ℕ, List, ◌∷◌, ◌++◌, Option, Some, None, codes, string_bytes}
use Rattle.app_runs.specs.Words.{Halt, JobFault, number_of, part_of}
use Rattle.app_words.specs.declared.line_fault.LineFault.{LineFault}
use Rattle.app_words.specs.declared.line_fault.LineFault.TheVariants as line
use Rattle.app_commands.specs.Printed.{numbered}
use Rattle.app_commands.specs.declared.fault.Fault.{Fault}
use Rattle.app_commands.specs.declared.fault.Fault.TheVariants.{Usage, OutOfMemory, Job, Halted}

-- 2 for words that are no command, else 1
abbrev pub status_of : Fault → ℕ
status_of (Usage text) = 2
status_of OutOfMemory = 1
status_of (Job fault) = 1
status_of (Halted fault kept) = 1

-- what is wrong with the words, that memory ran out, or what the fault is of and its number there; and on a line behind it, how many
-- blocks are kept
abbrev pub text_of : Fault → List ℕ
text_of (Usage text) = string_bytes text
text_of OutOfMemory = codes "memory 1"
text_of (Job fault) = numbered (part_of fault) (number_of fault)
text_of (Halted fault kept) = numbered (part_of fault) (number_of fault) ++ 10 ∷ numbered (codes "kept") kept

-- the fault of words
abbrev pub fault_of_line : LineFault → Fault
fault_of_line (line.Usage text) = Usage text
fault_of_line line.OutOfMemory = OutOfMemory

abbrev pub fault_and_kept : JobFault → Option ℕ → Fault
fault_and_kept fault (Some kept) = Halted fault kept
fault_and_kept fault None = Job fault

-- the fault of blocks, of which some may be kept
abbrev pub fault_of_halt : Halt → Fault
fault_of_halt halt = fault_and_kept halt.fault halt.kept
