-- What the program's words are read as, by the command line that the program has: a subcommand with its words, or a call for help
-- or for the version.
use Rattle.std.specs.Prelude.{◌≡◌, ◌≢◌, ◌⊎◌, ⊤, List, [], Option, Some, None, Result, Ok, Err, option_and_then}
use Rattle.clap.specs.Faults.{fault_of}
use Rattle.clap.specs.Kinds.{IsAmong}
use Rattle.clap.specs.Simple.{subcommand_of}
use Rattle.clap.specs.Walk.{Text}
use Rattle.clap.specs.declared.error.kind.ErrorKind.{ErrorKind}
use Rattle.clap.specs.declared.error.kind.ErrorKind.TheVariants.{DisplayHelp, DisplayVersion}
use Rattle.clap.specs.declared.error.kind.ErrorKind.TheVariants as kinds
use Rattle.app_words.specs.Asked.{Asked, asked, asked_of, help, version}
use Rattle.app_words.specs.CommandLine.{command_line}
use Rattle.app_words.specs.declared.command.Command.{Command}
use Rattle.app_words.specs.declared.command.Command.TheVariants.{Help, Version}
use Rattle.app_words.specs.declared.line_fault.LineFault.{LineFault}
use Rattle.app_words.specs.declared.line_fault.LineFault.TheVariants.{Usage, OutOfMemory}

-- what the subcommand of the words asks for
abbrev pub asked_in : List Text → Option Asked
asked_in words = option_and_then asked (subcommand_of command_line words)

-- the words ask for help
abbrev pub IsHelp : List Text → Type 0
IsHelp words = IsAmong DisplayHelp (fault_of command_line words)

-- the words ask for the version
abbrev pub IsVersion : List Text → Type 0
IsVersion words = IsAmong DisplayVersion (fault_of command_line words)

-- the words ask for this: help, whatever its text, or the version, or they have no fault and a subcommand asks for it
abbrev pub Asks : List Text → Asked → Type 0
Asks words (help text) = IsHelp words
Asks words version = IsVersion words
Asks words what = (fault_of command_line words ≡ []) × (asked_in words ≡ Some what)

-- the words have a fault that is no call for help or for the version, or ask for nothing
abbrev pub IsUsageFault : List Text → Type 0
IsUsageFault words =
    ((kind : ErrorKind) × (kind ≢ DisplayHelp) × (kind ≢ DisplayVersion) × IsAmong kind (fault_of command_line words))
    ⊎ ((fault_of command_line words ≡ []) × (asked_in words ≡ None))

-- the words are read as this command, or as a usage error; or memory ran out
abbrev pub IsRead : List Text → Result Command LineFault → Type 0
IsRead words (Ok command) = Asks words (asked_of command)
IsRead words (Err (Usage text)) = IsUsageFault words
IsRead words (Err OutOfMemory) = ⊤

-- what a subcommand asks for is answered as this command, or that it asks for nothing as a usage error; or memory ran out
abbrev pub IsReadAs : Option Asked → Result Command LineFault → Type 0
IsReadAs what (Ok command) = Some (asked_of command) ≡ what
IsReadAs what (Err (Usage text)) = what ≡ None
IsReadAs what (Err OutOfMemory) = ⊤

-- what the words' reader says where it reads no command, by the kind of its error
abbrev pub IsReadOfKind : ErrorKind → Result Command LineFault → Type 0
IsReadOfKind kind (Ok (Help text)) = kind ≡ DisplayHelp
IsReadOfKind kind (Ok Version) = kind ≡ DisplayVersion
IsReadOfKind kind (Ok command) = ⊥
IsReadOfKind kind (Err (Usage text)) = (kind ≢ DisplayHelp) × (kind ≢ DisplayVersion) × (kind ≢ kinds.OutOfMemory)
IsReadOfKind kind (Err OutOfMemory) = ⊤
