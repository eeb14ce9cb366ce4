-- What plain words are read as.
use Rattle.std.specs.Prelude.{◌≡◌, ◌≢◌, ℕ, List, [], ◌∷◌, Some, None, codes}
use Rattle.clap.specs.Walk.{Text}
use Rattle.file_listing.specs.Bodies.{body_of}
use Rattle.engine_workers.specs.declared.engine.Engine.TheVariants.{Split}
use Rattle.app_words.specs.declared.engine_choice.EngineChoice.TheVariants.{NotNamed, Named}
use Rattle.file_batch.specs.declared.strictness.Strictness.TheVariants.{Lenient, Strict}
use Rattle.app_words.specs.Asked.{Names, audit, audit_blocks, blocks, one, run, run_with_journal, serial}
use Rattle.app_words.specs.Arguments.{Asks, IsHelp, IsUsageFault, IsVersion}

-- `one FRAME` asks for the body that FRAME stands for
abbrev pub OneFrameIsRead : Text → Text → List ℕ → Type 0
OneFrameIsRead name digits body = body_of digits ≡ Some body → Asks (name ∷ codes "one" ∷ digits ∷ []) (one body)

-- `--help` asks for help
abbrev pub HelpIsRead : Text → Type 0
HelpIsRead name = IsHelp (name ∷ codes "--help" ∷ [])

-- `--version` asks for the version
abbrev pub VersionIsRead : Text → Type 0
VersionIsRead name = IsVersion (name ∷ codes "--version" ∷ [])

-- the words are a usage error
abbrev pub IsNoCommand : List Text → Type 0
IsNoCommand words = IsUsageFault words

-- the word has a first byte, and that is no hyphen
abbrev pub IsPlain : Text → Type 0
IsPlain [] = ⊥
IsPlain (first ∷ rest) = first ≢ 45

pub record ArePlain (names : Names) : Type 0 where
  pub book : IsPlain names.book
  pub batch : IsPlain names.batch
  pub replies : IsPlain names.replies
  pub new_book : IsPlain names.new_book

-- the program's name, a subcommand's, and the names of files; and what stands behind them
abbrev pub arguments_of : Text → Text → Names → List Text → List Text
arguments_of name subcommand names behind = name ∷ subcommand ∷ names.book ∷ names.batch ∷ names.replies ∷ names.new_book ∷ behind

-- `serial` with its files asks for them
abbrev pub SerialIsRead : Text → Names → Type 0
SerialIsRead name names = ArePlain names → Asks (arguments_of name (codes "serial") names []) (serial names Lenient)

-- with `--strict` behind them, for one that is refused where a body is no message
abbrev pub StrictSerialIsRead : Text → Names → Type 0
StrictSerialIsRead name names = ArePlain names → Asks (arguments_of name (codes "serial") names (codes "--strict" ∷ [])) (serial names Strict)

-- `run` with its files asks for no engine by name and no journal
abbrev pub RunIsRead : Text → Names → Type 0
RunIsRead name names = ArePlain names → Asks (arguments_of name (codes "run") names []) (run names 4 NotNamed Lenient)

-- with `--journal FILE` behind them, for 4 workers of the locked engine, and the journal in FILE too
abbrev pub JournalIsRead : Text → Names → Text → Type 0
JournalIsRead name names file =
    ArePlain names → IsPlain file → Asks (arguments_of name (codes "run") names (codes "--journal" ∷ file ∷ [])) (run_with_journal names 4 file Lenient)

-- with `--engine split` behind them, for 4 workers of the split engine
abbrev pub SplitIsRead : Text → Names → Type 0
SplitIsRead name names = ArePlain names → Asks (arguments_of name (codes "run") names (codes "--engine" ∷ codes "split" ∷ [])) (run names 4 (Named Split) Lenient)

-- with both behind them they are a usage error
abbrev pub SplitJournalIsNone : Text → Names → Text → Type 0
SplitJournalIsNone name names file =
    ArePlain names → IsPlain file
    → IsUsageFault (arguments_of name (codes "run") names (codes "--engine" ∷ codes "split" ∷ codes "--journal" ∷ file ∷ []))

-- `blocks` with its files asks for no engine by name, and with `--engine split` behind them for 4 workers of the split engine
abbrev pub BlocksAreRead : Text → Names → Type 0
BlocksAreRead name names = ArePlain names → Asks (arguments_of name (codes "blocks") names []) (blocks names 4 NotNamed Lenient)

abbrev pub SplitBlocksAreRead : Text → Names → Type 0
SplitBlocksAreRead name names =
    ArePlain names → Asks (arguments_of name (codes "blocks") names (codes "--engine" ∷ codes "split" ∷ [])) (blocks names 4 (Named Split) Lenient)

-- `audit` with its files asks for an audit without a journal, and with `--journal FILE` behind them for one against FILE
abbrev pub AuditIsRead : Text → Names → Type 0
AuditIsRead name names = ArePlain names → Asks (arguments_of name (codes "audit") names []) (audit names None)

abbrev pub JournalAuditIsRead : Text → Names → Text → Type 0
JournalAuditIsRead name names file =
    ArePlain names → IsPlain file → Asks (arguments_of name (codes "audit") names (codes "--journal" ∷ file ∷ [])) (audit names (Some file))

-- `audit-blocks` with its files asks for an audit of blocks
abbrev pub BlockAuditIsRead : Text → Names → Type 0
BlockAuditIsRead name names = ArePlain names → Asks (arguments_of name (codes "audit-blocks") names []) (audit_blocks names)
