-- What words ask for, subcommand by subcommand.
use Rattle.std.specs.Prelude.{◌&&◌, ℕ, List, [], ◌∷◌, Option, Some, None, codes, map, nat_lt, option_map, option_and_then, string_bytes, if◌then◌else◌}
use Rattle.std.specs.Str.{bytes_eq}
use Rattle.clap.specs.Walk.{Row, Text, all_of, byte_or_zero, first_of}
use Rattle.engine_workers.specs.declared.engine.Engine.{Engine}
use Rattle.engine_workers.specs.declared.engine.Engine.TheVariants.{Locked, Split, Parts}
use Rattle.app_words.specs.declared.engine_choice.EngineChoice.{EngineChoice}
use Rattle.app_words.specs.declared.engine_choice.EngineChoice.TheVariants.{NotNamed, Named}
use Rattle.file_batch.specs.declared.strictness.Strictness.{Strictness}
use Rattle.file_batch.specs.declared.strictness.Strictness.TheVariants.{Lenient, Strict}
use Rattle.file_listing.specs.Bodies.{body_of}
use Rattle.app_words.specs.declared.command.Command.{Command}
use Rattle.app_words.specs.declared.command.Command.TheVariants.{Help, Version, One, Serial, Run, RunWithJournal, Blocks, Audit, AuditBlocks, Show, Pack, PackBlocks}
use Rattle.app_words.specs.declared.asked.BatchArguments.{BatchArguments}
pub use Rattle.file_devices.specs.BatchNames.{Names, names_of}

-- help; the version; one body on the sample book; a batch, one message after another, or by so many workers of an engine, or with a
-- journal; blocks by so many workers of an engine, each of these strictly or not; an audit of a batch, against a journal or without, or of blocks; what a file
-- holds; a batch of texts, or blocks of texts
pub data Asked : Type 0 where
  help : Text → Asked
  version : Asked
  one : List ℕ → Asked
  serial : Names → Strictness → Asked
  run : Names → ℕ → EngineChoice → Strictness → Asked
  run_with_journal : Names → ℕ → Text → Strictness → Asked
  blocks : Names → ℕ → EngineChoice → Strictness → Asked
  audit : Names → Option Text → Asked
  audit_blocks : Names → Asked
  show : Text → Asked
  pack : List Text → Text → Asked
  pack_blocks : List Text → Text → Asked

-- a number of workers, 1 to 64
abbrev pub worker_count : Text → Option ℕ
worker_count text = let n = byte_or_zero text in if nat_lt 0 n && nat_lt n 65 then Some n else None

-- the number behind `--workers`
abbrev pub workers_in : List Row → Option ℕ
workers_in rows = option_and_then worker_count (first_of (codes "workers") rows)

-- the engine of this name
abbrev pub engine_named : Text → Option Engine
engine_named text =
    if bytes_eq text (codes "locked") then Some Locked
    else (if bytes_eq text (codes "split") then Some Split
    else (if bytes_eq text (codes "parts") then Some Parts else None))

-- the engine of this name; where none is named, whatever is fastest
abbrev pub engine_choice : Option Text → Option EngineChoice
engine_choice None = Some NotNamed
engine_choice (Some name) = option_map Named (engine_named name)

-- the engine behind `--engine`
abbrev pub engine_in : List Row → Option EngineChoice
engine_in rows = engine_choice (first_of (codes "engine") rows)

-- whether bodies that are no message are answered: not where the flag is set
abbrev pub strictness_of : Option Text → Strictness
strictness_of None = Lenient
strictness_of (Some text) = if bytes_eq text (codes "true") then Strict else Lenient

-- the same, by `--strict`
abbrev pub strictness_in : List Row → Strictness
strictness_in rows = strictness_of (first_of (codes "strict") rows)

-- the words BOOK, this one, REPLIES and NEWBOOK
abbrev pub names_in : Text → List Row → Option Names
names_in input rows =
    option_and_then (λ book.
    option_and_then (λ batch.
    option_and_then (λ replies.
    option_map (λ new_book. record { book = book; batch = batch; replies = replies; new_book = new_book })
    (first_of (codes "NEWBOOK") rows))
    (first_of (codes "REPLIES") rows))
    (first_of input rows))
    (first_of (codes "BOOK") rows)

-- the body behind `one`
abbrev pub one_in : List Row → Option Asked
one_in rows = option_map one (option_and_then body_of (first_of (codes "FRAME") rows))

-- the files behind `serial`
abbrev pub serial_in : List Row → Option Asked
serial_in rows = option_map (λ names. serial names (strictness_in rows)) (names_in (codes "BATCH") rows)

-- a run by this engine; or with this journal, which the locked engine alone keeps: it decides where none is named
abbrev pub run_by : Names → ℕ → EngineChoice → Strictness → Option Text → Option Asked
run_by names workers engine strictness None = Some (run names workers engine strictness)
run_by names workers NotNamed strictness (Some journal) = Some (run_with_journal names workers journal strictness)
run_by names workers (Named Locked) strictness (Some journal) = Some (run_with_journal names workers journal strictness)
run_by names workers (Named Split) strictness (Some journal) = None
run_by names workers (Named Parts) strictness (Some journal) = None

-- the files, the workers and the engine behind `run`, and the journal
abbrev pub run_in : List Row → Option Asked
run_in rows =
    option_and_then (λ names.
    option_and_then (λ workers.
    option_and_then (λ engine. run_by names workers engine (strictness_in rows) (first_of (codes "journal") rows))
    (engine_in rows))
    (workers_in rows))
    (names_in (codes "BATCH") rows)

-- the files, the workers and the engine behind `blocks`
abbrev pub blocks_in : List Row → Option Asked
blocks_in rows =
    option_and_then (λ names.
    option_and_then (λ workers.
    option_map (λ engine. blocks names workers engine (strictness_in rows))
    (engine_in rows))
    (workers_in rows))
    (names_in (codes "FILE") rows)

-- the files behind `audit`, and the journal
abbrev pub audit_in : List Row → Option Asked
audit_in rows = option_map (λ names. audit names (first_of (codes "journal") rows)) (names_in (codes "BATCH") rows)

-- the files behind `audit-blocks`
abbrev pub audit_blocks_in : List Row → Option Asked
audit_blocks_in rows = option_map audit_blocks (names_in (codes "FILE") rows)

-- the file behind `show`
abbrev pub show_in : List Row → Option Asked
show_in rows = option_map show (first_of (codes "FILE") rows)

-- words from this one on: all but the last
abbrev pub but_last : Text → List Text → List Text
but_last word [] = []
but_last word (next ∷ words) = word ∷ but_last next words

-- the last of them
abbrev pub last_of : Text → List Text → Text
last_of word [] = word
last_of word (next ∷ words) = last_of next words

-- a batch of these texts, or blocks
abbrev pub pack_as : Option Text → List Text → Text → Asked
pack_as None texts file = pack texts file
pack_as (Some flag) texts file = if bytes_eq flag (codes "true") then pack_blocks texts file else pack texts file

-- this text and those of the words behind it, of which the last is the file that is made
abbrev pub pack_by : Option Text → Text → List Text → Option Asked
pack_by flag text [] = None
pack_by flag text (word ∷ words) = Some (pack_as flag (text ∷ but_last word words) (last_of word words))

-- the texts and the file behind `pack`, and whether `--blocks` is there
abbrev pub pack_in : List Row → Option Asked
pack_in rows =
    option_and_then (λ text. option_and_then (pack_by (first_of (codes "blocks") rows) text) (all_of (codes "BATCH") rows)) (first_of (codes "TEXT") rows)

-- what a subcommand of this name with these words asks for
abbrev pub asked : Text × List Row → Option Asked
asked (name, rows) =
    if bytes_eq name (codes "one") then one_in rows
    else (if bytes_eq name (codes "run") then run_in rows
    else (if bytes_eq name (codes "serial") then serial_in rows
    else (if bytes_eq name (codes "blocks") then blocks_in rows
    else (if bytes_eq name (codes "audit") then audit_in rows
    else (if bytes_eq name (codes "audit-blocks") then audit_blocks_in rows
    else (if bytes_eq name (codes "show") then show_in rows
    else (if bytes_eq name (codes "pack") then pack_in rows else None)))))))

abbrev pub names_of_arguments : BatchArguments → Names
names_of_arguments words = record {
  book = words.book.now;
  batch = words.batch.now;
  replies = words.replies.now;
  new_book = words.new_book.now;
}

-- what a command does
abbrev pub asked_of : Command → Asked
asked_of (Help text) = help (string_bytes text)
asked_of Version = version
asked_of (One body) = one body.items
asked_of (Serial names strictness) = serial (names_of names) strictness
asked_of (Run names workers engine strictness) = run (names_of names) workers engine strictness
asked_of (RunWithJournal names workers journal strictness) = run_with_journal (names_of names) workers (string_bytes journal) strictness
asked_of (Blocks names workers engine strictness) = blocks (names_of names) workers engine strictness
asked_of (Audit names journal) = audit (names_of names) (option_map string_bytes journal)
asked_of (AuditBlocks names) = audit_blocks (names_of names)
asked_of (Show file) = show (string_bytes file)
asked_of (Pack texts batch) = pack (map string_bytes texts.items) (string_bytes batch)
asked_of (PackBlocks texts file) = pack_blocks (map string_bytes texts.items) (string_bytes file)
