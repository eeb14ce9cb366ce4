-- From the words' reader to what the words are read as.
use Rattle.std.proofs.Common.{◌≡◌, ◌⊎◌, ◌≤◌, ◌&&◌, ℕ, List, [], ◌∷◌, Option, Some, None, codes, inl, inr, refl, sym, ◌∙◌, true, false, Bool, arith, nat_lt, string_bytes, option_map, option_and_then, Result, Ok, Err, if◌then◌else◌}
use Rattle.std.proofs.lemmas.Bool.Decides.{nat_tests}
use Rattle.std.specs.Option.{SomeIff}
use Rattle.clap.proofs.OnLiterals.{clap_on_literals}
use Rattle.clap.specs.Faults.{fault_of, is_simple_and_free}
use Rattle.clap.specs.Kinds.{IsAmong}
use Rattle.std.specs.Str.{bytes_eq}
use Rattle.clap.specs.Simple.{is_simple, subcommand_of}
use Rattle.clap.specs.Walk.{Row, Text, all_of, first_of}
use Rattle.clap.specs.declared.error.kind.ErrorKind.{ErrorKind}
use Rattle.clap.specs.declared.error.kind.ErrorKind.TheVariants as kinds
use Rattle.file_batch.specs.declared.strictness.Strictness.{Strictness}
use Rattle.file_listing.specs.Bodies.{body_of}
use Rattle.app_words.specs.declared.engine_choice.EngineChoice.{EngineChoice}
use Rattle.app_words.specs.declared.engine_choice.EngineChoice.TheVariants.{NotNamed, Named}
use Rattle.engine_workers.specs.declared.engine.Engine.TheVariants.{Locked, Split, Parts}
use Rattle.app_words.specs.Asked.{Asked, Names, asked, asked_of, audit, audit_blocks, audit_blocks_in, audit_in, blocks, blocks_in, engine_in, help, names_in, one, one_in, but_last, last_of, pack, pack_as, pack_blocks, pack_by, pack_in, run, run_by, run_in, run_with_journal, serial, serial_in, show, show_in, strictness_in, version, workers_in}
use Rattle.app_words.specs.CommandLine.{command_line}
use Rattle.app_words.specs.Arguments.{IsRead, IsReadAs, IsReadOfKind, asked_in}
use Rattle.app_words.specs.declared.command.Command.{Command}
use Rattle.app_words.specs.declared.command.Command.TheVariants.{Help, Version, One, Serial, Run, RunWithJournal, Blocks, Audit, AuditBlocks, Show, Pack, PackBlocks}
use Rattle.app_words.specs.declared.line_fault.LineFault.{LineFault}
use Rattle.app_words.specs.declared.line_fault.LineFault.TheVariants.{Usage, OutOfMemory}

-- the command line is one whose reading is known in both outcomes
pub simple_line : is_simple command_line ≡ true
unfolding clap_on_literals
simple_line = refl

pub free_line : is_simple_and_free command_line ≡ true
unfolding clap_on_literals
free_line = refl

-- what the words' reader says where it has an error of this kind
pub read_of_kind : (words : List Text) (kind : ErrorKind) (result : Result Command LineFault) → (kind ≡ kinds.OutOfMemory) ⊎ IsAmong kind (fault_of command_line words)
    → IsReadOfKind kind result → IsRead words result
read_of_kind words kind (Ok (Help text)) (inl memory) h = let both : kinds.DisplayHelp ≡ kinds.OutOfMemory = sym h ∙ memory in cc
read_of_kind words kind (Ok (Help text)) (inr among) h = rw (← h) among
read_of_kind words kind (Ok Version) (inl memory) h = let both : kinds.DisplayVersion ≡ kinds.OutOfMemory = sym h ∙ memory in cc
read_of_kind words kind (Ok Version) (inr among) h = rw (← h) among
read_of_kind words kind (Ok (One body)) among h = absurd h
read_of_kind words kind (Ok (Serial names strictness)) among h = absurd h
read_of_kind words kind (Ok (Run names workers engine strictness)) among h = absurd h
read_of_kind words kind (Ok (RunWithJournal names workers journal strictness)) among h = absurd h
read_of_kind words kind (Ok (Blocks names workers engine strictness)) among h = absurd h
read_of_kind words kind (Ok (Audit names journal)) among h = absurd h
read_of_kind words kind (Ok (AuditBlocks names)) among h = absurd h
read_of_kind words kind (Ok (Show file)) among h = absurd h
read_of_kind words kind (Ok (Pack texts batch)) among h = absurd h
read_of_kind words kind (Ok (PackBlocks texts file)) among h = absurd h
read_of_kind words kind (Err (Usage text)) (inl memory) h = absurd (h.2 memory)
read_of_kind words kind (Err (Usage text)) (inr among) h = inl (kind, h.0, h.1, among)
read_of_kind words kind (Err OutOfMemory) among h = tt

-- all that subcommands ask for is neither help nor the version
abbrev is_of_subcommand : Asked → Bool
is_of_subcommand (help text) = false
is_of_subcommand version = false
is_of_subcommand (one body) = true
is_of_subcommand (serial names strictness) = true
is_of_subcommand (run names workers engine strictness) = true
is_of_subcommand (run_with_journal names workers journal strictness) = true
is_of_subcommand (blocks names workers engine strictness) = true
is_of_subcommand (audit names journal) = true
is_of_subcommand (audit_blocks names) = true
is_of_subcommand (show file) = true
is_of_subcommand (pack texts batch) = true
is_of_subcommand (pack_blocks texts file) = true

of_one : {A : Type 0} (f : A → Asked) → ((a : A) → is_of_subcommand (f a) ≡ true) → (x : Option A) (what : Asked) → option_map f x ≡ Some what
    → is_of_subcommand what ≡ true
of_one f each None what h = cc
of_one f each (Some a) what h = let same : f a ≡ what = cc in rw (← same) (each a)

of_two : {A B : Type 0} (f : A → B → Asked) → ((a : A) (b : B) → is_of_subcommand (f a b) ≡ true) → (x : Option A) (y : Option B) (what : Asked)
    → option_and_then (λ a. option_map (f a) y) x ≡ Some what → is_of_subcommand what ≡ true
of_two f each None y what h = cc
of_two f each (Some a) y what h = of_one (f a) (each a) y what h

of_each : {A : Type 0} (f : A → Option Asked) → ((a : A) (what : Asked) → f a ≡ Some what → is_of_subcommand what ≡ true) → (x : Option A) (what : Asked)
    → option_and_then f x ≡ Some what → is_of_subcommand what ≡ true
of_each f each None what h = cc
of_each f each (Some a) what h = each a what h

of_run : (names : Names) (workers : ℕ) (engine : EngineChoice) (strictness : Strictness) (journal : Option Text) (what : Asked)
    → run_by names workers engine strictness journal ≡ Some what → is_of_subcommand what ≡ true
of_run names workers engine strictness None what h = let same : run names workers engine strictness ≡ what = cc in rw (← same) refl
of_run names workers NotNamed strictness (Some journal) what h = let same : run_with_journal names workers journal strictness ≡ what = cc in rw (← same) refl
of_run names workers (Named Locked) strictness (Some journal) what h = let same : run_with_journal names workers journal strictness ≡ what = cc in rw (← same) refl
of_run names workers (Named Split) strictness (Some journal) what h = cc
of_run names workers (Named Parts) strictness (Some journal) what h = cc

as_packed : (is_set : Bool) (texts : List Text) (file : Text) → is_of_subcommand (if is_set then pack_blocks texts file else pack texts file) ≡ true
as_packed true texts file = refl
as_packed false texts file = refl

as_pack : (flag : Option Text) (texts : List Text) (file : Text) → is_of_subcommand (pack_as flag texts file) ≡ true
as_pack None texts file = refl
as_pack (Some flag) texts file = as_packed (bytes_eq flag (codes "true")) texts file

of_pack : (flag : Option Text) (text : Text) (words : List Text) (what : Asked) → pack_by flag text words ≡ Some what → is_of_subcommand what ≡ true
of_pack flag text [] what h = cc
of_pack flag text (word ∷ words) what h =
    let same : pack_as flag (text ∷ but_last word words) (last_of word words) ≡ what = cc in
    rw (← same) (as_pack flag (text ∷ but_last word words) (last_of word words))

of_subcommand : (a b c d e f g i : Bool) (rows : List Row) (what : Asked)
    → (if a then one_in rows
    else (if b then run_in rows
    else (if c then serial_in rows
    else (if d then blocks_in rows
    else (if e then audit_in rows
    else (if f then audit_blocks_in rows
    else (if g then show_in rows
    else (if i then pack_in rows else None)))))))) ≡ Some what → is_of_subcommand what ≡ true
of_subcommand true b c d e f g i rows what h = of_one one (λ body. refl) (option_and_then body_of (first_of (codes "FRAME") rows)) what h
of_subcommand false true c d e f g i rows what h =
    of_each (λ names. option_and_then (λ workers. option_and_then (λ engine. run_by names workers engine (strictness_in rows) (first_of (codes "journal") rows)) (engine_in rows)) (workers_in rows))
    (λ names. of_each (λ workers. option_and_then (λ engine. run_by names workers engine (strictness_in rows) (first_of (codes "journal") rows)) (engine_in rows))
    (λ workers. of_each (λ engine. run_by names workers engine (strictness_in rows) (first_of (codes "journal") rows))
    (λ engine. of_run names workers engine (strictness_in rows) (first_of (codes "journal") rows)) (engine_in rows)) (workers_in rows))
    (names_in (codes "BATCH") rows) what h
of_subcommand false false true d e f g i rows what h = of_one (λ names. serial names (strictness_in rows)) (λ names. refl) (names_in (codes "BATCH") rows) what h
of_subcommand false false false true e f g i rows what h =
    of_each (λ names. option_and_then (λ workers. option_map (λ engine. blocks names workers engine (strictness_in rows)) (engine_in rows)) (workers_in rows))
    (λ names. of_two (λ workers engine. blocks names workers engine (strictness_in rows)) (λ workers engine. refl) (workers_in rows) (engine_in rows)) (names_in (codes "FILE") rows) what h
of_subcommand false false false false true f g i rows what h =
    of_one (λ names. audit names (first_of (codes "journal") rows)) (λ names. refl) (names_in (codes "BATCH") rows) what h
of_subcommand false false false false false true g i rows what h = of_one audit_blocks (λ names. refl) (names_in (codes "FILE") rows) what h
of_subcommand false false false false false false true i rows what h = of_one show (λ file. refl) (first_of (codes "FILE") rows) what h
of_subcommand false false false false false false false true rows what h =
    of_each (λ text. option_and_then (pack_by (first_of (codes "blocks") rows) text) (all_of (codes "BATCH") rows))
    (λ text. of_each (pack_by (first_of (codes "blocks") rows) text) (of_pack (first_of (codes "blocks") rows) text) (all_of (codes "BATCH") rows))
    (first_of (codes "TEXT") rows) what h
of_subcommand false false false false false false false false rows what h = cc

met_asks : (met : Option (Text × List Row)) (what : Asked) → option_and_then asked met ≡ Some what → is_of_subcommand what ≡ true
met_asks None what h = cc
met_asks (Some (name, rows)) what h =
    of_subcommand (bytes_eq name (codes "one")) (bytes_eq name (codes "run")) (bytes_eq name (codes "serial")) (bytes_eq name (codes "blocks"))
    (bytes_eq name (codes "audit")) (bytes_eq name (codes "audit-blocks")) (bytes_eq name (codes "show")) (bytes_eq name (codes "pack")) rows what h

-- what a command is that the words ask for
read_as : (words : List Text) (command : Command) → fault_of command_line words ≡ [] → Some (asked_of command) ≡ asked_in words → IsRead words (Ok command)
read_as words (Help text) fault h = let no : false ≡ true = met_asks (subcommand_of command_line words) (help (string_bytes text)) (sym h) in cc
read_as words Version fault h = let no : false ≡ true = met_asks (subcommand_of command_line words) version (sym h) in cc
read_as words (One body) fault h = (fault, sym h)
read_as words (Serial names strictness) fault h = (fault, sym h)
read_as words (Run names workers engine strictness) fault h = (fault, sym h)
read_as words (RunWithJournal names workers journal strictness) fault h = (fault, sym h)
read_as words (Blocks names workers engine strictness) fault h = (fault, sym h)
read_as words (Audit names journal) fault h = (fault, sym h)
read_as words (AuditBlocks names) fault h = (fault, sym h)
read_as words (Show file) fault h = (fault, sym h)
read_as words (Pack texts batch) fault h = (fault, sym h)
read_as words (PackBlocks texts file) fault h = (fault, sym h)

-- what the words are read as where their subcommand is
pub read_met : (words : List Text) (result : Result Command LineFault) → fault_of command_line words ≡ [] → IsReadAs (asked_in words) result → IsRead words result
read_met words (Ok command) fault h = read_as words command fault h
read_met words (Err (Usage text)) fault h = inr (fault, h)
read_met words (Err OutOfMemory) fault h = tt

-- a number of workers
pub workers_are : (n : ℕ) (r : Option ℕ) → SomeIff r ((1 ≤ n) × (n ≤ 64)) n → r ≡ (if nat_lt 0 n && nat_lt n 65 then Some n else None)
workers_are n (Some x) h =
    let low : nat_lt 0 n ≡ true = grind (arith, nat_tests, h.0.0) in
    let high : nat_lt n 65 ≡ true = grind (arith, nat_tests, h.0.1) in
    rw (low, high, h.1) refl
workers_are n None h = go (nat_lt 0 n) (nat_lt n 65) refl refl
  where
    go : (a b : Bool) → nat_lt 0 n ≡ a → nat_lt n 65 ≡ b → None ≡ (if a && b then Some n else None)
    go false b e f = refl
    go true false e f = refl
    go true true e f =
        let low : 1 ≤ n = grind (arith, nat_tests, e) in
        let high : n ≤ 64 = grind (arith, nat_tests, f) in
        absurd (h (low, high))
