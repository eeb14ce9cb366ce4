-- How plain words are read.
use Rattle.std.proofs.Common.{◌≡◌, ◌==◌, ℕ, Bool, true, false, List, [], ◌∷◌, ◌%◌, length, Err, inl, refl, codes, ap, ap₂, ◌∙◌, arith, Some, find, fold, unwrap_or, inr, option_map, if◌then◌else◌}
use Rattle.std.proofs.lemmas.Bool.Decides.{nat_tests}
use Rattle.std.proofs.lemmas.Bool.{false_from_ne_true}
use Rattle.clap.proofs.OnLiterals.{clap_on_literals}
use Rattle.clap.specs.Faults.{fault_of, level_fault, step_fault, turn_fault, walk_fault}
use Rattle.clap.specs.Kinds.{Kinds, or_else}
use Rattle.clap.specs.Simple.{Shape, built, label_of, new_rule, new_shape}
use Rattle.clap.specs.Walk.{Held, Rule, Step, Text, Walk, after_step, answers_to, arg_by_index, finished, idle, nothing_held, option, plain_word, settled, walked}
use Rattle.clap.specs.declared.error.kind.ErrorKind.TheVariants as kinds
use Rattle.hex.specs.Hex.{decode_pairs}
use Rattle.hex.specs.declared.error.FromHexError.{FromHexError}
use Rattle.file_listing.specs.Bodies.{body_of, fitting}
use Rattle.app_words.specs.Plainly.{ArePlain, IsPlain, JournalIsRead, JournalAuditIsRead, AuditIsRead, BlockAuditIsRead, BlocksAreRead, OneFrameIsRead, HelpIsRead, IsNoCommand, RunIsRead, SerialIsRead, SplitBlocksAreRead, SplitIsRead, SplitJournalIsNone, StrictSerialIsRead, VersionIsRead}
use Rattle.app_words.specs.Asked.{Names, asked, one}
use Rattle.app_words.specs.CommandLine.{command_line}
use Rattle.app_words.specs.Arguments.{asked_in}
use Rattle.app_words.proofs.PlainSteps.{FourOperands, FourPlain, between, four_fault, four_faults, four_held, four_walked, level_by, plain_turn, plain_walked}

either_error : (odd : Bool) (x y : FromHexError) (body : List ℕ) → fitting (if odd then Err x else Err y) ≡ Some body → ⊥
either_error true x y body h = cc
either_error false x y body h = cc

-- a hyphen is no hexadecimal digit
hyphen_is_none : (rest : Text) (body : List ℕ) → body_of (45 ∷ rest) ≡ Some body → ⊥
unfolding decode_pairs
hyphen_is_none [] body h = cc
hyphen_is_none (low ∷ rest) body h = either_error (length (45 ∷ low ∷ rest) % 2 == 1) _ _ body h

not_hyphen : (d : ℕ) (rest : Text) (body : List ℕ) → body_of (d ∷ rest) ≡ Some body → (d == 45) ≡ false
not_hyphen d rest body h = false_from_ne_true (d == 45) (λ e. let same : d ≡ 45 = grind (arith, nat_tests) in hyphen_is_none rest body (rw (← same) h))

-- a word that begins with no hyphen is FRAME
no_fault : (name : Text) (d : ℕ) (rest : Text) → (d == 45) ≡ false → fault_of command_line (name ∷ codes "one" ∷ (d ∷ rest) ∷ []) ≡ []
unfolding clap_on_literals
no_fault name d rest h = simp h refl

is_frame : (name : Text) (d : ℕ) (rest : Text) → (d == 45) ≡ false
    → asked_in (name ∷ codes "one" ∷ (d ∷ rest) ∷ []) ≡ option_map one (body_of (d ∷ rest))
unfolding clap_on_literals
is_frame name d rest h = simp h refl

pub one_frame : (name digits : Text) (body : List ℕ) → OneFrameIsRead name digits body
unfolding decode_pairs
one_frame name [] body h = cc
one_frame name (d ∷ rest) body h =
    let plain = not_hyphen d rest body h in
    (no_fault name d rest plain, is_frame name d rest plain ∙ ap (option_map one) h)

pub help : (name : Text) → HelpIsRead name
unfolding clap_on_literals
help name = inl refl

pub no_frame : (name : Text) → IsNoCommand (name ∷ codes "one" ∷ [])
unfolding clap_on_literals
no_frame name = inl (kinds.MissingRequiredArgument, (λ e. cc), (λ e. cc), inl refl)

pub no_word : (name : Text) → IsNoCommand (name ∷ [])
unfolding clap_on_literals
no_word name = inl (kinds.DisplayHelpOnMissingArgumentOrSubcommand, (λ e. cc), (λ e. cc), inl refl)

pub version : (name : Text) → VersionIsRead name
unfolding clap_on_literals
version name = inl refl

-- the shape of a subcommand, and its operands
abbrev leaf : Text → Shape
leaf name = unwrap_or (find (λ s. answers_to name (label_of s)) (built command_line).subs) (new_shape name)

abbrev operand_at : Shape → ℕ → Rule
operand_at s p = unwrap_or (arg_by_index s.rules p) (new_rule [])

-- the first four operands take a word each
abbrev FilesFirst : Shape → Type 0
FilesFirst s = FourOperands s.rules (operand_at s 1) (operand_at s 2) (operand_at s 3) (operand_at s 4)

-- what is held behind the names of files
abbrev held_files : Shape → Names → Held
held_files s names = four_held s.rules (operand_at s 1) (operand_at s 2) (operand_at s 3) (operand_at s 4) names.book names.batch names.replies names.new_book

abbrev fault_files : Shape → Names → Kinds → Kinds
fault_files s names behind = four_faults s (operand_at s 1) (operand_at s 2) (operand_at s 3) (operand_at s 4) names.book names.batch names.replies behind

-- the walk over the words behind them
abbrev walk_behind : Shape → Names → List Text → Walk
walk_behind s names behind = fold (walked s.rules []) (between (held_files s names) idle 5) behind

files_plain : (names : Names) → ArePlain names → FourPlain names.book names.batch names.replies names.new_book
files_plain names plain = record { first = plain.book; second = plain.batch; third = plain.replies; fourth = plain.new_book }

files_walked : (s : Shape) → FilesFirst s → (names : Names) → ArePlain names → (behind : List Text)
    → fold (walked s.rules []) (between nothing_held idle 1) (names.book ∷ names.batch ∷ names.replies ∷ names.new_book ∷ behind) ≡ walk_behind s names behind
files_walked s are names plain behind =
    four_walked s.rules (operand_at s 1) (operand_at s 2) (operand_at s 3) (operand_at s 4) are names.book names.batch names.replies names.new_book (files_plain names plain) behind

files_fault : (s : Shape) → FilesFirst s → (names : Names) → ArePlain names → (behind : List Text)
    → level_fault s [] nothing_held (names.book ∷ names.batch ∷ names.replies ∷ names.new_book ∷ behind) false []
    ≡ level_by s (walk_behind s names behind).held (fault_files s names (walk_fault s [] (between (held_files s names) idle 5) behind))
files_fault s are names plain behind =
    ap₂ (λ (w : Walk) (k : Kinds). level_by s w.held k) (files_walked s are names plain behind)
    (four_fault s (operand_at s 1) (operand_at s 2) (operand_at s 3) (operand_at s 4) are names.book names.batch names.replies names.new_book (files_plain names plain) behind)

-- what the subcommand of this name asks for behind its files
files_asked : (name : Text) (s : Shape) → FilesFirst s → (names : Names) → ArePlain names → (behind : List Text)
    → asked (name, finished s.rules (fold (walked s.rules []) (between nothing_held idle 1) (names.book ∷ names.batch ∷ names.replies ∷ names.new_book ∷ behind)).held)
    ≡ asked (name, finished s.rules (walk_behind s names behind).held)
files_asked name s are names plain behind = ap (λ (w : Walk). asked (name, finished s.rules w.held)) (files_walked s are names plain behind)

serial_files : FilesFirst (leaf (codes "serial"))
serial_files = record { first = (refl, refl, refl); second = (refl, refl, refl); third = (refl, refl, refl); fourth = (refl, refl, refl) }

run_files : FilesFirst (leaf (codes "run"))
run_files = record { first = (refl, refl, refl); second = (refl, refl, refl); third = (refl, refl, refl); fourth = (refl, refl, refl) }

blocks_files : FilesFirst (leaf (codes "blocks"))
blocks_files = record { first = (refl, refl, refl); second = (refl, refl, refl); third = (refl, refl, refl); fourth = (refl, refl, refl) }

audit_files : FilesFirst (leaf (codes "audit"))
audit_files = record { first = (refl, refl, refl); second = (refl, refl, refl); third = (refl, refl, refl); fourth = (refl, refl, refl) }

audit_blocks_files : FilesFirst (leaf (codes "audit-blocks"))
audit_blocks_files = record { first = (refl, refl, refl); second = (refl, refl, refl); third = (refl, refl, refl); fourth = (refl, refl, refl) }

-- words behind which nothing stands, or words that are written out
pub serial_read : (name : Text) (names : Names) → SerialIsRead name names
unfolding clap_on_literals
serial_read name names plain = (
  ap (λ k. or_else k []) (files_fault (leaf (codes "serial")) serial_files names plain []),
  files_asked (codes "serial") (leaf (codes "serial")) serial_files names plain [],
)

pub strict_serial_read : (name : Text) (names : Names) → StrictSerialIsRead name names
unfolding clap_on_literals
strict_serial_read name names plain = (
  ap (λ k. or_else k []) (files_fault (leaf (codes "serial")) serial_files names plain (codes "--strict" ∷ [])),
  files_asked (codes "serial") (leaf (codes "serial")) serial_files names plain (codes "--strict" ∷ []),
)

pub run_read : (name : Text) (names : Names) → RunIsRead name names
unfolding clap_on_literals
run_read name names plain = (
  ap (λ k. or_else k []) (files_fault (leaf (codes "run")) run_files names plain []),
  files_asked (codes "run") (leaf (codes "run")) run_files names plain [],
)

pub blocks_read : (name : Text) (names : Names) → BlocksAreRead name names
unfolding clap_on_literals
blocks_read name names plain = (
  ap (λ k. or_else k []) (files_fault (leaf (codes "blocks")) blocks_files names plain []),
  files_asked (codes "blocks") (leaf (codes "blocks")) blocks_files names plain [],
)

pub audit_read : (name : Text) (names : Names) → AuditIsRead name names
unfolding clap_on_literals
audit_read name names plain = (
  ap (λ k. or_else k []) (files_fault (leaf (codes "audit")) audit_files names plain []),
  files_asked (codes "audit") (leaf (codes "audit")) audit_files names plain [],
)

pub block_audit_read : (name : Text) (names : Names) → BlockAuditIsRead name names
unfolding clap_on_literals
block_audit_read name names plain = (
  ap (λ k. or_else k []) (files_fault (leaf (codes "audit-blocks")) audit_blocks_files names plain []),
  files_asked (codes "audit-blocks") (leaf (codes "audit-blocks")) audit_blocks_files names plain [],
)

-- `--engine split` behind the files
abbrev for_split : List Text
for_split = codes "--engine" ∷ codes "split" ∷ []

pub split_read : (name : Text) (names : Names) → SplitIsRead name names
unfolding clap_on_literals
split_read name names plain = (
  ap (λ k. or_else k []) (files_fault (leaf (codes "run")) run_files names plain for_split),
  files_asked (codes "run") (leaf (codes "run")) run_files names plain for_split,
)

pub split_blocks_read : (name : Text) (names : Names) → SplitBlocksAreRead name names
unfolding clap_on_literals
split_blocks_read name names plain = (
  ap (λ k. or_else k []) (files_fault (leaf (codes "blocks")) blocks_files names plain for_split),
  files_asked (codes "blocks") (leaf (codes "blocks")) blocks_files names plain for_split,
)

-- what is held behind `--journal`
abbrev held_for_journal : Shape → Held → Held
held_for_journal s held = record (settled s.rules held) { pending = Some (codes "journal", []) }

-- `--journal` waits for a word, and is no fault
abbrev TakesJournal : Shape → Held → Type 0
TakesJournal s held =
    (walked s.rules [] (between held idle 5) (codes "--journal") ≡ between (held_for_journal s held) (option (codes "journal")) 5)
    × (turn_fault s [] (between held idle 5) (codes "--journal") ≡ [])

abbrev behind_journal : Shape → Held → Text → Held × Step
behind_journal s held file = plain_word s.rules (option (codes "journal")) file (held_for_journal s held)

-- the walk over `--journal FILE`
abbrev journal_walk : Shape → Held → Text → Walk
journal_walk s held file =
    after_step s.rules file (between (held_for_journal s held) (option (codes "journal")) 5) (behind_journal s held file).0 (behind_journal s held file).1

journal_walked : (s : Shape) (held : Held) → TakesJournal s held → (file : Text) → IsPlain file
    → fold (walked s.rules []) (between held idle 5) (codes "--journal" ∷ file ∷ []) ≡ journal_walk s held file
journal_walked s held takes file plain =
    ap (λ w. walked s.rules [] w file) takes.0 ∙ plain_walked s.rules (held_for_journal s held) (option (codes "journal")) 5 file plain

abbrev journal_faults : Shape → Held → Text → Kinds
journal_faults s held file = or_else (step_fault s 5 (behind_journal s held file).0 (behind_journal s held file).1) []

journal_fault : (s : Shape) (held : Held) → TakesJournal s held → (file : Text) → IsPlain file
    → walk_fault s [] (between held idle 5) (codes "--journal" ∷ file ∷ []) ≡ journal_faults s held file
unfolding walk_fault
journal_fault s held takes file plain =
    ap₂ (λ (k : Kinds) (w : Walk). or_else k (or_else (turn_fault s [] w file) [])) takes.1 takes.0
    ∙ ap (λ k. or_else k []) (plain_turn s (held_for_journal s held) (option (codes "journal")) 5 file plain)

pub journal_read : (name : Text) (names : Names) (file : Text) → JournalIsRead name names file
unfolding clap_on_literals
journal_read name names file plain file_plain =
    let s = leaf (codes "run") in
    let held = held_files s names in
    let takes : TakesJournal s held = (refl, refl) in
    let behind = codes "--journal" ∷ file ∷ [] in (
      ap (λ k. or_else k []) (files_fault s run_files names plain behind
          ∙ ap₂ (λ (w : Walk) (k : Kinds). level_by s w.held (fault_files s names k)) (journal_walked s held takes file file_plain) (journal_fault s held takes file file_plain)),
      files_asked (codes "run") s run_files names plain behind
          ∙ ap (λ (w : Walk). asked (codes "run", finished s.rules w.held)) (journal_walked s held takes file file_plain),
    )

pub journal_audit_read : (name : Text) (names : Names) (file : Text) → JournalAuditIsRead name names file
unfolding clap_on_literals
journal_audit_read name names file plain file_plain =
    let s = leaf (codes "audit") in
    let held = held_files s names in
    let takes : TakesJournal s held = (refl, refl) in
    let behind = codes "--journal" ∷ file ∷ [] in (
      ap (λ k. or_else k []) (files_fault s audit_files names plain behind
          ∙ ap₂ (λ (w : Walk) (k : Kinds). level_by s w.held (fault_files s names k)) (journal_walked s held takes file file_plain) (journal_fault s held takes file file_plain)),
      files_asked (codes "audit") s audit_files names plain behind
          ∙ ap (λ (w : Walk). asked (codes "audit", finished s.rules w.held)) (journal_walked s held takes file file_plain),
    )

-- `--engine split` behind the files is held, is no fault, and waits for nothing
abbrev held_split : Shape → Names → Held
held_split s names = (walk_behind s names for_split).held

abbrev TakesSplit : Shape → Names → Type 0
TakesSplit s names =
    (walk_behind s names for_split ≡ between (held_split s names) idle 5)
    × ((behind : List Text) → walk_fault s [] (between (held_files s names) idle 5) (codes "--engine" ∷ codes "split" ∷ behind)
    ≡ walk_fault s [] (between (held_split s names) idle 5) behind)

split_journal_walked : (s : Shape) (names : Names) → TakesSplit s names → TakesJournal s (held_split s names) → (file : Text) → IsPlain file
    → walk_behind s names (codes "--engine" ∷ codes "split" ∷ codes "--journal" ∷ file ∷ []) ≡ journal_walk s (held_split s names) file
split_journal_walked s names split takes file plain =
    ap (λ w. fold (walked s.rules []) w (codes "--journal" ∷ file ∷ [])) split.0 ∙ journal_walked s (held_split s names) takes file plain

split_journal_fault : (s : Shape) (names : Names) → TakesSplit s names → TakesJournal s (held_split s names) → (file : Text) → IsPlain file
    → walk_fault s [] (between (held_files s names) idle 5) (codes "--engine" ∷ codes "split" ∷ codes "--journal" ∷ file ∷ []) ≡ journal_faults s (held_split s names) file
split_journal_fault s names split takes file plain =
    split.1 (codes "--journal" ∷ file ∷ []) ∙ journal_fault s (held_split s names) takes file plain

pub split_journal_none : (name : Text) (names : Names) (file : Text) → SplitJournalIsNone name names file
unfolding clap_on_literals
split_journal_none name names file plain file_plain =
    let s = leaf (codes "run") in
    let held = held_split s names in
    let split : TakesSplit s names = (refl, λ behind. refl) in
    let takes : TakesJournal s held = (refl, refl) in
    let behind = codes "--engine" ∷ codes "split" ∷ codes "--journal" ∷ file ∷ [] in
    inr (
      ap (λ k. or_else k []) (files_fault s run_files names plain behind
          ∙ ap₂ (λ (w : Walk) (k : Kinds). level_by s w.held (fault_files s names k))
          (split_journal_walked s names split takes file file_plain) (split_journal_fault s names split takes file file_plain)),
      files_asked (codes "run") s run_files names plain behind
          ∙ ap (λ (w : Walk). asked (codes "run", finished s.rules w.held)) (split_journal_walked s names split takes file file_plain),
    )
