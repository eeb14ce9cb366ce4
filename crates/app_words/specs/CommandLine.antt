-- The command line of the program.
use Rattle.std.specs.Prelude.{◌≡◌, true, false, Some, [], ◌∷◌, codes}
use Rattle.clap.specs.Simple.{App, app_of, new_app, new_rule, on_top, with_rule, with_subcommand}
use Rattle.clap.specs.Walk.{Rule, Text, rule_of}
use Rattle.clap.specs.declared.builder.action.ArgAction.TheVariants.{Append, SetTrue}
use Rattle.clap.specs.declared.builder.arg.Arg.{Arg}
use Rattle.clap.specs.declared.builder.command.Command.{Command}
use Rattle.clap.specs.declared.builder.command.Command.TheViews.{out-Command}

-- an operand, which has to be there
abbrev pub operand : Text → Rule
operand id = record (new_rule id) { required = true }

-- operands of this name, at least one
abbrev pub operands : Text → Rule
operands id = record (operand id) { action = Some Append }

-- `--NAME VALUE`
abbrev pub setting : Text → Rule
setting name = record (new_rule name) { long = Some name; value_names = 1 }

-- `--NAME VALUE`, with this value where it isn't there
abbrev pub setting_or : Text → Text → Rule
setting_or name value = record (setting name) { defaults = value ∷ [] }

-- `--NAME`, without a value
abbrev pub flag : Text → Rule
flag name = record (new_rule name) { long = Some name; action = Some SetTrue }

-- `one FRAME`
abbrev pub one_line : App
one_line = with_rule (new_app (codes "one")) (operand (codes "FRAME"))

-- `NAME BOOK INPUT REPLIES NEWBOOK`
abbrev pub files_line : Text → Text → App
files_line name input =
    with_rule (with_rule (with_rule (with_rule (new_app name) (operand (codes "BOOK"))) (operand input)) (operand (codes "REPLIES"))) (operand (codes "NEWBOOK"))

-- a line with `[--workers N] [--engine ENGINE]` behind it, 4 workers where they aren't there
abbrev pub with_engine : App → App
with_engine line = with_rule (with_rule line (setting_or (codes "workers") (codes "4"))) (setting (codes "engine"))

-- a line with `[--strict]` behind it
abbrev pub with_strict : App → App
with_strict line = with_rule line (flag (codes "strict"))

-- `run BOOK BATCH REPLIES NEWBOOK [--workers N] [--engine ENGINE] [--journal FILE] [--strict]`
abbrev pub run_line : App
run_line = with_strict (with_rule (with_engine (files_line (codes "run") (codes "BATCH"))) (setting (codes "journal")))

-- `serial BOOK BATCH REPLIES NEWBOOK [--strict]`
abbrev pub serial_line : App
serial_line = with_strict (files_line (codes "serial") (codes "BATCH"))

-- `blocks BOOK FILE REPLIES NEWBOOK [--workers N] [--engine ENGINE] [--strict]`
abbrev pub blocks_line : App
blocks_line = with_strict (with_engine (files_line (codes "blocks") (codes "FILE")))

-- `audit BOOK BATCH REPLIES NEWBOOK [--journal FILE]`
abbrev pub audit_line : App
audit_line = with_rule (files_line (codes "audit") (codes "BATCH")) (setting (codes "journal"))

-- `audit-blocks BOOK FILE REPLIES NEWBOOK`
abbrev pub audit_blocks_line : App
audit_blocks_line = files_line (codes "audit-blocks") (codes "FILE")

-- `show FILE`
abbrev pub show_line : App
show_line = with_rule (new_app (codes "show")) (operand (codes "FILE"))

-- `pack TEXT.. BATCH [--blocks]`: all words behind the first text are operands of one name, since the last one alone may take several
abbrev pub pack_line : App
pack_line =
    with_rule (with_rule (with_rule (new_app (codes "pack")) (operand (codes "TEXT"))) (operands (codes "BATCH"))) (flag (codes "blocks"))

-- the program's own line: it has a version, and one of the subcommands has to be there
abbrev pub program_line : App
program_line = on_top (λ s. record s { has_version = true; subcommand_required = true; arg_required_else_help = true }) (new_app (codes "switch"))

-- the command line
abbrev pub command_line : App
command_line =
    let deciding = with_subcommand (with_subcommand (with_subcommand (with_subcommand program_line one_line.top) run_line.top) serial_line.top) blocks_line.top in
    with_subcommand (with_subcommand (with_subcommand (with_subcommand deciding audit_line.top) audit_blocks_line.top) show_line.top) pack_line.top

-- the word has this rule, in its own subcommand alone
abbrev pub IsWord : Rule → Arg → Type 0
IsWord rule arg = (rule_of arg ≡ rule) × (arg.global ≡ false)

-- the subcommand has these words, and none that is another's too
abbrev pub IsLine : App → Command → Type 0
IsLine app command = (app_of command ≡ app) × ((out-Command command).has_globals ≡ false)
