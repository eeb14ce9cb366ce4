-- How a command line grows.
use Rattle.std.proofs.Common.{◌∙◌, ap, ap₂, Bool, ◌||◌}
use Rattle.clap.specs.Built.{AddsArg, AddsSubcommand}
use Rattle.clap.specs.Simple.{App, with_rule, with_subcommand}
use Rattle.clap.specs.Walk.{Rule}
use Rattle.clap.specs.declared.builder.arg.Arg.{Arg}
use Rattle.clap.specs.declared.builder.command.Command.{Command}
use Rattle.app_words.specs.CommandLine.{IsLine, IsWord}

-- a line with one more word
pub with_word : (old new : Command) (a : Arg) (app : App) (rule : Rule) → AddsArg old a new → IsLine app old → IsWord rule a → IsLine (with_rule app rule) new
with_word old new a app rule adds line word =
    (adds.shape word.1 ∙ ap₂ with_rule line.0 word.0, adds.globals ∙ ap₂ (λ (x : Bool) (y : Bool). x || y) line.1 word.1)

-- a line with one more subcommand
pub with_line : (old sub new : Command) (app sub_app : App) → AddsSubcommand old sub new → IsLine app old → IsLine sub_app sub → IsLine (with_subcommand app sub_app.top) new
with_line old sub new app sub_app adds line sub_line = (
  adds.shape sub_line.1 ∙ ap₂ with_subcommand line.0 (ap (λ (a : App). a.top) sub_line.0),
  adds.globals ∙ ap₂ (λ (x : Bool) (y : Bool). x || y) line.1 sub_line.1,
)
