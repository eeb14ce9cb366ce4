use Rattle.std.proofs.Common.{◌≡◌, ◌∙◌, ap, sym, subst, map, string_bytes, List, Option, option_and_then, []}
use Rattle.clap.specs.Faults.{fault_of, is_simple_and_free}
use Rattle.clap.specs.Kinds.{HasKind}
use Rattle.clap.specs.Simple.{App, is_simple, subcommand_of, subcommand_rows_of}
use Rattle.clap.specs.Values.{kind_of}
use Rattle.clap.specs.Walk.{Text}
use Rattle.app_words.specs.Asked.{Asked, asked}
use Rattle.app_words.specs.CommandLine.{command_line}
use Rattle.app_words.specs.Arguments.{IsReadAs, asked_in}
use Rattle.app_words.proofs.ArgumentLemmas.{simple_line, free_line, read_met, read_of_kind}
use Rattle.app_words.proofs.asked.read_arguments.Goals as goal

pub returns-in-Ok : goal.returns-in-Ok
returns-in-Ok c =
    let words : List Text = map string_bytes c.args.words.now in
    let line_is = c.in_ok-command_line.ensures in
    let no_fault : fault_of command_line words ≡ [] =
    sym (ap (λ a. fault_of a words) line_is) ∙ c.in-Ok.ensures.kinds (ap is_simple_and_free line_is ∙ free_line) in
    let met : option_and_then asked (subcommand_rows_of c.in-Ok.matches) ≡ asked_in words =
    ap (option_and_then asked) ((c.in-Ok.ensures.matches (ap is_simple line_is ∙ simple_line)).1 ∙ ap (λ a. subcommand_of a words) line_is) in
    read_met words c.command_or_fault.result no_fault (subst (λ (what : Option Asked). IsReadAs what c.command_or_fault.result) met c.command_or_fault.ensures)

pub returns-in-Err : goal.returns-in-Err
returns-in-Err c =
    let words : List Text = map string_bytes c.args.words.now in
    let line_is = c.in_ok-command_line.ensures in
    let has_kind : App → Type 0 = λ a. HasKind (fault_of a words) c.in-Err.error in
    read_of_kind words (kind_of c.in-Err.error) c.request_of.result
    (subst has_kind line_is (c.in-Err.ensures.kinds (ap is_simple_and_free line_is ∙ free_line))) c.request_of.ensures
