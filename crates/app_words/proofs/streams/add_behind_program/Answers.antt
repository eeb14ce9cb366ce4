use Rattle.std.proofs.Common.{rules, map, string_bytes}
use Rattle.std.proofs.lemmas.Result.{on_ok_weaker}
use Rattle.app_words.proofs.Names.{command_streamed, no_command}
use Rattle.app_words.proofs.streams.add_behind_program.Goals as goal

pub returns-in-None : goal.returns-in-None
returns-in-None c = no_command c.args.words.now (map string_bytes c.args.to.now.items) (search rules)

pub returns-in_ok-add-in-Some : goal.returns-in_ok-add-in-Some
returns-in_ok-add-in-Some c =
    on_ok_weaker c.add_streamed.result (λ behind. command_streamed c.args.words.now c.in-Some.rest.now c.in-Some.command.now (map string_bytes c.args.to.now.items)
    (map string_bytes c.add.new.words.items) (map string_bytes c.add_streamed.new.to.items) (search rules) (search rules) behind) (search rules)
