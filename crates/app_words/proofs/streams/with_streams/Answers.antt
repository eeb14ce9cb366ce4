use Rattle.std.proofs.Common.{rules, map, ap, string_bytes}
use Rattle.app_words.proofs.Names.{all_streamed, no_program}
use Rattle.app_words.proofs.streams.with_streams.Goals as goal

pub returns-in-None : goal.returns-in-None
returns-in-None c = no_program c.args.words.now (map string_bytes c.new-streamed.result.items) (search rules) (ap (map string_bytes) c.new-streamed.ensures.items)

pub returns-in_ok-add_behind_program-in-Some : goal.returns-in_ok-add_behind_program-in-Some
returns-in_ok-add_behind_program-in-Some c =
    all_streamed c.args.words.now c.in-Some.behind.now c.in-Some.program.now (map string_bytes c.new-streamed.result.items)
    (map string_bytes c.add.new.words.items) (map string_bytes c.add_behind_program.new.to.items)
    (search rules) (ap (map string_bytes) c.new-streamed.ensures.items) (search rules) (search rules)
