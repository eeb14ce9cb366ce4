use Rattle.std.proofs.Common.{rules, map, string_bytes}
use Rattle.std.proofs.lemmas.Result.{on_ok_weaker}
use Rattle.app_words.proofs.Names.{name_streamed, none_streamed, option_streamed, value_streamed}
use Rattle.app_words.proofs.streams.Named.+add_streamed.Goals as goal

pub returns-in-None : goal.returns-in-None
returns-in-None t c =
    none_streamed c.args.self.now.command.now c.args.self.now.count c.args.place c.args.option.now c.args.words.now (map string_bytes c.args.to.now.items) (search rules)

pub returns-in_ok-add-in-Some : goal.returns-in_ok-add-in-Some
returns-in_ok-add-in-Some t c =
    on_ok_weaker c.add_streamed.result (λ behind. value_streamed c.args.self.now.command.now c.args.self.now.count c.args.place c.args.option.now c.args.words.now c.in-Some.rest.now
    c.in-Some.word.now (map string_bytes c.args.to.now.items) (map string_bytes c.add.new.words.items) (map string_bytes c.add_streamed.new.to.items)
    (search rules) (search rules) (search rules) behind) (search rules)

pub returns-in_ok-add-in-Some-2 : goal.returns-in_ok-add-in-Some-2
returns-in_ok-add-in-Some-2 t c =
    on_ok_weaker c.add_streamed-then-is_option.result (λ behind. option_streamed c.args.self.now.command.now c.args.self.now.count c.args.place c.args.option.now c.args.words.now c.in-Some.rest.now
    c.in-Some.word.now (map string_bytes c.args.to.now.items) (map string_bytes c.add-then-is_option.new.words.items) (map string_bytes c.add_streamed-then-is_option.new.to.items)
    (search rules) (search rules) (search rules) (search rules) behind) (search rules)

pub returns-in_ok-add-in-Some-3 : goal.returns-in_ok-add-in-Some-3
returns-in_ok-add-in-Some-3 t c =
    on_ok_weaker c.add_streamed-else-is_option.result (λ behind. name_streamed c.args.self.now.command.now c.args.self.now.count c.args.place c.args.option.now c.args.words.now c.in-Some.rest.now
    c.in-Some.word.now (map string_bytes c.args.to.now.items) (map string_bytes c.add-else-is_option.new.words.items) (map string_bytes c.add_streamed-else-is_option.new.to.items)
    (search rules) (search rules) (search rules) (search rules) behind) (search rules)
