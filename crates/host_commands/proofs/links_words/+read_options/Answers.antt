use Rattle.std.proofs.Common.{rules, map, string_bytes, []}
use Rattle.host_commands.specs.Links.{options_of}
use Rattle.host_commands.proofs.LinkWords.{max_said, max_unsaid, stats_said, stats_unsaid, link_said, link_unsaid, link_refused, link_cut}
use Rattle.host_commands.proofs.links_words.+read_options.Goals as goal

pub returns-then-read_max_batch-clause-yes : goal.returns-then-read_max_batch-clause-yes
returns-then-read_max_batch-clause-yes t c ok =
    max_said (map string_bytes c.args.words.now) (map string_bytes c.in-Some-split_first.rest.now) c.as_str-option.result.now c.as_str-first.result.now (options_of c.args.said.now) (options_of c.read_max_batch.new.said) (options_of c.read_options.new.said) (search rules) (search rules)
    (c.if-read_max_batch.ensures.yes (search rules)) (c.read_options.ensures.yes ok)

pub returns-then-read_max_batch-clause-no : goal.returns-then-read_max_batch-clause-no
returns-then-read_max_batch-clause-no t c isnt after =
    max_unsaid (map string_bytes c.args.words.now) (map string_bytes c.in-Some-split_first.rest.now) c.as_str-option.result.now c.as_str-first.result.now (options_of c.args.said.now) (options_of c.read_max_batch.new.said) after (search rules) (search rules)
    (c.if-read_max_batch.ensures.yes (search rules)) (c.read_options.ensures.no isnt after)

pub returns-then-read_stats-clause-yes : goal.returns-then-read_stats-clause-yes
returns-then-read_stats-clause-yes t c ok =
    stats_said (map string_bytes c.args.words.now) (map string_bytes c.in-Some-split_first.rest.now) c.as_str-option.result.now c.as_str-first.result.now (options_of c.args.said.now) (options_of c.read_stats.new.said) (options_of c.read_options-then-read_stats.new.said) (search rules) (search rules) (search rules)
    (c.if-read_stats.ensures.yes (search rules)) (c.read_options-then-read_stats.ensures.yes ok)

pub returns-then-read_stats-clause-no : goal.returns-then-read_stats-clause-no
returns-then-read_stats-clause-no t c isnt after =
    stats_unsaid (map string_bytes c.args.words.now) (map string_bytes c.in-Some-split_first.rest.now) c.as_str-option.result.now c.as_str-first.result.now (options_of c.args.said.now) (options_of c.read_stats.new.said) after (search rules) (search rules) (search rules)
    (c.if-read_stats.ensures.yes (search rules)) (c.read_options-then-read_stats.ensures.no isnt after)

pub returns-in_default-split_first-2-clause-no : goal.returns-in_default-split_first-2-clause-no
returns-in_default-split_first-2-clause-no t c same after =
    link_cut (map string_bytes c.args.words.now) [] c.as_str-option.result.now c.as_str-first.result.now (options_of c.args.said.now) (options_of c.args.said.now) after c.in-Some-split_first.rest.now (search rules) (search rules)
    (search rules) (search rules) (search rules)

pub returns-then-not-branch-clause-no : goal.returns-then-not-branch-clause-no
returns-then-not-branch-clause-no t c same after =
    link_refused (map string_bytes c.args.words.now) (map string_bytes c.in-Some-split_first-2.rest.now) c.as_str-option.result.now c.as_str-first.result.now (options_of c.args.said.now) (options_of c.args.said.now) after c.as_str.result.now (search rules) (search rules)
    (search rules) (search rules) (c.read_link.ensures.no (search rules))

pub returns-clause-yes : goal.returns-clause-yes
returns-clause-yes t c ok =
    link_said (map string_bytes c.args.words.now) (map string_bytes c.in-Some-split_first-2.rest.now) c.as_str-option.result.now c.as_str-first.result.now (options_of c.args.said.now) (options_of c.read_link.new.said) (options_of c.read_options-2.new.said) c.as_str.result.now (search rules) (search rules) (search rules)
    (search rules) (c.read_link.ensures.yes (search rules)) (c.read_options-2.ensures.yes ok)

pub returns-clause-no : goal.returns-clause-no
returns-clause-no t c isnt after =
    link_unsaid (map string_bytes c.args.words.now) (map string_bytes c.in-Some-split_first-2.rest.now) c.as_str-option.result.now c.as_str-first.result.now (options_of c.args.said.now) (options_of c.read_link.new.said) after c.as_str.result.now (search rules) (search rules) (search rules) (search rules)
    (c.read_link.ensures.yes (search rules)) (c.read_options-2.ensures.no isnt after)
