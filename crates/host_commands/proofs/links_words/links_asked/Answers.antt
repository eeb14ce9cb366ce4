use Rattle.std.proofs.Common.{rules, refl}
use Rattle.host_commands.specs.Links.{options_of}
use Rattle.host_commands.proofs.LinkWords.{said_behind, behind_said}
use Rattle.host_commands.proofs.links_words.links_asked.Goals as goal

pub returns-then-not-branch-clause-none : goal.returns-then-not-branch-clause-none
returns-then-not-branch-clause-none c book log settings links asks =
    c.read_options.ensures.no (search rules) asks.said (said_behind c.args.words.now _ (options_of c.none-said.result) asks.said c.split_at.ensures.back c.none-said.ensures asks.options)

pub returns-clause-some : goal.returns-clause-some
returns-clause-some c = record {
  said = options_of c.read_options.new.said;
  command = search rules;
  book_name = search rules;
  log_name = search rules;
  options = behind_said c.args.words.now _ (options_of c.none-said.result) (options_of c.read_options.new.said) c.split_at.ensures.back c.none-said.ensures (c.read_options.ensures.yes (search rules));
  how = search rules;
  are = refl;
}
