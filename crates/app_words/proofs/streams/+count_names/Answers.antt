use Rattle.std.proofs.Common.{rules}
use Rattle.app_words.specs.Streams.{names}
use Rattle.app_words.proofs.Names.{no_words}
use Rattle.app_words.proofs.streams.+count_names.Goals as goal

pub returns-in-None-clause-count : goal.returns-in-None-clause-count
returns-in-None-clause-count t c = no_words c.args.is_value c.args.words.now (search rules)

pub returns-then-is_value-clause-count : goal.returns-then-is_value-clause-count
unfolding names
returns-then-is_value-clause-count t c = search rules

pub returns-then-is_option-clause-count : goal.returns-then-is_option-clause-count
unfolding names
returns-then-is_option-clause-count t c = search rules

pub returns-else-is_option-clause-count : goal.returns-else-is_option-clause-count
unfolding names
returns-else-is_option-clause-count t c = search rules
