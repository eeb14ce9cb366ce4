use Rattle.day_totals.proofs.ReadBack.{escaped_plain, escaped_read}
use Rattle.day_totals.proofs.laws.texts_are_escaped.Goals as goal

pub returns-clause-plain : goal.returns-clause-plain
returns-clause-plain c = escaped_plain

pub returns-clause-read : goal.returns-clause-read
returns-clause-read c = escaped_read
