use Rattle.log_file.specs.Reads.{HasRead}
use Rattle.log_file.proofs.reading.read_log.Given as goal

abbrev pub invariant-loop : goal.invariant-loop
invariant-loop g l = record {
  known : g.R.Source.is_known l.fn.source → g.R.Source.is_known l.reader.input.source;
  may : g.R.Source.may_fail l.reader.input.source → g.R.Source.may_fail l.fn.source;
  read : g.R.Source.is_known l.fn.source → HasRead g.R.Source.remaining l.book (g.R.Source.remaining l.fn.source) l.entries.items l.reader;
}
