use Rattle.app_reasons.proofs.head_words.HeadWordsDisplay.fmt.Goals as goal

pub returns-in-Letters-None-clause-writes : goal.returns-in-Letters-None-clause-writes
returns-in-Letters-None-clause-writes g c = rw (c.in-Letters-None.is-0, c.in-Letters-None.is-1, ← c.letters-letters.ensures) c.write-in-Letters-None.ensures.writes
