use Rattle.reason_text.proofs.mark_words.MarkWordsDisplay.fmt.Goals as goal

pub returns-clause-writes : goal.returns-clause-writes
returns-clause-writes g c = rw c.new-card.ensures at c.write.ensures.writes
