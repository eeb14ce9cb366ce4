use Rattle.reason_text.proofs.kept_words.KeptWordsDisplay.fmt.Goals as goal

pub returns-clause-writes : goal.returns-clause-writes
returns-clause-writes g c = rw (c.kind.ensures, c.outcome.ensures, c.new-card.ensures, c.card.ensures.card, c.minor-amount.ensures.value, c.amount.ensures, c.as_str-processing.ensures.text, c.processing-processing.ensures, c.outcome-2.ensures) at c.write.ensures.writes
