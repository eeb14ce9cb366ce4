use Rattle.reason_text.proofs.card_words.CardWordsDisplay.fmt.Goals as goal

pub returns-clause-writes : goal.returns-clause-writes
returns-clause-writes g c = rw (c.as_str-expiry.ensures.text, c.number-approvals.ensures.value, c.number-count.ensures.value, c.minor-amount.ensures.value) at c.write.ensures.writes
