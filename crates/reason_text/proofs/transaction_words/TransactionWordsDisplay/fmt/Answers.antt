use Rattle.reason_text.proofs.transaction_words.TransactionWordsDisplay.fmt.Goals as goal

pub returns-clause-writes : goal.returns-clause-writes
returns-clause-writes g c = rw (c.new-card.ensures, c.minor-amount.ensures.value, c.as_str-currency.ensures.text, c.as_str-processing.ensures.text, c.as_str-stan.ensures, c.as_str-stamp.ensures.text, c.as_str-acquirer.ensures.text) at c.write.ensures.writes
