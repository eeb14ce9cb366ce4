use Rattle.stm_journal_text.proofs.Numbers.{not_decimal, number_found, number_missed}
use Rattle.stm_journal_text.proofs.fields.number_of.Goals as goal

pub returns-then-is_decimal-clause-found : goal.returns-then-is_decimal-clause-found
returns-then-is_decimal-clause-found c =
    rw c.ok.ensures.value
    (number_found c.args.text.now c.try_from.result c.number_of.result c.try_from.ensures c.number_of.ensures.value c.if-is_decimal.ensures.yes)

pub returns-then-is_decimal-clause-none : goal.returns-then-is_decimal-clause-none
returns-then-is_decimal-clause-none c =
    rw c.ok.ensures.value (number_missed c.args.text.now c.try_from.result c.number_of.result c.try_from.ensures c.number_of.ensures.value)

pub returns-else-is_decimal-clause-none : goal.returns-else-is_decimal-clause-none
returns-else-is_decimal-clause-none c = λ n h. not_decimal c.args.text.now n (c.if-is_decimal.ensures.other) h
