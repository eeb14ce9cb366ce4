use Rattle.message_text.proofs.body.body_of_words.Goals as goal

pub returns-in-Ok-clause-made : goal.returns-in-Ok-clause-made
returns-in-Ok-clause-made c = record {
  by = record {
    mti = c.in-Some.mti;
    named = rw c.as_bytes.ensures.value at c.in-Some.ensures.found;
    givens = c.in_ok-givens.givens.items;
    given = c.in_ok-givens.ensures.given;
    spelled = rw c.deref.ensures.value at c.in_ok-body.ensures;
  };
  message = c.in-Ok.field-0;
  spells = rw c.deref-2.ensures.value at c.in-Ok.ensures.found;
}
