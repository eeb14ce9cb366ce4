use Rattle.std.proofs.Common.{refl}
use Rattle.message_text.proofs.GivenWords.{names_none, unknown_name}
use Rattle.message_text.proofs.words.given_by.Goals as goal

pub returns-in_default-clause-fault : goal.returns-in_default-clause-fault
returns-in_default-clause-fault c = (refl, names_none c.args.word.now c.in_default.ensures.none)

pub returns-in_default-element_named-clause-fault : goal.returns-in_default-element_named-clause-fault
returns-in_default-element_named-clause-fault c =
    (refl, unknown_name c.args.word.now c.in-Some.name.now c.in-Some.value.now c.in-Some.ensures.found c.in_default-element_named.ensures.none)
