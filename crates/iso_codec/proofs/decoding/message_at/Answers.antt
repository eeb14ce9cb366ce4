use Rattle.iso_laws.proofs.Messages.{message_read}
use Rattle.iso_codec.specs.Texts.{texts_of}
use Rattle.iso_codec.proofs.decoding.message_at.Goals as goal

pub returns-in-Ok-clause-gives : goal.returns-in-Ok-clause-gives
returns-in-Ok-clause-gives c =
    let said = message_read c.in-Ok.mti (texts_of c.in-Ok.texts) c.in-Ok.ensures.texts in
    rw (c.message_of.ensures, said.type, said.fields) c.in-Ok.ensures.gives

pub returns-in-Ok-clause-values : goal.returns-in-Ok-clause-values
returns-in-Ok-clause-values c =
    rw c.message_of.ensures (message_read c.in-Ok.mti (texts_of c.in-Ok.texts) c.in-Ok.ensures.texts).values
