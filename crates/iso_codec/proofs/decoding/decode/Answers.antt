use Rattle.std.proofs.Common.{arith}
use Rattle.iso_laws.specs.Types.{taken_in}
use Rattle.iso_laws.specs.Messages.{mti_of, fields_of, IsMessage}
use Rattle.iso_laws.proofs.Messages.{message_are, message_taken, same_message}
use Rattle.iso_codec.proofs.Found.{is_found, is_only, needs_no_memory}
use Rattle.iso_codec.proofs.decoding.decode.Goals as goal

pub returns-clause-found : goal.returns-clause-found
returns-clause-found c =
    is_found taken_in mti_of fields_of IsMessage message_are message_taken same_message c.args.bytes.now c.message_at.result (λ i. omega (arith, c.type_inv.bytes i)) c.message_at.ensures.gives c.message_at.ensures.values

pub returns-clause-only : goal.returns-clause-only
returns-clause-only c =
    is_only taken_in mti_of fields_of IsMessage message_are message_taken same_message c.args.bytes.now c.message_at.result c.message_at.ensures.gives c.message_at.ensures.values

pub returns-clause-no_memory : goal.returns-clause-no_memory
returns-clause-no_memory c =
    needs_no_memory taken_in mti_of fields_of IsMessage message_are message_taken same_message c.args.bytes.now c.message_at.result c.message_at.ensures.gives
