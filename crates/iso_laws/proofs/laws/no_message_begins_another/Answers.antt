use Rattle.iso_laws.proofs.Messages.{messages_apart}
use Rattle.iso_laws.proofs.laws.no_message_begins_another.Goals as goal

pub returns : goal.returns
returns c = messages_apart
