use Rattle.iso_laws.proofs.Replies.{replies_apart}
use Rattle.iso_laws.proofs.laws.no_reply_begins_another.Goals as goal

pub returns : goal.returns
returns c = replies_apart
