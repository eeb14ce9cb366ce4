use Rattle.issuer_laws.proofs.Echoed.{each_echoed}
use Rattle.issuer_laws.proofs.repeat_laws.each_reply_repeats_its_message.Goals as goal

pub returns : goal.returns
returns c = each_echoed
