-- Each body is decided by its rule.
use Rattle.std.proofs.Common.{refl}
use Rattle.issuer_words.specs.Words.{Frame, Message, Rows, decision}
use Rattle.issuer_laws.proofs.AdviceRules.{advice_decided}
use Rattle.issuer_laws.proofs.RequestRules.{request_decided}
use Rattle.issuer_laws.proofs.ReversalRules.{reversal_decided}
use Rattle.issuer_laws.specs.Rules.{IsDecidedBy, decided_by}

pub body_decided : (rows : Rows) (frame : Frame) → IsDecidedBy rows frame (decided_by rows frame)
unfolding decision
body_decided rows (Frame.Good (Message.Request r)) = request_decided rows r
body_decided rows (Frame.Good (Message.Advice a)) = advice_decided rows a
body_decided rows (Frame.Good (Message.Reversal v)) = reversal_decided rows v
body_decided rows (Frame.Bad fault) = (refl, refl, refl)
