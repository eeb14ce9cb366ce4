-- What a reply repeats of its message.
use Rattle.std.specs.Prelude.{◌≡◌, ℕ, List, [], ◌∷◌}
use Rattle.issuer_words.specs.Words.{Frame, Message, ReplyBody, Verdict, reply_to_advice, reply_to_request, reply_to_reversal}

-- a reply of the type that answers the body's (1110, 1130, 1430), with the card, amount, times, trace, acquirer, terminal and currency of
-- the message, and the account that it names; of a body that is no message its fault
abbrev pub Echoes : Frame → ReplyBody → Type 0
Echoes (Frame.Good (Message.Request r)) reply = (verdict : Verdict) × (reply ≡ reply_to_request r verdict)
Echoes (Frame.Good (Message.Advice a)) reply = (action : ℕ) × (reply ≡ reply_to_advice a action)
Echoes (Frame.Good (Message.Reversal v)) reply = (action : ℕ) × (reply ≡ reply_to_reversal v action)
Echoes (Frame.Bad fault) reply = reply ≡ ReplyBody.Fault fault

-- as many replies as bodies, each of the body at its place
abbrev pub EchoEach : List Frame → List ReplyBody → Type 0
EchoEach [] [] = Unit {0}
EchoEach (frame ∷ frames) (reply ∷ replies) = Echoes frame reply × EchoEach frames replies
EchoEach [] (reply ∷ replies) = ⊥
EchoEach (frame ∷ frames) [] = ⊥
