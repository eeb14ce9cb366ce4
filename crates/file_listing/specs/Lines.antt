-- Bodies and replies as lines. A word is set off by a space, 32.
use Rattle.std.specs.Prelude.{ℕ, List, ◌∷◌, ◌++◌, Option, Some, None, codes}
use Rattle.std.specs.Fmt.{decimal}
use Rattle.iso_laws.specs.Messages.{mti_of, transaction_of}
use Rattle.iso_laws.specs.Replies.{answer_action, answer_approval, reply_mti}
use Rattle.iso_laws.specs.Types.{mti_text}
use Rattle.iso8583.specs.declared.answer.Answer.{Answer}
use Rattle.issuer_words.specs.Words.{Frame, Message, Reply, ReplyBody, fault_body}
use Rattle.issuer_rows.specs.declared.frame.Frame.TheVariants as frame
use Rattle.issuer_rows.specs.declared.reply_body.ReplyBody.TheVariants as body

-- type, amount without leading zeros, trace number
abbrev pub message_words : Message → List ℕ
message_words m = 32 ∷ (mti_text (mti_of m) ++ 32 ∷ (decimal (transaction_of m).amount ++ 32 ∷ (transaction_of m).stan.0))

-- the place in the batch, and the message's words or how its fault is answered
abbrev pub frame_line : ℕ → Frame → List ℕ
frame_line place (frame.Good m) = decimal place ++ message_words m
frame_line place (frame.Bad fault) = decimal place ++ 32 ∷ fault_body fault

-- the approval code, or a hyphen
abbrev pub word_or_hyphen : Option (List ℕ) → List ℕ
word_or_hyphen (Some code) = code
word_or_hyphen None = codes "-"

abbrev pub approval_word : Answer → List ℕ
approval_word answer = word_or_hyphen (answer_approval answer)

-- type, action, approval code, trace number
abbrev pub reply_words : Reply → List ℕ
reply_words r =
    32 ∷ (mti_text (reply_mti r) ++ 32 ∷ (answer_action r.answer ++ 32 ∷ (approval_word r.answer ++ 32 ∷ r.transaction.stan.0)))

-- the place among the replies, and the reply's words or the fault
abbrev pub reply_line : ℕ → ReplyBody → List ℕ
reply_line place (body.Reply r) = decimal place ++ reply_words r
reply_line place (body.Fault fault) = decimal place ++ 32 ∷ fault_body fault
