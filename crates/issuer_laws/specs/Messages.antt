-- Messages in their frames, and the action code of what they are answered.
use Rattle.std.specs.Prelude.{◌≡◌, ℕ, None}
use Rattle.std.specs.FinMap as map
use Rattle.issuer_words.specs.Words.{Advice, Frame, Identity, ReplyBody, Request, Reversal, Rows, Verdict, original_in}
use Rattle.iso8583.specs.declared.answer.Answer.{Answer}
use Rattle.iso8583.specs.declared.answer.Answer.TheVariants as answer
use Rattle.iso8583.specs.declared.message.Message.TheVariants as message
use Rattle.iso8583.specs.declared.verdict.Verdict.TheVariants as verdict
use Rattle.issuer_rows.specs.declared.frame.Frame.TheVariants.{Good}
use Rattle.issuer_rows.specs.declared.reply_body.ReplyBody.TheVariants as body
use Rattle.issuer_rows.specs.declared.row_key.RowKey.TheVariants as key

-- a body that is this request
abbrev pub request_frame : Request → Frame
request_frame r = Good (message.Request r)

-- a body that is this advice
abbrev pub advice_frame : Advice → Frame
advice_frame a = Good (message.Advice a)

-- a body that is this reversal
abbrev pub reversal_frame : Reversal → Frame
reversal_frame v = Good (message.Reversal v)

-- the action code of a verdict: 000 with an approval code
abbrev pub action_of_verdict : Verdict → ℕ
action_of_verdict (verdict.Approved code) = 0
action_of_verdict (verdict.Declined action) = action

-- the action code of an answer, element 39
abbrev pub action_of_answer : Answer → ℕ
action_of_answer (answer.Request v named) = action_of_verdict v
action_of_answer (answer.Advice action named) = action
action_of_answer (answer.Reversal action) = action

-- the reply has this action code; the answer to a body that is no message has none
abbrev pub HasAction : ℕ → ReplyBody → Type 0
HasAction action (body.Reply reply) = action_of_answer reply.answer ≡ action
HasAction action (body.Fault fault) = ⊥

-- no row stands at the identity: no request or advice of it was decided, and none of its reversals came
abbrev pub IsUnseen : Rows → Identity → Type 0
IsUnseen rows identity = original_in (map.get rows (key.Original identity)) ≡ None
