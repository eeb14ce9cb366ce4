-- The replies that are given out, and how each is spelled.
use Rattle.std.specs.Prelude.{◌≡◌, ℕ, ◌<◌, ◌^◌, List, Option, Some, None, codes}
use Rattle.iso8583.specs.Number.{number_of, fixed_digits}
use Rattle.iso8583.specs.declared.answer.Answer.{Answer}
use Rattle.iso8583.specs.declared.answer.Answer.TheVariants as answer
use Rattle.iso8583.specs.declared.reply.Reply.{Reply}
use Rattle.iso8583.specs.declared.verdict.Verdict.{Verdict}
use Rattle.iso8583.specs.declared.verdict.Verdict.TheVariants.{Approved, Declined}
use Rattle.iso_laws.specs.declared.element.Element.TheVariants as element
use Rattle.iso_laws.specs.declared.mti.Mti.{Mti}
use Rattle.iso_laws.specs.declared.mti.Mti.TheVariants as mti
use Rattle.iso_laws.specs.Elements.{IsText}
use Rattle.iso_laws.specs.Messages.{account_text, account_from, IsAccount}
use Rattle.iso_laws.specs.Spelling.{Field, Texts, text_or_none, fields, spelling}
use Rattle.iso_laws.specs.Transactions.{transaction_texts, transaction_from, IsTransaction}

-- 1110 to a request, 1130 to an advice, 1430 to a reversal
abbrev pub answer_mti : Answer → Mti
answer_mti (answer.Request v account) = mti.RequestReply
answer_mti (answer.Advice a account) = mti.AdviceReply
answer_mti (answer.Reversal a) = mti.ReversalReply

-- an approval code exactly where a request is answered 000
abbrev pub verdict_approval : Verdict → Option (List ℕ)
verdict_approval (Approved code) = Some code.0
verdict_approval (Declined code) = None

-- element 39: 000 where the request is approved, else another action
abbrev pub verdict_action : Verdict → List ℕ
verdict_action (Approved code) = codes "000"
verdict_action (Declined code) = fixed_digits 3 code

-- elements 38 and 39
abbrev pub answer_approval : Answer → Option (List ℕ)
answer_approval (answer.Request v account) = verdict_approval v
answer_approval (answer.Advice a account) = None
answer_approval (answer.Reversal a) = None

-- element 39 of a reply of each type
abbrev pub answer_action : Answer → List ℕ
answer_action (answer.Request v account) = verdict_action v
answer_action (answer.Advice a account) = fixed_digits 3 a
answer_action (answer.Reversal a) = fixed_digits 3 a

-- element 102, which a reply to a request or an advice may repeat
abbrev pub answer_account : Answer → Option (List ℕ)
answer_account (answer.Request v account) = account_text account
answer_account (answer.Advice a account) = account_text account
answer_account (answer.Reversal a) = None

-- a reply's type
abbrev pub reply_mti : Reply → Mti
reply_mti r = answer_mti r.answer

-- the texts of a reply: those of its transaction, and those of elements 38, 39 and 102
abbrev pub reply_texts : Reply → Texts
reply_texts r element.Approval = answer_approval r.answer
reply_texts r element.Action = Some (answer_action r.answer)
reply_texts r element.Account = answer_account r.answer
reply_texts r e = transaction_texts r.transaction e

-- the elements of a reply, in rising number
abbrev pub reply_fields : Reply → List Field
reply_fields r = fields (reply_texts r)

-- the one spelling of a reply
abbrev pub reply_spelling : Reply → List ℕ
reply_spelling r = spelling (reply_mti r) (reply_fields r)

-- ---- a reply from its type and its texts

-- by element 38, if it is there, else by element 39
abbrev pub verdict_from : Option (List ℕ) → Option (List ℕ) → Verdict
verdict_from (Some code) action = Approved (record { 0 = code })
verdict_from None action = Declined (number_of (text_or_none action))

-- a type that is not given out gives any answer
abbrev pub answer_from : Mti → Texts → Answer
answer_from mti.RequestReply x = answer.Request (verdict_from (x element.Approval) (x element.Action)) (account_from (x element.Account))
answer_from mti.AdviceReply x = answer.Advice (number_of (text_or_none (x element.Action))) (account_from (x element.Account))
answer_from _ x = answer.Reversal (number_of (text_or_none (x element.Action)))

abbrev pub reply_from : Mti → Texts → Reply
reply_from t x = record { transaction = transaction_from x; answer = answer_from t x }

-- ---- their ranges

-- an approval has a code of its kind, a decline an action that is not 000
abbrev pub IsVerdict : Verdict → Type 0
IsVerdict (Approved code) = IsText element.Approval code.0
IsVerdict (Declined code) = (0 < code) × (code < 10 ^ 3)

-- an action of at most three digits; to a request, a verdict in its range; and an account as it is in messages
abbrev pub IsAnswer : Answer → Type 0
IsAnswer (answer.Request v account) = IsVerdict v × IsAccount account
IsAnswer (answer.Advice a account) = (a < 10 ^ 3) × IsAccount account
IsAnswer (answer.Reversal a) = a < 10 ^ 3

-- every reply that there is: the ranges of the values' types
abbrev pub IsReply : Reply → Type 0
IsReply r = IsTransaction r.transaction × IsAnswer r.answer

-- the bytes are the spelling of a reply
abbrev pub SpellsReply : List ℕ → Reply → Type 0
SpellsReply bytes r = IsReply r × (bytes ≡ reply_spelling r)
