-- A reply has the elements of its type, and no other reply has them.
use Rattle.std.proofs.Common.{◌≡◌, ℕ, ◌^◌, ◌<◌, true, false, List, ◌++◌, Option, Some, None, refl, sym, ap, ◌∙◌, arith}
use Rattle.std.specs.Prelude.{codes, IfSome, IsSome, is_some, is_ok}
use Rattle.std.specs.List.{list_all}
use Rattle.std.specs.Str.{bytes_eq}
use Rattle.std.proofs.lemmas.Bool.{and_parts}
use Rattle.std.proofs.lemmas.Slice.Eq.{bytes_eq-Decides}
use Rattle.iso8583.specs.Number.{number_of, fixed_digits}
use Rattle.iso8583.proofs.NumberLaws.{number_of-fixed_digits, fixed_digits-number_of}
use Rattle.iso8583.specs.declared.answer.Answer.{Answer}
use Rattle.iso8583.specs.declared.answer.Answer.TheVariants as answer
use Rattle.iso8583.specs.declared.reply.Reply.{Reply}
use Rattle.iso8583.specs.declared.transaction.Transaction.{Transaction}
use Rattle.iso8583.specs.declared.verdict.Verdict.TheVariants.{Approved, Declined}
use Rattle.iso_laws.specs.declared.element.Element.{Element}
use Rattle.iso_laws.specs.declared.element.Element.TheVariants as element
use Rattle.iso_laws.specs.declared.mti.Mti.{Mti}
use Rattle.iso_laws.specs.declared.mti.Mti.TheVariants as mti
use Rattle.iso_laws.specs.Elements.{elements, IsText, parts_of}
use Rattle.iso_laws.specs.Types.{given_out, is_among}
use Rattle.iso_laws.specs.Spelling.{Texts, fields}
use Rattle.iso_laws.specs.declared.rule.Rule.TheVariants.{Verdict as VerdictRule}
use Rattle.iso_laws.specs.Forms.{HasForm, AreTextsOf}
use Rattle.iso_laws.specs.Reading.{rule_of, verdict_at}
use Rattle.iso_laws.specs.Transactions.{IsTransaction}
use Rattle.iso_laws.specs.Replies.{verdict_approval, verdict_action, IsVerdict, answer_mti, reply_mti, reply_texts, reply_fields, reply_spelling, IsAnswer, IsReply, verdict_from, answer_from, reply_from}
use Rattle.iso_laws.proofs.Forms.{suits, AreKept, has_form, form_fields, each_known, same_texts, equal_texts}
use Rattle.iso_laws.proofs.Transactions.{transaction_known, transaction_again, is_transaction, transaction_text_from}
use Rattle.iso_laws.proofs.Amounts.{action_bound}
use Rattle.iso_laws.proofs.Present.{rule_ok}
use Rattle.iso_laws.proofs.Rules.{approved_action, is_declined}
use Rattle.iso_laws.proofs.Messages.{action_known, account_known, account_again, account_text_from, is_account_from, action_text_from, action_from_bound}
use Rattle.iso_laws.proofs.Whole.{AreFields, no_spelling_begins_another}

-- ---- its elements

-- an action that is not 0 is not spelled 000
pub not_approved : (code : ℕ) → 0 < code → code < 10 ^ 3 → bytes_eq (fixed_digits 3 code) (codes "000") ≡ false
not_approved code some fits =
    elim (bytes_eq (fixed_digits 3 code) (codes "000")) as (λ b. bytes_eq (fixed_digits 3 code) (codes "000") ≡ b → b ≡ false) [
      | true ↦ λ e.
          (let same : fixed_digits 3 code ≡ codes "000" = (bytes_eq-Decides (fixed_digits 3 code) (codes "000")).0 e in
          let none : number_of (codes "000") ≡ 0 = refl in
          let value : code ≡ 0 = sym (number_of-fixed_digits 3 code fits) ∙ (ap number_of same ∙ none) in
          absurd (omega arith))
      | false ↦ λ e. refl
    ] refl

abbrev reply_to : Transaction → Answer → Reply
reply_to t a = record { transaction = t; answer = a }

texts_known : (t : Transaction) (a : Answer) → IsTransaction t → IsAnswer a → (e : Element)
    → IfSome (reply_texts (reply_to t a) e) (IsText e)
texts_known t (answer.Request (Approved code) account) h k element.Approval = k.0
texts_known t (answer.Request (Approved code) account) h k element.Action = (refl, refl, refl)
texts_known t (answer.Request (Approved code) account) h k element.Account = account_known account k.1
texts_known t (answer.Request (Declined code) account) h k element.Action = action_known code
texts_known t (answer.Request (Declined code) account) h k element.Account = account_known account k.1
texts_known t (answer.Advice code account) h k element.Action = action_known code
texts_known t (answer.Advice code account) h k element.Account = account_known account k.1
texts_known t (answer.Reversal code) h k element.Action = action_known code
texts_known t a h k e = transaction_known t h e

pub reply_known : (r : Reply) → IsReply r → (e : Element) → IfSome (reply_texts r e) (IsText e)
reply_known r h e = texts_known r.transaction r.answer h.0 h.1 e

-- ---- they are those of its type

suited : (t : Transaction) (a : Answer) → list_all (suits (parts_of (answer_mti a)) (reply_texts (reply_to t a))) elements ≡ true
suited t (answer.Request v account) = refl
suited t (answer.Advice a account) = refl
suited t (answer.Reversal a) = refl

kept : (t : Transaction) (a : Answer) → IsAnswer a → AreKept (parts_of (answer_mti a)) (reply_texts (reply_to t a))
unfolding verdict_at
kept t (answer.Request (Approved code) account) h = refl
kept t (answer.Request (Declined code) account) h = rw (not_approved code h.0.0 h.0.1) refl
kept t (answer.Advice a account) h = refl
kept t (answer.Reversal a) h = refl

pub reply_are : (r : Reply) → IsReply r → AreFields (reply_mti r) (reply_fields r)
reply_are r h =
    let t = r.transaction in
    let a = r.answer in
    form_fields (reply_mti r) (reply_texts r) (has_form (parts_of (answer_mti a)) (reply_texts r) (suited t a) (kept t a h.1)) (reply_known r h)

-- ---- a reply from its type and its texts

answer_again : (t : Transaction) (a : Answer) → IsAnswer a → answer_from (answer_mti a) (reply_texts (reply_to t a)) ≡ a
answer_again t (answer.Request (Approved code) account) h = rw (account_again account) refl
answer_again t (answer.Request (Declined code) account) h = rw (number_of-fixed_digits 3 code h.0.1, account_again account) refl
answer_again t (answer.Advice code account) h = rw (number_of-fixed_digits 3 code h.0, account_again account) refl
answer_again t (answer.Reversal code) h = rw (number_of-fixed_digits 3 code h) refl

reply_again : (r : Reply) → IsReply r → reply_from (reply_mti r) (reply_texts r) ≡ r
reply_again r h = rw (transaction_again r.transaction h.0, answer_again r.transaction r.answer h.1) refl

pub same_reply : (r q : Reply) → IsReply r → IsReply q → reply_mti r ≡ reply_mti q → reply_fields r ≡ reply_fields q → r ≡ q
same_reply r q h k e f =
    let texts : reply_texts r ≡ reply_texts q = same_texts (reply_texts r) (reply_texts q) f in
    let both : reply_from (reply_mti r) (reply_texts r) ≡ reply_from (reply_mti q) (reply_texts q) = cc in
    sym (reply_again r h) ∙ (both ∙ reply_again q k)

pub replies_apart : (r q : Reply) (x y : List ℕ) → IsReply r → IsReply q → reply_spelling r ++ x ≡ reply_spelling q ++ y → (r ≡ q) × (x ≡ y)
replies_apart r q x y h k e =
    let same = no_spelling_begins_another (reply_mti r) (reply_mti q) (reply_fields r) (reply_fields q) x y (reply_are r h) (reply_are q k) e in
    (same_reply r q h k same.0 same.1, same.2)

-- ---- texts of the form of a type are those of the reply that they say

verdict_texts : (code action : Option (List ℕ)) → IsSome action → IfSome code (IsText element.Approval)
    → IfSome action (IsText element.Action) → is_ok (rule_of VerdictRule (λ _. is_some code) action) ≡ true
    → (verdict_approval (verdict_from code action) ≡ code) × (Some (verdict_action (verdict_from code action)) ≡ action) × IsVerdict (verdict_from code action)
verdict_texts code None h k l m = absurd cc
verdict_texts (Some code) (Some action) h k l m = (refl, ap Some (approved_action action (rule_ok (verdict_at true action) m)), k)
verdict_texts None (Some action) h k l m =
    let again = fixed_digits-number_of 3 action l.0 l.1 in
    (refl, ap Some again, (is_declined action l (rule_ok (verdict_at false action) m), action_bound action l.0 l.1))

-- the reply is one of the type, and has these texts
pub record SaysReply (t : Mti) (text : Texts) (r : Reply) : Type 0 where
  pub type : reply_mti r ≡ t
  pub fields : reply_fields r ≡ fields text
  pub values : IsReply r

module _ (text : Texts) (texts : (e : Element) → IfSome (text e) (IsText e)) where
  verdict_said : (form : HasForm (parts_of mti.RequestReply) text)
      → (verdict_approval (verdict_from (text element.Approval) (text element.Action)) ≡ text element.Approval) × (Some (verdict_action (verdict_from (text element.Approval) (text element.Action))) ≡ text element.Action)
      × IsVerdict (verdict_from (text element.Approval) (text element.Action))
  verdict_said form =
      verdict_texts (text element.Approval) (text element.Action) (form.required element.Action refl) (texts element.Approval) (texts element.Action) (and_parts _ true form.ruled).0

  request_texts : HasForm (parts_of mti.RequestReply) text → (e : Element) → reply_texts (reply_from mti.RequestReply text) e ≡ text e
  request_texts form element.Approval = (verdict_said form).0
  request_texts form element.Action = (verdict_said form).1
  request_texts form element.Account = account_text_from (text element.Account)
  request_texts form e = transaction_text_from mti.RequestReply text form texts e (λ h. cc)

  advice_texts : HasForm (parts_of mti.AdviceReply) text → (e : Element) → reply_texts (reply_from mti.AdviceReply text) e ≡ text e
  advice_texts form element.Action = action_text_from (text element.Action) (form.required element.Action refl) (texts element.Action)
  advice_texts form element.Account = account_text_from (text element.Account)
  advice_texts form element.Approval = sym (form.absent element.Approval refl)
  advice_texts form e = transaction_text_from mti.AdviceReply text form texts e (λ h. cc)

  reversal_texts : HasForm (parts_of mti.ReversalReply) text → (e : Element) → reply_texts (reply_from mti.ReversalReply text) e ≡ text e
  reversal_texts form element.Action = action_text_from (text element.Action) (form.required element.Action refl) (texts element.Action)
  reversal_texts form element.Account = sym (form.absent element.Account refl)
  reversal_texts form element.Approval = sym (form.absent element.Approval refl)
  reversal_texts form e = transaction_text_from mti.ReversalReply text form texts e (λ h. cc)

  reply_said : (t : Mti) → is_among given_out t ≡ true → HasForm (parts_of t) text → SaysReply t text (reply_from t text)
  reply_said mti.RequestReply h form = record {
    type = refl;
    fields = equal_texts (request_texts form);
    values = (is_transaction mti.RequestReply text form texts, ((verdict_said form).2, is_account_from (text element.Account) (texts element.Account)));
  }
  reply_said mti.AdviceReply h form = record {
    type = refl;
    fields = equal_texts (advice_texts form);
    values = (is_transaction mti.AdviceReply text form texts, (action_from_bound (text element.Action) (form.required element.Action refl) (texts element.Action), is_account_from (text element.Account) (texts element.Account)));
  }
  reply_said mti.ReversalReply h form = record {
    type = refl;
    fields = equal_texts (reversal_texts form);
    values = (is_transaction mti.ReversalReply text form texts, action_from_bound (text element.Action) (form.required element.Action refl) (texts element.Action));
  }
  reply_said mti.Request h form = absurd cc
  reply_said mti.RequestRepeat h form = absurd cc
  reply_said mti.Advice h form = absurd cc
  reply_said mti.AdviceRepeat h form = absurd cc
  reply_said mti.Reversal h form = absurd cc
  reply_said mti.ReversalRepeat h form = absurd cc

pub reply_read : (t : Mti) (text : Texts) → AreTextsOf given_out t text → SaysReply t text (reply_from t text)
reply_read t text are = reply_said text (each_known (λ e. IfSome (text e) (IsText e)) are.known) t are.among are.form

-- its type is given out
pub reply_given : (r : Reply) → is_among given_out (reply_mti r) ≡ true
reply_given r = elim r.answer as (λ a. is_among given_out (answer_mti a) ≡ true) [ answer.Request v account ↦ refl | answer.Advice a account ↦ refl | answer.Reversal a ↦ refl ]
