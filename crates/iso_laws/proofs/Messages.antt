-- A message has the elements of its type, and no other message has them.
use Rattle.std.proofs.Common.{◌≡◌, ℕ, Bool, true, false, cond, List, ◌++◌, take, Option, Some, None, refl, sym, ap, subst, ◌∙◌, arith, ◌<◌, ◌^◌}
use Rattle.std.specs.Prelude.{IfSome, IsSome, is_some, is_ok, ◌&&◌}
use Rattle.std.specs.List.{list_all}
use Rattle.std.proofs.lemmas.Bool.{and_parts}
use Rattle.std.proofs.lemmas.List.{take_at, drop_at, length-append}
use Rattle.iso8583.specs.Number.{number_of, fixed_digits}
use Rattle.iso8583.proofs.NumberLaws.{length-fixed_digits, number_of-fixed_digits, fixed_digits-number_of, is_digits-fixed_digits, is_digits-append}
use Rattle.iso8583.specs.declared.account_id.AccountId.{AccountId}
use Rattle.iso8583.specs.declared.message.Message.{Message}
use Rattle.iso8583.specs.declared.message.Message.TheVariants as message
use Rattle.iso8583.specs.declared.reversal_scope.ReversalScope.{ReversalScope}
use Rattle.iso8583.specs.declared.reversal_scope.ReversalScope.TheVariants.{Full, Partial}
use Rattle.iso_laws.specs.declared.element.Element.{Element}
use Rattle.iso_laws.specs.declared.element.Element.TheVariants as element
use Rattle.iso_laws.specs.declared.mti.Mti.{Mti}
use Rattle.iso_laws.specs.declared.mti.Mti.TheVariants as mti
use Rattle.iso_laws.specs.Elements.{elements, IsText, is_original_amount, original_text, twelve_zeros, Part, parts_of}
use Rattle.iso_laws.specs.Types.{taken_in, is_among}
use Rattle.iso_laws.specs.Spelling.{Texts, fields, text_or_none}
use Rattle.iso_laws.specs.declared.rule.Rule.TheVariants.{Scope}
use Rattle.iso_laws.specs.Forms.{HasForm, AreTextsOf}
use Rattle.iso_laws.specs.Reading.{rule_of, scope_at}
use Rattle.iso_laws.specs.Messages.{mti_of, scope_function, scope_amount, account_text, message_texts, fields_of, message_spelling, IsScope, IsAccount, IsMessage, account_from, original_from, scope_from, request_from, advice_from, reversal_from, message_from}
use Rattle.iso_laws.proofs.Forms.{suits, AreKept, has_form, form_fields, each_known, same_texts, equal_texts}
use Rattle.iso_laws.proofs.Transactions.{transaction_known, transaction_again, some_text, known_text, is_transaction, transaction_text_from}
use Rattle.iso_laws.proofs.Amounts.{amount_bound, action_bound, original_amount, original_again}
use Rattle.iso_laws.proofs.Present.{rule_ok}
use Rattle.iso_laws.proofs.Rules.{full_function, partial_function}
use Rattle.iso_laws.proofs.Originals.{original_is_text, original_again as reference_again, original_text_from, is_original_from}
use Rattle.iso_laws.proofs.Whole.{AreFields, no_spelling_begins_another}

-- ---- its elements

amount_text : (n : ℕ) → IsText element.OriginalAmount (fixed_digits 12 n ++ twelve_zeros)
unfolding is_original_amount
amount_text n =
    let len = length-fixed_digits 12 n in (
      omega (arith, length-append (fixed_digits 12 n) twelve_zeros, len),
      is_digits-append (fixed_digits 12 n) twelve_zeros (is_digits-fixed_digits 12 n) refl,
      rw (drop_at (fixed_digits 12 n) twelve_zeros 12 len) refl,
    )

scope_known : (s : ReversalScope) → IfSome (scope_amount s) (IsText element.OriginalAmount)
scope_known Full = tt
scope_known (Partial n) = amount_text n

function_known : (s : ReversalScope) → IsText element.Function (scope_function s)
function_known Full = (refl, refl, refl)
function_known (Partial n) = (refl, refl, refl)

pub action_known : (n : ℕ) → IsText element.Action (fixed_digits 3 n)
action_known n = (length-fixed_digits 3 n, is_digits-fixed_digits 3 n, refl)

pub account_known : (account : Option AccountId) → IsAccount account → IfSome (account_text account) (IsText element.Account)
account_known None h = tt
account_known (Some a) h = h

message_known : (m : Message) → IsMessage m → (e : Element) → IfSome (message_texts m e) (IsText e)
message_known (message.Request m) h element.Function = h.1
message_known (message.Request m) h element.Account = account_known m.account h.2
message_known (message.Request m) h e = transaction_known m.transaction h.0 e
message_known (message.Advice m) h element.Function = h.1
message_known (message.Advice m) h element.Action = action_known m.action
message_known (message.Advice m) h element.Account = account_known m.account h.3
message_known (message.Advice m) h e = transaction_known m.transaction h.0 e
message_known (message.Reversal m) h element.Function = function_known m.scope
message_known (message.Reversal m) h element.OriginalAmount = scope_known m.scope
message_known (message.Reversal m) h element.Original = original_is_text m.original h.2
message_known (message.Reversal m) h e = transaction_known m.transaction h.0 e

-- ---- they are those of its type

-- the type of the message that it repeats, or its own
abbrev first_of_kind : Message → Mti
first_of_kind (message.Request m) = mti.Request
first_of_kind (message.Advice m) = mti.Advice
first_of_kind (message.Reversal m) = mti.Reversal

suited : (m : Message) → list_all (suits (parts_of (first_of_kind m)) (message_texts m)) elements ≡ true
suited (message.Request m) = refl
suited (message.Advice m) = refl
suited (message.Reversal m) = refl

scope_kept : (s : ReversalScope) → (is_ok (scope_at (is_some (scope_amount s)) (scope_function s)) && true) ≡ true
unfolding scope_at
scope_kept Full = refl
scope_kept (Partial n) = refl

kept : (m : Message) → AreKept (parts_of (first_of_kind m)) (message_texts m)
kept (message.Request m) = refl
kept (message.Advice m) = refl
kept (message.Reversal m) = scope_kept m.scope

-- a repeat has the elements of what it repeats
parts_of-repeat : (m : Message) → parts_of (mti_of m) ≡ parts_of (first_of_kind m)
parts_of-repeat (message.Request m) = elim m.repeat as (λ b. parts_of (cond b mti.RequestRepeat mti.Request) ≡ parts_of mti.Request) [ true ↦ refl | false ↦ refl ]
parts_of-repeat (message.Advice m) = elim m.repeat as (λ b. parts_of (cond b mti.AdviceRepeat mti.Advice) ≡ parts_of mti.Advice) [ true ↦ refl | false ↦ refl ]
parts_of-repeat (message.Reversal m) = elim m.repeat as (λ b. parts_of (cond b mti.ReversalRepeat mti.Reversal) ≡ parts_of mti.Reversal) [ true ↦ refl | false ↦ refl ]

message_form : (m : Message) → HasForm (parts_of (mti_of m)) (message_texts m)
message_form m =
    subst (λ (parts : List Part). HasForm parts (message_texts m)) (sym (parts_of-repeat m)) (has_form (parts_of (first_of_kind m)) (message_texts m) (suited m) (kept m))

pub message_are : (m : Message) → IsMessage m → AreFields (mti_of m) (fields_of m)
message_are m h = form_fields (mti_of m) (message_texts m) (message_form m) (message_known m h)

-- ---- a message from its type and its texts

scope_again : (s : ReversalScope) → IsScope s → scope_from (scope_amount s) ≡ s
scope_again Full h = refl
scope_again (Partial n) h = rw (take_at (fixed_digits 12 n) twelve_zeros 12 (length-fixed_digits 12 n), number_of-fixed_digits 12 n h) refl

pub account_again : (account : Option AccountId) → account_from (account_text account) ≡ account
account_again None = refl
account_again (Some a) = refl

from_request : (b : Bool) (x : Texts) → message_from (cond b mti.RequestRepeat mti.Request) x ≡ request_from b x
from_request true x = refl
from_request false x = refl

from_advice : (b : Bool) (x : Texts) → message_from (cond b mti.AdviceRepeat mti.Advice) x ≡ advice_from b x
from_advice true x = refl
from_advice false x = refl

from_reversal : (b : Bool) (x : Texts) → message_from (cond b mti.ReversalRepeat mti.Reversal) x ≡ reversal_from b x
from_reversal true x = refl
from_reversal false x = refl

message_again : (m : Message) → IsMessage m → message_from (mti_of m) (message_texts m) ≡ m
message_again (message.Request m) h =
    from_request m.repeat (message_texts (message.Request m))
    ∙ rw (transaction_again m.transaction h.0, account_again m.account) refl
message_again (message.Advice m) h =
    from_advice m.repeat (message_texts (message.Advice m))
    ∙ rw (transaction_again m.transaction h.0, number_of-fixed_digits 3 m.action h.2, account_again m.account) refl
message_again (message.Reversal m) h =
    from_reversal m.repeat (message_texts (message.Reversal m))
    ∙ rw (transaction_again m.transaction h.0, scope_again m.scope h.1, reference_again m.original h.2) refl

pub same_message : (m n : Message) → IsMessage m → IsMessage n → mti_of m ≡ mti_of n → fields_of m ≡ fields_of n → m ≡ n
same_message m n h k e f =
    let texts : message_texts m ≡ message_texts n = same_texts (message_texts m) (message_texts n) f in
    let both : message_from (mti_of m) (message_texts m) ≡ message_from (mti_of n) (message_texts n) = cc in
    sym (message_again m h) ∙ (both ∙ message_again n k)

pub messages_apart : (m n : Message) (x y : List ℕ) → IsMessage m → IsMessage n
    → message_spelling m ++ x ≡ message_spelling n ++ y → (m ≡ n) × (x ≡ y)
messages_apart m n x y h k e =
    let same = no_spelling_begins_another (mti_of m) (mti_of n) (fields_of m) (fields_of n) x y (message_are m h) (message_are n k) e in
    (same_message m n h k same.0 same.1, same.2)

-- ---- texts of the form of a type are those of the message that they say

pub account_text_from : (o : Option (List ℕ)) → account_text (account_from o) ≡ o
account_text_from None = refl
account_text_from (Some text) = refl

pub is_account_from : (o : Option (List ℕ)) → IfSome o (IsText element.Account) → IsAccount (account_from o)
is_account_from None h = tt
is_account_from (Some text) h = h

pub action_text_from : (o : Option (List ℕ)) → IsSome o → IfSome o (IsText element.Action)
    → Some (fixed_digits 3 (number_of (text_or_none o))) ≡ o
action_text_from None h k = absurd cc
action_text_from (Some text) h k = ap Some (fixed_digits-number_of 3 text k.0 k.1)

pub action_from_bound : (o : Option (List ℕ)) → IsSome o → IfSome o (IsText element.Action) → number_of (text_or_none o) < 10 ^ 3
action_from_bound None h k = absurd cc
action_from_bound (Some text) h k = action_bound text k.0 k.1

scope_function_from : (amount text : Option (List ℕ)) → IsSome text
    → is_ok (rule_of Scope (λ _. is_some amount) text) ≡ true → Some (scope_function (scope_from amount)) ≡ text
scope_function_from amount None h k = absurd cc
scope_function_from None (Some text) h k = ap Some (full_function text (rule_ok (scope_at false text) k))
scope_function_from (Some amount) (Some text) h k = ap Some (partial_function text (rule_ok (scope_at true text) k))

scope_amount_from : (o : Option (List ℕ)) → IfSome o (IsText element.OriginalAmount) → scope_amount (scope_from o) ≡ o
scope_amount_from None h = refl
scope_amount_from (Some text) h = ap Some (original_again text h)

is_scope_from : (o : Option (List ℕ)) → IfSome o (IsText element.OriginalAmount) → IsScope (scope_from o)
is_scope_from None h = tt
is_scope_from (Some text) h = (let half = original_amount text h in amount_bound (take 12 text) half.0 half.1)

original_from_text : (o : Option (List ℕ)) → IsSome o → IfSome o (IsText element.Original)
    → Some (original_text (original_from (text_or_none o))) ≡ o
original_from_text None h k = absurd cc
original_from_text (Some text) h k = ap Some (original_text_from text k)

-- the message is one of the type, and has these texts
pub record SaysMessage (t : Mti) (text : Texts) (m : Message) : Type 0 where
  pub type : mti_of m ≡ t
  pub fields : fields_of m ≡ fields text
  pub values : IsMessage m

module _ (text : Texts) (texts : (e : Element) → IfSome (text e) (IsText e)) where
  request_texts : (repeat : Bool) → HasForm (parts_of mti.Request) text → (e : Element)
      → message_texts (request_from repeat text) e ≡ text e
  request_texts repeat form element.Function = some_text (text element.Function) (form.required element.Function refl)
  request_texts repeat form element.Account = account_text_from (text element.Account)
  request_texts repeat form e = transaction_text_from mti.Request text form texts e (λ h. cc)

  advice_texts : (repeat : Bool) → HasForm (parts_of mti.Advice) text → (e : Element) → message_texts (advice_from repeat text) e ≡ text e
  advice_texts repeat form element.Function = some_text (text element.Function) (form.required element.Function refl)
  advice_texts repeat form element.Action = action_text_from (text element.Action) (form.required element.Action refl) (texts element.Action)
  advice_texts repeat form element.Account = account_text_from (text element.Account)
  advice_texts repeat form e = transaction_text_from mti.Advice text form texts e (λ h. cc)

  reversal_texts : (repeat : Bool) → HasForm (parts_of mti.Reversal) text → (e : Element)
      → message_texts (reversal_from repeat text) e ≡ text e
  reversal_texts repeat form element.Function =
      scope_function_from (text element.OriginalAmount) (text element.Function) (form.required element.Function refl) (and_parts _ true form.ruled).0
  reversal_texts repeat form element.OriginalAmount = scope_amount_from (text element.OriginalAmount) (texts element.OriginalAmount)
  reversal_texts repeat form element.Original = original_from_text (text element.Original) (form.required element.Original refl) (texts element.Original)
  reversal_texts repeat form e = transaction_text_from mti.Reversal text form texts e (λ h. cc)

  is_request : (repeat : Bool) → HasForm (parts_of mti.Request) text → IsMessage (request_from repeat text)
  is_request repeat form =
      (is_transaction mti.Request text form texts, known_text (IsText element.Function) (text element.Function) (form.required element.Function refl) (texts element.Function), is_account_from (text element.Account) (texts element.Account))

  is_advice : (repeat : Bool) → HasForm (parts_of mti.Advice) text → IsMessage (advice_from repeat text)
  is_advice repeat form = (
    is_transaction mti.Advice text form texts,
    known_text (IsText element.Function) (text element.Function) (form.required element.Function refl) (texts element.Function),
    action_from_bound (text element.Action) (form.required element.Action refl) (texts element.Action),
    is_account_from (text element.Account) (texts element.Account),
  )

  is_reversal : (repeat : Bool) → HasForm (parts_of mti.Reversal) text → IsMessage (reversal_from repeat text)
  is_reversal repeat form =
      let original = known_text (IsText element.Original) (text element.Original) (form.required element.Original refl) (texts element.Original) in
      (is_transaction mti.Reversal text form texts, is_scope_from (text element.OriginalAmount) (texts element.OriginalAmount), is_original_from (text_or_none (text element.Original)) original)

  message_said : (t : Mti) → is_among taken_in t ≡ true → HasForm (parts_of t) text → SaysMessage t text (message_from t text)
  message_said mti.Request h form = record { type = refl; fields = equal_texts (request_texts false form); values = is_request false form }
  message_said mti.RequestRepeat h form = record { type = refl; fields = equal_texts (request_texts true form); values = is_request true form }
  message_said mti.Advice h form = record { type = refl; fields = equal_texts (advice_texts false form); values = is_advice false form }
  message_said mti.AdviceRepeat h form = record { type = refl; fields = equal_texts (advice_texts true form); values = is_advice true form }
  message_said mti.Reversal h form = record { type = refl; fields = equal_texts (reversal_texts false form); values = is_reversal false form }
  message_said mti.ReversalRepeat h form = record { type = refl; fields = equal_texts (reversal_texts true form); values = is_reversal true form }
  message_said mti.RequestReply h form = absurd cc
  message_said mti.AdviceReply h form = absurd cc
  message_said mti.ReversalReply h form = absurd cc

pub message_read : (t : Mti) (text : Texts) → AreTextsOf taken_in t text → SaysMessage t text (message_from t text)
message_read t text are = message_said text (each_known (λ e. IfSome (text e) (IsText e)) are.known) t are.among are.form

-- its type is taken in
pub message_taken : (m : Message) → is_among taken_in (mti_of m) ≡ true
message_taken (message.Request m) = elim m.repeat as (λ b. is_among taken_in (cond b mti.RequestRepeat mti.Request) ≡ true) [ true ↦ refl | false ↦ refl ]
message_taken (message.Advice m) = elim m.repeat as (λ b. is_among taken_in (cond b mti.AdviceRepeat mti.Advice) ≡ true) [ true ↦ refl | false ↦ refl ]
message_taken (message.Reversal m) = elim m.repeat as (λ b. is_among taken_in (cond b mti.ReversalRepeat mti.Reversal) ≡ true) [ true ↦ refl | false ↦ refl ]
