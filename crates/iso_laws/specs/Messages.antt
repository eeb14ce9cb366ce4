-- The messages that are taken in, and how each is spelled.
use Rattle.std.specs.Prelude.{◌≡◌, ℕ, ◌<◌, ◌^◌, Bool, true, false, List, ◌++◌, take, drop, Option, Some, None, IfSome, option_map, if◌then◌else◌, codes}
use Rattle.std.specs.Str.{bytes_eq}
use Rattle.iso8583.specs.Number.{number_of, fixed_digits}
use Rattle.iso8583.specs.declared.account_id.AccountId.{AccountId}
use Rattle.iso8583.specs.declared.message.Message.{Message}
use Rattle.iso8583.specs.declared.message.Message.TheVariants as message
use Rattle.iso8583.specs.declared.original_kind.OriginalKind.{OriginalKind}
use Rattle.iso8583.specs.declared.original_kind.OriginalKind.TheVariants as kind
use Rattle.iso8583.specs.declared.original_ref.OriginalRef.{OriginalRef}
use Rattle.iso8583.specs.declared.reversal_scope.ReversalScope.{ReversalScope}
use Rattle.iso8583.specs.declared.reversal_scope.ReversalScope.TheVariants.{Full, Partial}
use Rattle.iso_laws.specs.declared.element.Element.TheVariants as element
use Rattle.iso_laws.specs.declared.mti.Mti.{Mti}
use Rattle.iso_laws.specs.declared.mti.Mti.TheVariants as mti
use Rattle.iso_laws.specs.Elements.{IsText, original_text, twelve_zeros}
use Rattle.iso8583.specs.declared.transaction.Transaction.{Transaction}
use Rattle.iso_laws.specs.Spelling.{Field, Texts, text_or_none, fields, spelling}
use Rattle.iso_laws.specs.Transactions.{transaction_texts, transaction_from, IsTransaction}

-- a message's type, by its kind and whether it is a repeat
abbrev pub mti_of : Message → Mti
mti_of (message.Request m) = if m.repeat then mti.RequestRepeat else mti.Request
mti_of (message.Advice m) = if m.repeat then mti.AdviceRepeat else mti.Advice
mti_of (message.Reversal m) = if m.repeat then mti.ReversalRepeat else mti.Reversal

-- the elements that its reply repeats
abbrev pub transaction_of : Message → Transaction
transaction_of (message.Request m) = m.transaction
transaction_of (message.Advice m) = m.transaction
transaction_of (message.Reversal m) = m.transaction

-- elements 24 and 30 of a reversal
abbrev pub scope_function : ReversalScope → List ℕ
scope_function Full = codes "400"
scope_function (Partial amount) = codes "401"

-- element 30, of a partial reversal alone: the original's amount, and twelve zeros
abbrev pub scope_amount : ReversalScope → Option (List ℕ)
scope_amount Full = None
scope_amount (Partial amount) = Some (fixed_digits 12 amount ++ twelve_zeros)

-- element 102, if it is there
abbrev pub account_text : Option AccountId → Option (List ℕ)
account_text account = option_map (λ a. a.0) account

-- the texts of a message: those of its transaction, and those of elements 24, 30, 39, 56 and 102 by its type
abbrev pub message_texts : Message → Texts
message_texts (message.Request m) element.Function = Some m.function.0
message_texts (message.Request m) element.Account = account_text m.account
message_texts (message.Request m) e = transaction_texts m.transaction e
message_texts (message.Advice m) element.Function = Some m.function.0
message_texts (message.Advice m) element.Action = Some (fixed_digits 3 m.action)
message_texts (message.Advice m) element.Account = account_text m.account
message_texts (message.Advice m) e = transaction_texts m.transaction e
message_texts (message.Reversal m) element.Function = Some (scope_function m.scope)
message_texts (message.Reversal m) element.OriginalAmount = scope_amount m.scope
message_texts (message.Reversal m) element.Original = Some (original_text m.original)
message_texts (message.Reversal m) e = transaction_texts m.transaction e

-- the elements of a message, in rising number
abbrev pub fields_of : Message → List Field
fields_of m = fields (message_texts m)

-- the one spelling of a message
abbrev pub message_spelling : Message → List ℕ
message_spelling m = spelling (mti_of m) (fields_of m)

-- ---- a message from its type and its texts

abbrev pub account_from : Option (List ℕ) → Option AccountId
account_from text = option_map (λ t. record { 0 = t }) text

-- a request of 1100 and 1101, an advice of 1120 and 1121
abbrev pub type_kind : List ℕ → OriginalKind
type_kind text = if bytes_eq text (codes "1100") then kind.Request else (if bytes_eq text (codes "1101") then kind.Request else kind.Advice)

-- a repeat of 1101 and 1121
abbrev pub type_repeat : List ℕ → Bool
type_repeat text = if bytes_eq text (codes "1100") then false else (if bytes_eq text (codes "1101") then true else (if bytes_eq text (codes "1120") then false else true))

abbrev pub original_from : List ℕ → OriginalRef
original_from text = record {
  kind = type_kind (take 4 text);
  repeat = type_repeat (take 4 text);
  identity = record {
    acquirer = record { 0 = drop 24 text };
    stan = record { 0 = take 6 (drop 4 text) };
    stamp = take 12 (drop 10 text);
  };
}

-- by element 30, if it is there
abbrev pub scope_from : Option (List ℕ) → ReversalScope
scope_from None = Full
scope_from (Some text) = Partial (number_of (take 12 text))

abbrev pub request_from : Bool → Texts → Message
request_from repeat x = message.Request (record {
  repeat = repeat;
  function = record { 0 = text_or_none (x element.Function) };
  account = account_from (x element.Account);
  transaction = transaction_from x;
})

abbrev pub advice_from : Bool → Texts → Message
advice_from repeat x = message.Advice (record {
  repeat = repeat;
  function = record { 0 = text_or_none (x element.Function) };
  action = number_of (text_or_none (x element.Action));
  account = account_from (x element.Account);
  transaction = transaction_from x;
})

abbrev pub reversal_from : Bool → Texts → Message
reversal_from repeat x = message.Reversal (record {
  repeat = repeat;
  scope = scope_from (x element.OriginalAmount);
  original = original_from (text_or_none (x element.Original));
  transaction = transaction_from x;
})

-- a type that is not taken in gives any message
abbrev pub message_from : Mti → Texts → Message
message_from mti.RequestRepeat x = request_from true x
message_from mti.Advice x = advice_from false x
message_from mti.AdviceRepeat x = advice_from true x
message_from mti.Reversal x = reversal_from false x
message_from mti.ReversalRepeat x = reversal_from true x
message_from _ x = request_from false x

-- ---- their ranges

-- the original's amount has at most twelve digits
abbrev pub IsScope : ReversalScope → Type 0
IsScope Full = Unit {0}
IsScope (Partial amount) = amount < 10 ^ 12

-- trace number, date and time, and acquirer of an original are such texts
pub record IsOriginal (o : OriginalRef) : Type 0 where
  pub stan : IsText element.Stan o.identity.stan.0
  pub stamp : IsText element.Stamp o.identity.stamp
  pub acquirer : IsText element.Acquirer o.identity.acquirer.0

-- the account is such a text, if it is there
abbrev pub IsAccount : Option AccountId → Type 0
IsAccount account = IfSome account (λ a. IsText element.Account a.0)

-- every message that there is: the ranges of the values' types
abbrev pub IsMessage : Message → Type 0
IsMessage (message.Request m) = IsTransaction m.transaction × IsText element.Function m.function.0 × IsAccount m.account
IsMessage (message.Advice m) = IsTransaction m.transaction × IsText element.Function m.function.0 × (m.action < 10 ^ 3) × IsAccount m.account
IsMessage (message.Reversal m) = IsTransaction m.transaction × IsScope m.scope × IsOriginal m.original

-- the bytes are the spelling of a message
abbrev pub Spells : List ℕ → Message → Type 0
Spells bytes m = IsMessage m × (bytes ≡ message_spelling m)
