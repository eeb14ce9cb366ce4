-- The elements that every message and every reply has, and element 37.
use Rattle.std.specs.Prelude.{ℕ, ◌<◌, ◌^◌, List, Option, Some, None, IfSome, option_map}
use Rattle.iso8583.specs.Number.{number_of, fixed_digits}
use Rattle.iso8583.specs.declared.retrieval.Retrieval.{Retrieval}
use Rattle.iso8583.specs.declared.transaction.Transaction.{Transaction}
use Rattle.iso_laws.specs.declared.element.Element.TheVariants as element
use Rattle.iso_laws.specs.Elements.{IsText}
use Rattle.iso_laws.specs.Spelling.{Texts, text_or_none}

-- the texts of a transaction's elements
abbrev pub transaction_texts : Transaction → Texts
transaction_texts t element.Pan = Some t.pan.0
transaction_texts t element.Processing = Some t.processing.0
transaction_texts t element.Amount = Some (fixed_digits 12 t.amount)
transaction_texts t element.Transmission = Some t.transmission.0
transaction_texts t element.Stan = Some t.stan.0
transaction_texts t element.Stamp = Some t.stamp
transaction_texts t element.Acquirer = Some t.acquirer.0
transaction_texts t element.Retrieval = option_map (λ r. r.0) t.retrieval
transaction_texts t element.Terminal = Some t.terminal.0
transaction_texts t element.Currency = Some t.currency.0
transaction_texts t _ = None

-- ---- and a transaction from them

abbrev pub retrieval_from : Option (List ℕ) → Option Retrieval
retrieval_from text = option_map (λ t. record { 0 = t }) text

abbrev pub transaction_from : Texts → Transaction
transaction_from text = record {
  pan = record { 0 = text_or_none (text element.Pan) };
  processing = record { 0 = text_or_none (text element.Processing) };
  amount = number_of (text_or_none (text element.Amount));
  transmission = record { 0 = text_or_none (text element.Transmission) };
  stan = record { 0 = text_or_none (text element.Stan) };
  stamp = text_or_none (text element.Stamp);
  acquirer = record { 0 = text_or_none (text element.Acquirer) };
  retrieval = retrieval_from (text element.Retrieval);
  terminal = record { 0 = text_or_none (text element.Terminal) };
  currency = record { 0 = text_or_none (text element.Currency) };
}

-- every transaction that there is: the ranges of the values' types
pub record IsTransaction (t : Transaction) : Type 0 where
  pub pan : IsText element.Pan t.pan.0
  pub processing : IsText element.Processing t.processing.0
  pub amount : t.amount < 10 ^ 12
  pub transmission : IsText element.Transmission t.transmission.0
  pub stan : IsText element.Stan t.stan.0
  pub stamp : IsText element.Stamp t.stamp
  pub acquirer : IsText element.Acquirer t.acquirer.0
  pub retrieval : IfSome t.retrieval (λ r. IsText element.Retrieval r.0)
  pub terminal : IsText element.Terminal t.terminal.0
  pub currency : IsText element.Currency t.currency.0
