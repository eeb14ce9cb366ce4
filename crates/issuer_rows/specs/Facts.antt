-- What the tables ask of messages and rows.
use Rattle.std.specs.Prelude.{ℕ, Bool, true, false, ◌&&◌, ◌==◌, List, take}
use Rattle.iso8583.specs.declared.currency.Currency.{Currency}
use Rattle.iso8583.specs.declared.identity.Identity.{Identity}
use Rattle.iso8583.specs.declared.original_kind.OriginalKind.{OriginalKind}
use Rattle.iso8583.specs.declared.original_kind.OriginalKind.TheVariants as kind
use Rattle.iso8583.specs.declared.pan.Pan.{Pan}
use Rattle.iso8583.specs.declared.pan_prefix.PanPrefix.{PanPrefix}
use Rattle.iso8583.specs.declared.transaction.Transaction.{Transaction}
use Rattle.issuer_rows.specs.Kept.{KeptOriginal, kind_of_outcome}
use Rattle.issuer_rows.specs.RowKey.{text_eq}
use Rattle.issuer_rows.specs.declared.mark.Mark.{Mark}

-- what names a message: acquirer, trace number, local date and time
abbrev pub identity_of : Transaction → Identity
identity_of t = record { acquirer = t.acquirer; stan = t.stan; stamp = t.stamp }

-- the day of a date and time, YYMMDD
abbrev pub day_of : List ℕ → List ℕ
day_of stamp = take 6 stamp

-- its month, YYMM
abbrev pub month_of : List ℕ → List ℕ
month_of stamp = take 4 stamp

-- the first six digits of a card number
abbrev pub prefix_of : Pan → PanPrefix
prefix_of pan = record { 0 = take 6 pan.0 }

-- the same card number
abbrev pub is_same_card : Pan → Pan → Bool
is_same_card a b = text_eq a.0 b.0

-- the same identity
abbrev pub is_same_identity : Identity → Identity → Bool
is_same_identity a b = text_eq a.acquirer.0 b.acquirer.0 && (text_eq a.stan.0 b.stan.0 && text_eq a.stamp b.stamp)

-- the same kind of original
abbrev pub is_same_kind : OriginalKind → OriginalKind → Bool
is_same_kind kind.Request kind.Request = true
is_same_kind kind.Request kind.Advice = false
is_same_kind kind.Advice kind.Request = false
is_same_kind kind.Advice kind.Advice = true

-- the same currency
abbrev pub is_same_currency : Currency → Currency → Bool
is_same_currency a b = text_eq a.0 b.0

-- the message's card and kind are those that the mark names
abbrev pub is_marked : Mark → Transaction → OriginalKind → Bool
is_marked mark t k = is_same_card mark.card t.pan && is_same_kind mark.kind k

-- what is kept is of this kind, and has the message's card, amount and processing code
abbrev pub is_of_same : KeptOriginal → Transaction → OriginalKind → Bool
is_of_same kept t k =
    is_same_kind (kind_of_outcome kept.outcome) k && (is_same_card kept.card t.pan && ((kept.amount == t.amount) && text_eq kept.processing.0 t.processing.0))
