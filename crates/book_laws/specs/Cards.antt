-- Cards: as version 3 has them, and as versions 1 and 2 had them, with their own money.
use Rattle.std.specs.Prelude.{ℕ, List, [], ◌∷◌, None, Result, Ok, codes}
use Rattle.issuer_words.specs.Words.{AccountId, AccountRow, CardRow, Pan, Writes}
use Rattle.issuer_rows.specs.declared.row_key.RowKey.TheVariants as key
use Rattle.issuer_rows.specs.declared.row_val.RowVal.TheVariants as val
use Rattle.serde_json.specs.Data.{Data}
use Rattle.book_laws.specs.Fields.{with_keys, account_id_at, optional_account_id_at, balance_at, count_at, currency_at, expiry_at, pan_at, status_at}
use Rattle.book_laws.specs.Steps.{◌>>=◌}
use Rattle.book_laws.specs.declared.text_fault.TextFault.{TextFault}
use Rattle.book_laws.specs.declared.old_card.OldCard.{OldCard}
use Rattle.book_laws.specs.declared.part.Part.TheVariants as part

abbrev pub card_keys : List (List ℕ)
card_keys =
    codes "account" ∷ codes "approvals" ∷ codes "day_amount" ∷ codes "day_count" ∷ codes "expiry" ∷ codes "pan" ∷ codes "second" ∷ codes "status" ∷ []

-- a card and its number
unfoldable pub card_of : Data → Result (Pan × CardRow) TextFault
card_of entry = do
  _ ← with_keys part.Cards card_keys entry
  account ← account_id_at part.Cards (codes "account") entry
  approvals ← count_at part.Cards (codes "approvals") entry
  day_amount ← balance_at part.Cards (codes "day_amount") entry
  day_count ← count_at part.Cards (codes "day_count") entry
  expiry ← expiry_at part.Cards (codes "expiry") entry
  pan ← pan_at part.Cards (codes "pan") entry
  second ← optional_account_id_at part.Cards (codes "second") entry
  status ← status_at part.Cards (codes "status") entry
  Ok (
    pan,
    record {
      expiry = expiry;
      status = status;
      approvals = approvals;
      day_count = day_count;
      day_amount = day_amount;
      accounts = record { first = account; second = second };
    },
  )

abbrev pub old_card_keys : List (List ℕ)
old_card_keys =
    codes "approvals" ∷ codes "available" ∷ codes "currency" ∷ codes "day_amount" ∷ codes "day_count" ∷ codes "expiry" ∷ codes "pan" ∷ codes "status" ∷ []

-- a card of versions 1 and 2
unfoldable pub old_card_of : Data → Result OldCard TextFault
old_card_of entry = do
  _ ← with_keys part.Cards old_card_keys entry
  approvals ← count_at part.Cards (codes "approvals") entry
  available ← balance_at part.Cards (codes "available") entry
  currency ← currency_at part.Cards (codes "currency") entry
  day_amount ← balance_at part.Cards (codes "day_amount") entry
  day_count ← count_at part.Cards (codes "day_count") entry
  expiry ← expiry_at part.Cards (codes "expiry") entry
  pan ← pan_at part.Cards (codes "pan") entry
  status ← status_at part.Cards (codes "status") entry
  Ok (
      record {
        pan = pan;
        available = available;
        currency = currency;
        expiry = expiry;
        status = status;
        approvals = approvals;
        day_count = day_count;
        day_amount = day_amount;
      }
      )

-- the account that is named by a card's own digits
abbrev pub own_account : Pan → AccountId
own_account pan = record { 0 = pan.0 }

-- the card without its money, which its own account has
abbrev pub row_of_old_card : OldCard → CardRow
row_of_old_card card = record {
  expiry = card.expiry;
  status = card.status;
  approvals = card.approvals;
  day_count = card.day_count;
  day_amount = card.day_amount;
  accounts = record { first = own_account card.pan; second = None };
}

-- its own account
abbrev pub account_of_old_card : OldCard → AccountRow
account_of_old_card card = record { available = card.available; currency = card.currency }

-- the card and its own account
abbrev pub migrated_card : OldCard → Writes
migrated_card card =
    (key.Card card.pan, val.Card (row_of_old_card card)) ∷ (key.Account (own_account card.pan), val.Account (account_of_old_card card)) ∷ []
