-- A small book to try messages on.
use Rattle.std.specs.Prelude.{ℕ, List, codes, None}
use Rattle.std.specs.FinMap as map
use Rattle.issuer_words.specs.Words.{RowKey, RowVal, Rows}
use Rattle.issuer_rows.specs.declared.card_status.CardStatus.TheVariants.{Active}
use Rattle.issuer_rows.specs.declared.row_key.RowKey.TheVariants as key
use Rattle.issuer_rows.specs.declared.row_val.RowVal.TheVariants as val

-- the row of the card with this number
abbrev pub card_key : List ℕ → RowKey
card_key number = key.Card (record { 0 = number })

-- an active card until 2028-12, with at most 3 approvals and 200.00 a day, and the account of its own number
abbrev pub card_row : List ℕ → RowVal
card_row number =
    val.Card (record {
      expiry = codes "2812";
      status = Active;
      approvals = 0;
      day_count = 3;
      day_amount = 20000;
      accounts = record { first = record { 0 = number }; second = None };
    })

-- the row of the account with the card's number
abbrev pub account_key : List ℕ → RowKey
account_key number = key.Account (record { 0 = number })

-- so much is available, in currency 978
abbrev pub account_row : ℕ → RowVal
account_row available = val.Account (record { available = available; currency = record { 0 = codes "978" } })

-- the rows with a card's and its account's written over them
abbrev pub with_card : Rows → List ℕ → ℕ → Rows
with_card rows number available =
    map.insert (map.insert rows (card_key number) (card_row number)) (account_key number) (account_row available)

-- two cards, one with 100.00 available and one with 5.00
abbrev pub sample_rows : Rows
sample_rows = with_card (with_card map.empty (codes "4111110000000005") 10000) (codes "4111110000000013") 500
