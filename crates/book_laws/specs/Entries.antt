-- Days, budgets, marks and accounts.
use Rattle.std.specs.Prelude.{ℕ, List, [], ◌∷◌, Result, Ok, codes}
use Rattle.issuer_words.specs.Words.{RowKey, RowVal}
use Rattle.issuer_rows.specs.declared.row_key.RowKey.TheVariants as key
use Rattle.issuer_rows.specs.declared.row_val.RowVal.TheVariants as val
use Rattle.serde_json.specs.Data.{Data}
use Rattle.book_laws.specs.Fields.{with_keys, account_id_at, acquirer_at, balance_at, count_at, currency_at, day_at, identity_at, kind_at, mode_at, pan_at, prefix_at, stamp_at, stan_at}
use Rattle.book_laws.specs.Steps.{◌>>=◌}
use Rattle.book_laws.specs.declared.text_fault.TextFault.{TextFault}
use Rattle.book_laws.specs.declared.part.Part.TheVariants as part

abbrev pub day_keys : List (List ℕ)
day_keys = codes "count" ∷ codes "day" ∷ codes "pan" ∷ codes "sum" ∷ []

-- what was spent with a card on a day
unfoldable pub day_of : Data → Result (RowKey × RowVal) TextFault
day_of entry = do
  _ ← with_keys part.Days day_keys entry
  count ← count_at part.Days (codes "count") entry
  day ← day_at part.Days (codes "day") entry
  pan ← pan_at part.Days (codes "pan") entry
  sum ← balance_at part.Days (codes "sum") entry
  Ok (key.Velocity pan day, val.Velocity (record { count = count; sum = sum }))

abbrev pub budget_keys : List (List ℕ)
budget_keys = codes "cap" ∷ codes "left" ∷ codes "mode" ∷ codes "prefix" ∷ []

-- a stand-in budget
unfoldable pub budget_of : Data → Result (RowKey × RowVal) TextFault
budget_of entry = do
  _ ← with_keys part.Budgets budget_keys entry
  cap ← balance_at part.Budgets (codes "cap") entry
  left ← balance_at part.Budgets (codes "left") entry
  mode ← mode_at part.Budgets (codes "mode") entry
  prefix ← prefix_at part.Budgets (codes "prefix") entry
  Ok (key.Budget prefix, val.Budget (record { mode = mode; cap = cap; left = left }))

abbrev pub mark_keys : List (List ℕ)
mark_keys = codes "acquirer" ∷ codes "kind" ∷ codes "pan" ∷ codes "reversal" ∷ codes "stamp" ∷ codes "trace" ∷ []

-- an original whose reversal came ahead of it
unfoldable pub mark_of : Data → Result (RowKey × RowVal) TextFault
mark_of entry = do
  _ ← with_keys part.Ahead mark_keys entry
  acquirer ← acquirer_at part.Ahead (codes "acquirer") entry
  kind ← kind_at part.Ahead (codes "kind") entry
  pan ← pan_at part.Ahead (codes "pan") entry
  reversal ← identity_at part.Ahead (codes "reversal") entry
  stamp ← stamp_at part.Ahead (codes "stamp") entry
  stan ← stan_at part.Ahead (codes "trace") entry
  Ok (key.Original (record { acquirer = acquirer; stan = stan; stamp = stamp }), val.Ahead (record { card = pan; kind = kind; reversal = reversal }))

abbrev pub account_keys : List (List ℕ)
account_keys = codes "available" ∷ codes "currency" ∷ codes "id" ∷ []

-- an account
unfoldable pub account_of : Data → Result (RowKey × RowVal) TextFault
account_of entry = do
  _ ← with_keys part.Accounts account_keys entry
  available ← balance_at part.Accounts (codes "available") entry
  currency ← currency_at part.Accounts (codes "currency") entry
  id ← account_id_at part.Accounts (codes "id") entry
  Ok (key.Account id, val.Account (record { available = available; currency = currency }))
