-- The rows of a card of versions 1 and 2.
use Rattle.std.proofs.Common.{◌≡◌, [], ◌∷◌, true, Ok, refl}
use Rattle.serde_json.specs.Data.{Data}
use Rattle.issuer_words.specs.Words.{RowKey, RowVal}
use Rattle.issuer_rows.specs.declared.row_key.RowKey.TheVariants as key
use Rattle.issuer_rows.specs.declared.row_val.RowVal.TheVariants as val
use Rattle.book_laws.specs.Cards.{account_of_old_card, migrated_card, old_card_of, own_account, row_of_old_card}
use Rattle.book_laws.specs.Lists.{has_old_cards, rows_at}
use Rattle.book_laws.specs.declared.book_version.BookVersion.{BookVersion}
use Rattle.book_laws.specs.declared.old_card.OldCard.{OldCard}
use Rattle.book_laws.specs.declared.row_list.RowList.{RowList}
use Rattle.book_places.specs.Places.{IsRowOf}

old_rows : (version : BookVersion) (list : RowList) (entry : Data) (card : OldCard) → has_old_cards version list ≡ true → old_card_of entry ≡ Ok card
    → rows_at version list entry ≡ Ok (migrated_card card)
old_rows version list entry card old is = rw (old, is) refl

pub old_row : (version : BookVersion) (list : RowList) (entry : Data) (card : OldCard) (row : RowKey × RowVal) → has_old_cards version list ≡ true → old_card_of entry ≡ Ok card
    → row ≡ (key.Card card.pan, val.Card (row_of_old_card card)) → IsRowOf version list entry row
old_row version list entry card row old is same =
    rw same ((key.Account (own_account card.pan), val.Account (account_of_old_card card)) ∷ [], old_rows version list entry card old is)
