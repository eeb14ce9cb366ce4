-- The tokens of long rows, part by part, as they are written.
use Rattle.std.proofs.Common.{◌≡◌, List, [], ◌∷◌, ◌++◌, Option, Some, None, refl, subst, ap, ◌∙◌}
use Rattle.std.specs.Prelude.{codes}
use Rattle.issuer_words.specs.Words.{Approval, CardRow, Identity, Pan, fixed_digits}
use Rattle.iso_shown.specs.Shown.{shown_account, shown_card}
use Rattle.iso_shown.specs.declared.card_numbers.CardNumbers.{CardNumbers}
use Rattle.issuer_rows.specs.declared.row_key.RowKey.TheVariants as row
use Rattle.issuer_rows.specs.declared.row_val.RowVal.TheVariants as val
use Rattle.json.specs.Token.{Token, begin_object, end_object, key}
use Rattle.book_laws.specs.Text.{Adds, JsonText, account_id_data, approval_data, identity_data, optional_data, original_data, tokens_of}
use Rattle.book_laws.specs.Words.{kind_word, paid_word, status_word}
use Rattle.book_laws.specs.declared.original_entry.OriginalEntry.{OriginalEntry}
use Rattle.reason_json.specs.RowTokens.{answer_tokens, limit_tokens, number_tokens, payment_tokens, text_tokens}
use Rattle.reason_json.specs.Rows.{entry_shown, row_data, shown_value}

-- the same tokens are written, said otherwise
pub written_as : {a b : JsonText} {xs ys : List Token} → xs ≡ ys → Adds a b xs → Adds a b ys
written_as {a} {b} same adds = subst (λ (ts : List Token). Adds a b ts) same adds

-- a card, part by part
pub card_tokens : (cards : CardNumbers) (pan : Pan) (card : CardRow)
    → (begin_object ∷ text_tokens (codes "row") (codes "card"))
    ++ (text_tokens (codes "account") (shown_account cards card.accounts.first.0)
    ++ (limit_tokens card
    ++ (text_tokens (codes "pan") (shown_card cards pan.0)
    ++ ((key (codes "second") ∷ tokens_of (shown_value cards (codes "second") (optional_data account_id_data card.accounts.second)))
    ++ (text_tokens (codes "status") (status_word card.status) ++ end_object ∷ [])))))
    ≡ tokens_of (row_data cards (row.Card pan) (val.Card card))
card_tokens cards pan card = refl

-- an approval code, and the identity of a reversal, are shown as they are
approval_shown : (cards : CardNumbers) (code : Option Approval)
    → tokens_of (optional_data approval_data code) ≡ tokens_of (shown_value cards (codes "approval") (optional_data approval_data code))
approval_shown cards None = refl
approval_shown cards (Some code) = refl

reversal_shown : (cards : CardNumbers) (identity : Option Identity)
    → tokens_of (optional_data identity_data identity) ≡ tokens_of (shown_value cards (codes "reversed") (optional_data identity_data identity))
reversal_shown cards None = refl
reversal_shown cards (Some identity) = refl

-- an original, with these tokens for its approval code and for its reversal
abbrev original_with : CardNumbers → Identity → OriginalEntry → List Token → List Token → List Token
original_with cards identity e approval reversed =
    (begin_object ∷ text_tokens (codes "row") (codes "original"))
    ++ ((key (codes "account") ∷ tokens_of (shown_value cards (codes "account") (optional_data account_id_data e.account)))
    ++ (text_tokens (codes "acquirer") identity.acquirer.0
    ++ ((text_tokens (codes "action") (fixed_digits 3 e.action) ++ (number_tokens (codes "amount") e.amount ++ key (codes "approval") ∷ approval))
    ++ ((text_tokens (codes "kind") (kind_word e.kind)
    ++ (text_tokens (codes "paid") (paid_word e.paid)
    ++ (text_tokens (codes "pan") (shown_card cards e.pan.0)
    ++ (text_tokens (codes "processing") e.processing.0 ++ key (codes "reversed") ∷ reversed))))
    ++ (text_tokens (codes "stamp") identity.stamp
    ++ (number_tokens (codes "stay") e.stay
    ++ (text_tokens (codes "trace") identity.stan.0 ++ end_object ∷ [])))))))

-- with those that it has, it is the row
original_shown : (cards : CardNumbers) (identity : Identity) (e : OriginalEntry) →
    original_with cards identity e (tokens_of (shown_value cards (codes "approval") (optional_data approval_data e.approval)))
    (tokens_of (shown_value cards (codes "reversed") (optional_data identity_data e.reversed)))
    ≡ tokens_of (entry_shown cards (row.Original identity) (original_data identity e))
original_shown cards identity e = refl

-- an original, part by part
pub original_tokens : (cards : CardNumbers) (identity : Identity) (e : OriginalEntry) →
    (begin_object ∷ text_tokens (codes "row") (codes "original"))
    ++ ((key (codes "account") ∷ tokens_of (shown_value cards (codes "account") (optional_data account_id_data e.account)))
    ++ (text_tokens (codes "acquirer") identity.acquirer.0
    ++ (answer_tokens e
    ++ (payment_tokens cards e
    ++ (text_tokens (codes "stamp") identity.stamp
    ++ (number_tokens (codes "stay") e.stay
    ++ (text_tokens (codes "trace") identity.stan.0 ++ end_object ∷ [])))))))
    ≡ tokens_of (entry_shown cards (row.Original identity) (original_data identity e))
original_tokens cards identity e =
    ap (λ (ts : List Token). original_with cards identity e ts (tokens_of (optional_data identity_data e.reversed))) (approval_shown cards e.approval)
    ∙ ap (λ (ts : List Token). original_with cards identity e (tokens_of (shown_value cards (codes "approval") (optional_data approval_data e.approval))) ts)
    (reversal_shown cards e.reversed)
    ∙ original_shown cards identity e
