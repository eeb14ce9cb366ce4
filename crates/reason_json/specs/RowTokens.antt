-- For private clauses: parts of rows, token by token.
use Rattle.std.specs.Prelude.{ℕ, List, [], ◌∷◌, ◌++◌, codes, decimal}
use Rattle.issuer_words.specs.Words.{CardRow, fixed_digits}
use Rattle.iso_shown.specs.Shown.{shown_card}
use Rattle.iso_shown.specs.declared.card_numbers.CardNumbers.{CardNumbers}
use Rattle.json.specs.Token.{Token, key, string, number}
use Rattle.book_laws.specs.Text.{approval_data, identity_data, optional_data, tokens_of}
use Rattle.book_laws.specs.Words.{kind_word, paid_word}
use Rattle.book_laws.specs.declared.original_entry.OriginalEntry.{OriginalEntry}

-- a member that is a text, and one that is a number
abbrev pub text_tokens : List ℕ → List ℕ → List Token
text_tokens name text = key name ∷ string text ∷ []

abbrev pub number_tokens : List ℕ → ℕ → List Token
number_tokens name n = key name ∷ number (decimal n) ∷ []

-- how often, for how much and until when a card pays
abbrev pub limit_tokens : CardRow → List Token
limit_tokens card =
    number_tokens (codes "approvals") card.approvals
    ++ (number_tokens (codes "day_amount") card.day_amount
    ++ (number_tokens (codes "day_count") card.day_count ++ text_tokens (codes "expiry") card.expiry))

-- how an original was answered, and for which amount
abbrev pub answer_tokens : OriginalEntry → List Token
answer_tokens e =
    text_tokens (codes "action") (fixed_digits 3 e.action)
    ++ (number_tokens (codes "amount") e.amount ++ key (codes "approval") ∷ tokens_of (optional_data approval_data e.approval))

-- what paid an original, with which card, and by what it is reversed
abbrev pub payment_tokens : CardNumbers → OriginalEntry → List Token
payment_tokens cards e =
    text_tokens (codes "kind") (kind_word e.kind)
    ++ (text_tokens (codes "paid") (paid_word e.paid)
    ++ (text_tokens (codes "pan") (shown_card cards e.pan.0)
    ++ (text_tokens (codes "processing") e.processing.0 ++ key (codes "reversed") ∷ tokens_of (optional_data identity_data e.reversed))))
