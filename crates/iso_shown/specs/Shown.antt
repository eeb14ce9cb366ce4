-- What is shown of card numbers, and of accounts that may be named by one, where full numbers may be asked for.
use Rattle.std.specs.Prelude.{ℕ, Bool, ◌&&◌, nat_le, if◌then◌else◌, List, length}
use Rattle.iso8583.specs.Class.{is_digits}
use Rattle.iso_shown.specs.Masked.{masked}
use Rattle.iso_shown.specs.declared.card_numbers.CardNumbers.{CardNumbers}
use Rattle.iso_shown.specs.declared.card_numbers.CardNumbers.TheVariants.{Masked, Full}

-- a card number, masked unless it is asked for in full
abbrev pub shown_card : CardNumbers → List ℕ → List ℕ
shown_card Masked digits = masked digits
shown_card Full digits = digits

-- a text of as many digits as a card number has
abbrev pub is_like_card : List ℕ → Bool
is_like_card text = nat_le 12 (length text) && (nat_le (length text) 19 && is_digits text)

-- the name of an account, which may be a card number
abbrev pub shown_account : CardNumbers → List ℕ → List ℕ
shown_account cards name = if is_like_card name then shown_card cards name else name
