-- What JSON says of an element. Amounts are numbers, in minor units; all else is text.
use Rattle.std.specs.Prelude.{◌≡◌, ℕ, List, ◌++◌, take, drop, Option, option_map}
use Rattle.iso8583.specs.Number.{fixed_digits, number_of}
use Rattle.iso_laws.specs.Elements.{original_text}
use Rattle.iso_laws.specs.declared.element.Element.{Element}
use Rattle.iso_laws.specs.declared.element.Element.TheVariants as element
use Rattle.iso_shown.specs.Masked.{masked}
use Rattle.iso_shown.specs.Shown.{shown_account, shown_card}
use Rattle.iso_shown.specs.declared.card_numbers.CardNumbers.{CardNumbers}
use Rattle.serde_json.specs.Data.{Data, string}
use Rattle.book_laws.specs.Text.{numeral}
use Rattle.message_text.specs.declared.element_value.ElementValue.{ElementValue}
use Rattle.message_text.specs.declared.element_value.ElementValue.TheVariants as value

-- what a reversal takes back, without the two digits that tell how long the acquirer is, as it is written by hand
abbrev pub without_length : List ℕ → List ℕ
without_length text = take 22 text ++ drop 24 text

-- The value of an element by its text: of an amount its number; of element 30 the first of its two amounts; of element 56 the text without
-- its inner length; of others the text, with card numbers masked unless they are asked for in full.
abbrev pub value_of : CardNumbers → Element → List ℕ → Data
value_of cards element.Pan text = string (shown_card cards text)
value_of cards element.Account text = string (shown_account cards text)
value_of cards element.Amount text = numeral (number_of text)
value_of cards element.OriginalAmount text = numeral (number_of (take 12 text))
value_of cards element.Original text = string (without_length text)
value_of cards e text = string text

-- ---- for private clauses: values as messages and replies keep them

abbrev pub value_data : ElementValue → Data
value_data (value.Masked pan) = string (masked pan.0)
value_data (value.Number n) = numeral n
value_data (value.Action action) = string (fixed_digits 3 action)
value_data (value.Original original) = string (without_length (original_text original.now))
value_data (value.Text text) = string text.now

-- it is the value of an element that has this text, or is absent
abbrev pub IsValueOf : CardNumbers → Element → Option (List ℕ) → Option ElementValue → Type 0
IsValueOf cards e text found = option_map value_data found ≡ option_map (value_of cards e) text
