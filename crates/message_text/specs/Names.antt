-- The words by which elements are named.
use Rattle.std.specs.Prelude.{ℕ, List, [], ◌∷◌, Option, Some, None, ◌==◌, if◌then◌else◌, codes}
use Rattle.std.specs.Str.{bytes_eq}
use Rattle.iso_laws.specs.Elements.{element_number, elements}
use Rattle.iso_laws.specs.declared.element.Element.{Element}
use Rattle.iso_laws.specs.declared.element.Element.TheVariants.{Pan, Processing, Amount, Transmission, Stan, Stamp, Function, OriginalAmount, Acquirer, Retrieval, Approval, Action, Terminal, Currency, Original, Account}

abbrev pub name_of : Element → List ℕ
name_of Pan = codes "pan"
name_of Processing = codes "processing"
name_of Amount = codes "amount"
name_of Transmission = codes "transmission"
name_of Stan = codes "trace"
name_of Stamp = codes "local-time"
name_of Function = codes "function"
name_of OriginalAmount = codes "original-amount"
name_of Acquirer = codes "acquirer"
name_of Retrieval = codes "reference"
name_of Approval = codes "approval"
name_of Action = codes "action"
name_of Terminal = codes "terminal"
name_of Currency = codes "currency"
name_of Original = codes "original"
name_of Account = codes "account"

-- the first of these elements that the word names
unfoldable pub named_among : List Element → List ℕ → Option Element
named_among [] word = None
named_among (e ∷ es) word = if bytes_eq word (name_of e) then Some e else named_among es word

-- the element that the word names
abbrev pub element_named : List ℕ → Option Element
element_named word = named_among elements word

-- the first of these elements that has this number
unfoldable pub numbered_among : List Element → ℕ → Option Element
numbered_among [] number = None
numbered_among (e ∷ es) number = if element_number e == number then Some e else numbered_among es number

-- the element of this number
abbrev pub element_numbered : ℕ → Option Element
element_numbered number = numbered_among elements number
