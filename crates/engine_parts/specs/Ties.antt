-- Keys that tie messages to one part, under numbers.
use Rattle.std.specs.Prelude.{◌≡◌, ◌⊎◌, ⊤, ℕ, ◌+◌, ◌*◌, ◌%◌, ◌^◌, List, [], ◌∷◌, Option, Some, None, cond, nat_eq, slice_get, slice_index}
use Rattle.std.specs.List.{AllByRecursion}
use Rattle.std.specs.Map.{lookup}
use Rattle.iso8583.specs.Number.{number_of}
use Rattle.issuer_words.specs.Words.{Frame, Identity, Pan, PanPrefix, RowKey, Rows, key_eq}
use Rattle.issuer_laws.specs.Parts.{IsIn, funds_at, may_need}
use Rattle.engine_parts.specs.declared.key_number.KeyNumber.{KeyNumber}
use Rattle.engine_parts.specs.declared.key_number.KeyNumber.TheVariants.{Known, New}
use Rattle.engine_parts.specs.declared.link.Link.{Link}
use Rattle.engine_parts.specs.declared.ties.Ties.{Ties}

-- The mark of an identity: its time and its trace number as one number, with its acquirer added, which is spread over 64 bits. Identities of
-- one mark are taken for one.
abbrev pub mark_of : Identity → ℕ
mark_of identity =
    (number_of identity.acquirer.0 * 11400714819323198485 % 2 ^ 64 + (number_of identity.stamp * 1000000 + number_of identity.stan.0)) % 2 ^ 64

-- keys of cards, accounts and budgets that have numbers
abbrev pub Keys : Type 0
Keys = List (RowKey × ℕ)

abbrev pub number_among : Keys → RowKey → Option ℕ
number_among keys key = lookup (key_eq key) keys

-- marks of identities, each with the number of the card whose message had it first
abbrev pub Firsts : Type 0
Firsts = List (ℕ × ℕ)

-- what has a number
pub record Numbers : Type 0 where
  pub keys : Keys
  pub firsts : Firsts

abbrev pub numbers_of : Ties → Numbers
numbers_of ties = record { keys = ties.keys.entries; firsts = ties.firsts.entries }

-- the number of a key, if it has one; that of an original is its first card's
abbrev pub number_in : Numbers → RowKey → Option ℕ
number_in numbers (RowKey.Original identity) = lookup (nat_eq (mark_of identity)) numbers.firsts
number_in numbers (RowKey.Card pan) = number_among numbers.keys (RowKey.Card pan)
number_in numbers (RowKey.Velocity pan day) = number_among numbers.keys (RowKey.Velocity pan day)
number_in numbers (RowKey.Budget prefix) = number_among numbers.keys (RowKey.Budget prefix)
number_in numbers (RowKey.Account id) = number_among numbers.keys (RowKey.Account id)

-- the key that stands for a row: a day goes with its card
abbrev pub tie_of : RowKey → RowKey
tie_of (RowKey.Card pan) = RowKey.Card pan
tie_of (RowKey.Velocity pan day) = RowKey.Card pan
tie_of (RowKey.Budget prefix) = RowKey.Budget prefix
tie_of (RowKey.Original identity) = RowKey.Original identity
tie_of (RowKey.Account id) = RowKey.Account id

-- the number, whether it is known or new
abbrev pub number_is : KeyNumber → ℕ
number_is (Known number) = number
number_is (New number) = number

-- the key of a budget, if there is one
abbrev pub budget_key : Option PanPrefix → List RowKey
budget_key None = []
budget_key (Some prefix) = RowKey.Budget prefix ∷ []

-- a key has this number: it had it, and nothing is changed; or it got it, and the others keep theirs
abbrev pub HasNumber : Keys → Keys → RowKey → KeyNumber → Type 0
HasNumber old new key (Known number) = (number_among old key ≡ Some number) × (new ≡ old)
HasNumber old new key (New number) =
    (number_among old key ≡ None) × ((k : RowKey) → number_among new k ≡ cond (key_eq key k) (Some number) (number_among old k))

-- a mark has this first card's number, and those that have one keep theirs
abbrev pub HasFirst : Firsts → Firsts → ℕ → ℕ → Type 0
HasFirst old new mark first =
    (lookup (nat_eq mark) new ≡ Some first) × ((other number : ℕ) → lookup (nat_eq other) old ≡ Some number → lookup (nat_eq other) new ≡ Some number)

-- the links of a head and of another number
abbrev pub AreLinked : List Link → ℕ → ℕ → Type 0
AreLinked links head number = (number ≡ head) ⊎ IsIn (record { head = head; other = number }) links

-- a row is tied to a head: what stands for it has a number, which is linked to the head's
abbrev pub IsTied : Numbers → List Link → ℕ → RowKey → Type 0
IsTied numbers links head key = (number : ℕ) × (number_in numbers (tie_of key) ≡ Some number) × AreLinked links head number

abbrev pub AreTied : Numbers → List Link → ℕ → List RowKey → Type 0
AreTied numbers links head keys = AllByRecursion (IsTied numbers links head) keys

-- each card that has a number is tied to what its messages may be paid from
abbrev pub HaveFunds : Rows → Numbers → List Link → Type 0
HaveFunds rows numbers links =
    (pan : Pan) (head : ℕ) → number_in numbers (RowKey.Card pan) ≡ Some head → AreTied numbers links head (funds_at rows pan)

-- the key is of what messages may be paid from
abbrev pub IsOfFunds : RowKey → Type 0
IsOfFunds (RowKey.Account id) = ⊤
IsOfFunds (RowKey.Budget prefix) = ⊤
IsOfFunds _ = ⊥

-- no card got a number or lost it
abbrev pub HasSameCards : Numbers → Numbers → Type 0
HasSameCards old new = (pan : Pan) → number_in new (RowKey.Card pan) ≡ number_in old (RowKey.Card pan)

-- numbers and links are kept
pub record AreKept (old new : Numbers) (before after : List Link) : Type 0 where
  pub numbers : (key : RowKey) (number : ℕ) → number_in old key ≡ Some number → number_in new key ≡ Some number
  pub links : (link : Link) → IsIn link before → IsIn link after

-- the first messages have heads, to which the rows are tied that they may need
abbrev pub HaveHeads : Rows → Numbers → List Link → List ℕ → List Frame → Type 0
HaveHeads rows numbers links heads frames =
    (index head : ℕ) (frame : Frame) → slice_get heads index ≡ Some head → slice_get frames index ≡ Some frame → AreTied numbers links head (may_need rows frame)

-- the part of a number: the first where the table has none
abbrev pub part_at : List ℕ → ℕ → ℕ
part_at table number = slice_index table number

-- both ends of a link are of one part
abbrev pub IsOfOnePart : List ℕ → Link → Type 0
IsOfOnePart table link = part_at table link.head ≡ part_at table link.other
