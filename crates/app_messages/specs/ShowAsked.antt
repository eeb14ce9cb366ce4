-- What words ask of `show`, where they ask for JSON.
use Rattle.std.specs.Prelude.{◌≡◌, ◌≢◌, ◌⊎◌, ℕ, List, Some, codes, length, slice_get}
use Rattle.app_words.specs.Words.{IsCommand}
use Rattle.iso_shown.specs.declared.card_numbers.CardNumbers.{CardNumbers}
use Rattle.iso_shown.specs.declared.card_numbers.CardNumbers.TheVariants.{Masked, Full}
use Rattle.app_messages.specs.declared.show_asking.ShowAsked.{ShowAsked}
use Rattle.app_messages.specs.declared.show_asking.ShowAsked.TheVariants.{File, Help, Wrong}

-- one of three words behind the command's is this one
abbrev pub HasWord : List ℕ → List (List ℕ) → Type 0
HasWord word words = (slice_get words 2 ≡ Some word) ⊎ ((slice_get words 3 ≡ Some word) ⊎ (slice_get words 4 ≡ Some word))

-- the words are of `show`, and one of them is an option for JSON
abbrev pub AsksJson : List (List ℕ) → Type 0
AsksJson words = IsCommand (codes "show") words × (HasWord (codes "--json") words ⊎ HasWord (codes "--full-pan") words)

-- the word at this place is no option
abbrev pub IsFree : List (List ℕ) → ℕ → Type 0
IsFree words place = (slice_get words place ≢ Some (codes "--json")) × (slice_get words place ≢ Some (codes "--full-pan"))

-- The words ask for the file that the word at this place names: two stand behind the command's, and the other is `--json`; or three, and the
-- others are `--json` and `--full-pan`, for card numbers in full.
abbrev pub AsksFile : List (List ℕ) → ℕ → CardNumbers → Type 0
AsksFile words place Masked = (length words ≡ 4) × HasWord (codes "--json") words × IsFree words place
AsksFile words place Full = (length words ≡ 5) × HasWord (codes "--json") words × HasWord (codes "--full-pan") words × IsFree words place

-- the same, and this is the file's name
abbrev pub NamesFile : List (List ℕ) → ℕ → List ℕ → CardNumbers → Type 0
NamesFile words place name cards = AsksFile words place cards × (slice_get words place ≡ Some name)

-- two words behind the command's ask what it takes
abbrev pub AsksHelp : List (List ℕ) → Type 0
AsksHelp words =
    (length words ≡ 4) × HasWord (codes "--json") words × (HasWord (codes "--help") words ⊎ HasWord (codes "-h") words)

-- Words of `show` for JSON name a file, in any order with `--json` and maybe `--full-pan`, each once; or they ask what it takes; other words
-- are wrong.
abbrev pub IsAskedBy : List (List ℕ) → ShowAsked → Type 0
IsAskedBy words (File name cards) =
    NamesFile words 2 name.now cards ⊎ (NamesFile words 3 name.now cards ⊎ NamesFile words 4 name.now cards)
IsAskedBy words Help = AsksHelp words
IsAskedBy words Wrong =
    (¬ AsksFile words 2 Masked) × (¬ AsksFile words 3 Masked)
    × (¬ AsksFile words 2 Full) × (¬ AsksFile words 3 Full) × (¬ AsksFile words 4 Full)
