-- What words ask of `unpack`.
use Rattle.std.specs.Prelude.{◌≡◌, ◌≢◌, ◌⊎◌, ◌+◌, ℕ, List, Some, codes, length, slice_get}
use Rattle.app_words.specs.Numbers.{IsNumber, number_said}
use Rattle.app_words.specs.Words.{AsksHelp}
use Rattle.app_messages.specs.declared.unpack_asking.UnpackAsked.{UnpackAsked}
use Rattle.app_messages.specs.declared.unpack_asking.UnpackAsked.TheVariants.{Batch, Block, Help, Wrong}

-- the word at this place is `--block`, and the next one says this number
abbrev pub SaysBlock : List (List ℕ) → ℕ → ℕ → Type 0
SaysBlock words place number =
    (slice_get words place ≡ Some (codes "--block")) × (word : List ℕ) × (slice_get words (place + 1) ≡ Some word) × IsNumber word
    × (number ≡ number_said word)

-- behind the command stand `--block`, a number and the file's name, or the name before the other two
abbrev pub AsksBlock : List (List ℕ) → List ℕ → ℕ → Type 0
AsksBlock words name number =
    (length words ≡ 5)
    × ((SaysBlock words 2 number × (slice_get words 4 ≡ Some name)) ⊎ (SaysBlock words 3 number × (slice_get words 2 ≡ Some name)))

-- One word behind `unpack` may ask what it takes; another names the batch's file; three ask for a block of a file; other words are wrong.
abbrev pub IsAskedBy : List (List ℕ) → UnpackAsked → Type 0
IsAskedBy words (Batch name) = (length words ≡ 3) × (¬ AsksHelp words) × (slice_get words 2 ≡ Some name.now)
IsAskedBy words (Block name number) = AsksBlock words name.now number
IsAskedBy words Help = AsksHelp words
IsAskedBy words Wrong = (length words ≢ 3) × ((name : List ℕ) (number : ℕ) → ¬ AsksBlock words name number)
