-- What words ask of `part`, `decide` and `join`.
use Rattle.std.specs.Prelude.{◌≡◌, ◌≤◌, ◌⊎◌, ℕ, List, Some, codes, length, slice_get}
use Rattle.app_words.specs.Numbers.{IsNumber, number_said}
use Rattle.app_words.specs.Words.{AsksHelp, IsCommand}
use Rattle.app_parts.specs.declared.asking.PartsAsked.{PartsAsked}
use Rattle.app_parts.specs.declared.asking.PartsAsked.TheVariants.{Part, Decide, Join, Help, Wrong}

-- it is so many parts as there can be
abbrev pub IsMost : ℕ → Type 0
IsMost most = (1 ≤ most) × (most ≤ 64)

-- the word at this place is this number
abbrev pub SaysNumber : List (List ℕ) → ℕ → ℕ → Type 0
SaysNumber words place number = (word : List ℕ) × (slice_get words place ≡ Some word) × IsNumber word × (number ≡ number_said word)

-- `part` has four words behind it, of which the third is a number from 1 to 64
abbrev pub AsksPart : List (List ℕ) → Type 0
AsksPart words = (length words ≡ 6) × (most : ℕ) × SaysNumber words 4 most × IsMost most

-- `decide` has two, of which the second is a number
abbrev pub AsksDecide : List (List ℕ) → Type 0
AsksDecide words = (length words ≡ 4) × (part : ℕ) × SaysNumber words 3 part

-- `join` has three
abbrev pub AsksJoin : List (List ℕ) → Type 0
AsksJoin words = length words ≡ 5

-- What words ask: to put a batch in parts, to decide one, or to put them together; one word behind the command may ask what it takes; other
-- words are wrong.
abbrev pub IsAskedBy : List (List ℕ) → PartsAsked → Type 0
IsAskedBy words (Part names most) =
    IsCommand (codes "part") words × (length words ≡ 6) × (slice_get words 2 ≡ Some names.book.now) × (slice_get words 3 ≡ Some names.batch.now)
    × SaysNumber words 4 most × IsMost most × (slice_get words 5 ≡ Some names.folder.now)
IsAskedBy words (Decide folder part) =
    IsCommand (codes "decide") words × (length words ≡ 4) × (slice_get words 2 ≡ Some folder.now) × SaysNumber words 3 part
IsAskedBy words (Join names) =
    IsCommand (codes "join") words × (length words ≡ 5) × (slice_get words 2 ≡ Some names.folder.now) × (slice_get words 3 ≡ Some names.replies.now)
    × (slice_get words 4 ≡ Some names.new_book.now)
IsAskedBy words (Help text) = AsksHelp words
IsAskedBy words (Wrong usage) =
    (¬ AsksHelp words)
    × ((IsCommand (codes "part") words × (¬ AsksPart words))
    ⊎ ((IsCommand (codes "decide") words × (¬ AsksDecide words)) ⊎ (IsCommand (codes "join") words × (¬ AsksJoin words))))
