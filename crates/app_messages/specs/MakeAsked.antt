-- What words ask of `make`.
use Rattle.std.specs.Prelude.{◌≡◌, ◌<◌, ℕ, List, Some, drop, length, map, slice_get, string_bytes}
use Rattle.app_words.specs.Words.{AsksHelp}
use Rattle.app_messages.specs.declared.make_asking.MakeAsked.{MakeAsked}
use Rattle.app_messages.specs.declared.make_asking.MakeAsked.TheVariants.{Message, Help, Wrong}

-- The word behind `make` may ask what it takes; another is the type, and those behind it give elements; none is wrong.
abbrev pub IsAskedBy : List (List ℕ) → MakeAsked → Type 0
IsAskedBy words (Message kind pairs) =
    (¬ AsksHelp words) × (slice_get words 2 ≡ Some kind.now) × (map string_bytes pairs.now ≡ drop 3 words)
IsAskedBy words Help = AsksHelp words
IsAskedBy words Wrong = length words < 3
