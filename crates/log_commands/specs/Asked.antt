-- What words ask of a log.
use Rattle.std.specs.Prelude.{◌≡◌, ◌≢◌, ℕ, List, Some, length, slice_get}
use Rattle.app_words.specs.Words.{AsksHelp}
use Rattle.log_commands.specs.declared.asking.LogAsked.{LogAsked}
use Rattle.log_commands.specs.declared.asking.LogAsked.TheVariants.{Files, Help, Wrong}

-- Words with four behind the command's name BOOK, LOG, REPLIES and NEWBOOK; one may ask what the command takes; others are wrong.
abbrev pub IsAskedBy : List (List ℕ) → LogAsked → Type 0
IsAskedBy words (Files names) =
    (length words ≡ 6) × (slice_get words 2 ≡ Some names.book.now) × (slice_get words 3 ≡ Some names.log.now)
    × (slice_get words 4 ≡ Some names.replies.now) × (slice_get words 5 ≡ Some names.new_book.now)
IsAskedBy words Help = AsksHelp words
IsAskedBy words Wrong = (length words ≢ 6) × ¬ AsksHelp words
