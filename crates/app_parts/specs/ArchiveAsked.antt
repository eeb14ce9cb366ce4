-- What words ask of `archive`.
use Rattle.std.specs.Prelude.{◌≡◌, ℕ, List, Some, length, slice_get}
use Rattle.app_words.specs.Words.{AsksHelp}
use Rattle.iso8583.specs.Calendar.{IsDay}
use Rattle.app_parts.specs.declared.archive_asking.ArchiveAsked.{ArchiveAsked}
use Rattle.app_parts.specs.declared.archive_asking.ArchiveAsked.TheVariants.{Book, Help, Wrong}

-- there are six words, and the fourth is a day
abbrev pub AsksDate : List (List ℕ) → Type 0
AsksDate words = (length words ≡ 6) × (day : List ℕ) × (slice_get words 3 ≡ Some day) × IsDay day

-- Words of which the second is `archive` ask to archive a book where the third names it, the fourth is the date, YYMMDD, and the others
-- name the new book and the old one. One word behind `archive` may ask what it takes; other words are wrong.
abbrev pub IsAskedBy : List (List ℕ) → ArchiveAsked → Type 0
IsAskedBy words (Book names date) =
    (length words ≡ 6) × (slice_get words 2 ≡ Some names.book.now) × (slice_get words 3 ≡ Some date)
    × (slice_get words 4 ≡ Some names.new_book.now) × (slice_get words 5 ≡ Some names.old.now)
IsAskedBy words Help = AsksHelp words
IsAskedBy words Wrong = (¬ AsksHelp words) × (¬ AsksDate words)
