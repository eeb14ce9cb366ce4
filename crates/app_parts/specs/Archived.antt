-- What files hold after a book was archived, and what is said of it.
use Rattle.std.specs.Prelude.{◌≡◌, ◌≤◌, ◌⊎◌, ◌-◌, ℕ, List, ◌++◌, Option, Ok, codes, decimal}
use Rattle.std.specs.FinMap as map
use Rattle.std.specs.Io.KnownBytes.{Appends}
use Rattle.issuer_rows.specs.Fold.{Rows}
use Rattle.book_laws.specs.CheckBook.{IsSound}
use Rattle.book_laws.specs.Reading.{reading}
use Rattle.book_laws.specs.Text.{book_text}
use Rattle.book_changes.specs.Archive.{new_rows, old_rows}
use Rattle.file_batch.specs.Words.{AreAsTheyWere, Failing, Holding, IsThere}
use Rattle.app_jobs.specs.Decided.{IsBookOf}
use Rattle.app_parts.specs.Faults.{Names, names_of, IsArchiveFault, status_of}
use Rattle.app_parts.specs.declared.archive_count.ArchiveCount.{ArchiveCount}
use Rattle.app_parts.specs.declared.archive_fault.ArchiveFault.{ArchiveFault}
use Rattle.app_parts.specs.declared.archive_asking.ArchiveAsked.{ArchiveAsked}
use Rattle.app_parts.specs.declared.archive_asking.ArchiveAsked.TheVariants.{Book, Help, Wrong}

-- how many rows went, and how many the new book has
abbrev pub IsCountOf : List ℕ → Rows → ArchiveCount → Type 0
IsCountOf date rows count = (count.archived ≡ map.len rows - map.len (new_rows date rows)) × (count.kept ≡ map.len (new_rows date rows))

-- The book that the file held was archived by the date. Where it is known what files hold, it was there, and the files of the new book and of
-- the old one hold their texts, which are read again as these books; both are sound.
pub record IsArchived (known : Type 0) (old new : Holding) (names : Names) (date : List ℕ) (count : ArchiveCount) : Type 0 where
  pub rows : Rows
  pub there : known → IsThere old names.book
  pub opening : IsBookOf old names.book rows
  pub new_book : known → new names.new_book (book_text (new_rows date rows))
  pub old_book : known → new names.old (book_text (old_rows date rows))
  pub new_back : reading (book_text (new_rows date rows)) ≡ Ok (new_rows date rows)
  pub old_back : reading (book_text (old_rows date rows)) ≡ Ok (old_rows date rows)
  pub sound : known → IsSound (new_rows date rows) × IsSound (old_rows date rows)
  pub counted : IsCountOf date rows count

-- how many rows went and how many stayed, as a line
abbrev pub count_line : ArchiveCount → List ℕ
count_line count = codes "archived " ++ decimal count.archived ++ codes ", kept " ++ decimal count.kept ++ codes "\n"

-- What the exit status says, where a book was to be archived: 0 that it is, and is said, behind what was said before; 1, too, where that
-- couldn't be said; else that of the reason why it isn't, and all files are as they were.
abbrev pub Ends : Type 0 → Holding → Holding → Failing → Names → List ℕ → Option (List ℕ) → Option (List ℕ) → ℕ → Type 0
Ends known old new failing names date before after status =
    ((count : ArchiveCount) × IsArchived known old new names date count × (((status ≡ 0) × Appends before after (count_line count)) ⊎ (status ≡ 1)))
    ⊎ ((fault : ArchiveFault) × (status ≡ status_of fault) × IsArchiveFault known old failing names fault × AreAsTheyWere old new)

-- What is asked is done. Help and wrong words leave all files as they were; these have status 2.
abbrev pub IsAnswered : Type 0 → Holding → Holding → Failing → ArchiveAsked → Option (List ℕ) → Option (List ℕ) → ℕ → Type 0
IsAnswered known old new failing (Book names date) before after status = Ends known old new failing (names_of names) date before after status
IsAnswered known old new failing Help before after status = (status ≤ 1) × AreAsTheyWere old new
IsAnswered known old new failing Wrong before after status = (status ≡ 2) × AreAsTheyWere old new

-- the file of this name may be written: it is that of the new book or of the old one
abbrev pub IsWritten : ArchiveAsked → List ℕ → Type 0
IsWritten (Book names date) name = (name ≡ names.new_book.now) ⊎ (name ≡ names.old.now)
IsWritten _ name = ⊥
