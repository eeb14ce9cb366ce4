-- What words ask of `report`.
use Rattle.std.specs.Prelude.{◌≡◌, ◌≢◌, ℕ, List, Some, codes, length, slice_get}
use Rattle.app_words.specs.Words.{AsksHelp}
use Rattle.app_reports.specs.declared.report_asking.ReportAsked.{ReportAsked}
use Rattle.app_reports.specs.declared.report_asking.ReportAsked.TheVariants.{Day, Page, Help, Wrong}

-- the fifth of six words is `--html`
abbrev pub AsksPage : List (List ℕ) → Type 0
AsksPage words = (length words ≡ 6) × (slice_get words 4 ≡ Some (codes "--html"))

-- Words of which the second is `report` ask for a day: the third names the batch's file, and the fourth the replies'. They ask for a page
-- too, where `--html` and the name of its file stand behind these. One word behind `report` may ask what it takes; other words are wrong.
abbrev pub IsAskedBy : List (List ℕ) → ReportAsked → Type 0
IsAskedBy words (Day batch replies) = (length words ≡ 4) × (slice_get words 2 ≡ Some batch.now) × (slice_get words 3 ≡ Some replies.now)
IsAskedBy words (Page batch replies page) =
    AsksPage words × (slice_get words 2 ≡ Some batch.now) × (slice_get words 3 ≡ Some replies.now) × (slice_get words 5 ≡ Some page.now)
IsAskedBy words Help = AsksHelp words
IsAskedBy words Wrong = (¬ AsksHelp words) × (length words ≢ 4) × (¬ AsksPage words)
