-- What words ask of `why`.
use Rattle.std.specs.Prelude.{◌≡◌, ◌⊎◌, ℕ, List, Some, codes, slice_get}
use Rattle.app_words.specs.Numbers.{IsNumber, number_said}
use Rattle.app_words.specs.Words.{AsksHelp}
use Rattle.app_reports.specs.FormAsked.{SaysForm}
use Rattle.app_words.specs.declared.form.Form.{Form}
use Rattle.app_reports.specs.declared.why_asking.WhyAsked.{WhyAsked}
use Rattle.app_reports.specs.declared.why_asking.WhyAsked.TheVariants.{Message, Messages, Help, Wrong}
use Rattle.app_reports.specs.declared.sought.Sought.{Sought}
use Rattle.app_reports.specs.declared.sought.Sought.TheVariants.{Trace, Card}

-- the words `--trace TRACE` or `--card CARD`, behind those of the command and of two files, say what is sought
abbrev pub IsSoughtBy : List (List ℕ) → Sought → Type 0
IsSoughtBy words (Trace trace) = (slice_get words 4 ≡ Some (codes "--trace")) × (slice_get words 5 ≡ Some trace.now)
IsSoughtBy words (Card card) = (slice_get words 4 ≡ Some (codes "--card")) × (slice_get words 5 ≡ Some card.now)

-- such words are there
abbrev pub IsSearch : List (List ℕ) → Type 0
IsSearch words = (slice_get words 4 ≡ Some (codes "--trace")) ⊎ (slice_get words 4 ≡ Some (codes "--card"))

-- words ask for a message: behind those of the command and of two files stands its place, and behind that how it is told
abbrev pub AsksMessage : List (List ℕ) → Type 0
AsksMessage words = (form : Form) × SaysForm words 5 form × (word : List ℕ) × (slice_get words 4 ≡ Some word) × IsNumber word

-- words ask for messages that are sought: by two words there, and behind those how they are told
abbrev pub AsksMessages : List (List ℕ) → Type 0
AsksMessages words = (form : Form) × SaysForm words 6 form × IsSearch words

-- Words of which the second is `why` ask for a message: the third names the book's file, the fourth the batch's, and the fifth is the place;
-- or for the messages of a trace or of a card, of the batch that the fourth names; one word behind `why` may ask what it takes; other words
-- are wrong.
abbrev pub IsAskedBy : List (List ℕ) → WhyAsked → Type 0
IsAskedBy words (Message book batch place form) =
    SaysForm words 5 form × (slice_get words 2 ≡ Some book.now) × (slice_get words 3 ≡ Some batch.now)
    × (word : List ℕ) × (slice_get words 4 ≡ Some word) × IsNumber word × (place ≡ number_said word)
IsAskedBy words (Messages batch sought form) = SaysForm words 6 form × (slice_get words 3 ≡ Some batch.now) × IsSoughtBy words sought
IsAskedBy words Help = AsksHelp words
IsAskedBy words Wrong = (¬ AsksHelp words) × (¬ AsksMessage words) × (¬ AsksMessages words)
