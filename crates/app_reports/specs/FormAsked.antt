-- What words ask of how it is told.
use Rattle.std.specs.Prelude.{◌≡◌, ◌⊎◌, ◌+◌, ℕ, List, Some, codes, length, slice_get}
use Rattle.iso_shown.specs.declared.card_numbers.CardNumbers.TheVariants.{Masked, Full}
use Rattle.app_words.specs.declared.form.Form.{Form}
use Rattle.app_words.specs.declared.form.Form.TheVariants.{Lines, Json}

-- the word at this place is `--json` and the next one `--full-pan`, or the other way around
abbrev pub SaysFull : List (List ℕ) → ℕ → Type 0
SaysFull words place =
    ((slice_get words place ≡ Some (codes "--json")) × (slice_get words (place + 1) ≡ Some (codes "--full-pan")))
    ⊎ ((slice_get words place ≡ Some (codes "--full-pan")) × (slice_get words (place + 1) ≡ Some (codes "--json")))

-- The words from this place on: none, for lines; `--json`, for JSON; or that and `--full-pan`, in either order, for JSON with card numbers in
-- full.
abbrev pub SaysForm : List (List ℕ) → ℕ → Form → Type 0
SaysForm words place Lines = length words ≡ place
SaysForm words place (Json Masked) = (length words ≡ place + 1) × (slice_get words place ≡ Some (codes "--json"))
SaysForm words place (Json Full) = (length words ≡ place + 2) × SaysFull words place
