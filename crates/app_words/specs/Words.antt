-- What the program's words ask for, of which the first is its own name.
use Rattle.std.specs.Prelude.{◌≡◌, ◌⊎◌, ℕ, List, Some, codes, length, slice_get}
use Rattle.app_words.specs.declared.topic.Topic.{Topic}
use Rattle.app_words.specs.declared.topic.Topic.TheVariants.{Formats, Rules, Faults, Example}

-- the second word is this command
abbrev pub IsCommand : List ℕ → List (List ℕ) → Type 0
IsCommand command words = slice_get words 1 ≡ Some command

-- one word behind the command's asks what it takes
abbrev pub AsksHelp : List (List ℕ) → Type 0
AsksHelp words = (length words ≡ 3) × ((slice_get words 2 ≡ Some (codes "--help")) ⊎ (slice_get words 2 ≡ Some (codes "-h")))

-- the word by which a topic is asked for
abbrev pub name_of : Topic → List ℕ
name_of Formats = codes "formats"
name_of Rules = codes "rules"
name_of Faults = codes "faults"
name_of Example = codes "example"

-- the words `help` and the topic's name
abbrev pub AsksTopic : List (List ℕ) → Topic → Type 0
AsksTopic words topic = (length words ≡ 3) × IsCommand (codes "help") words × (slice_get words 2 ≡ Some (name_of topic))
