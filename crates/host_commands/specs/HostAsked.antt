-- What words ask of a live host.
use Rattle.std.specs.Prelude.{◌≡◌, ℕ, List, Some, slice_get}
use Rattle.app_words.specs.Words.{AsksHelp}
use Rattle.host_commands.specs.Settings.{SaySettings}
use Rattle.host_commands.specs.declared.asking.HostAsked.{HostAsked}
use Rattle.host_commands.specs.declared.asking.HostAsked.TheVariants.{Serve, Help, Wrong}
use Rattle.host_commands.specs.declared.settings.Settings.{Settings}

-- Words of which the second is `serve` ask to serve, on the book of the file that the third names, with the log in the file that the fourth
-- names, by the settings that the words behind these say; one word behind `serve` may ask what it takes; other words are wrong.
abbrev pub IsAskedBy : List (List ℕ) → HostAsked → Type 0
IsAskedBy words (Serve book log settings) = (slice_get words 2 ≡ Some book.now) × (slice_get words 3 ≡ Some log.now) × SaySettings words settings
IsAskedBy words Help = AsksHelp words
IsAskedBy words Wrong = (¬ AsksHelp words) × ((settings : Settings) → ¬ SaySettings words settings)
