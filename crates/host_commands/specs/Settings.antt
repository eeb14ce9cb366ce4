-- How a host is to serve, as words say it.
use Rattle.std.specs.Prelude.{◌≡◌, ◌⊎◌, ℕ, ◌+◌, ◌-◌, ◌^◌, ◌≤◌, List, Some, None, codes, length, slice_get}
use Rattle.std.specs.Str.Parse.{IsNumeral, without_leading_plus}
use Rattle.app_words.specs.Numbers.{number_said}
use Rattle.host_commands.specs.declared.settings.Settings.{Settings}

-- where nothing is said: 65,536 frames in one turn at most, and it isn't told how it goes
abbrev pub plain : Settings
plain = record { max_batch = 65536; stats = None }

-- a word is a number in decimal digits, from 1 to this one
abbrev pub IsNumberTo : ℕ → List ℕ → Type 0
IsNumberTo most word = IsNumeral 10 (without_leading_plus word) × (1 ≤ number_said word) × (number_said word ≤ most)

-- at this place this word stands, and behind it a number from 1 to the greatest
abbrev pub Says : List ℕ → ℕ → List (List ℕ) → ℕ → ℕ → Type 0
Says option greatest words place number =
    (slice_get words place ≡ Some option) × (word : List ℕ) × (slice_get words (place + 1) ≡ Some word) × IsNumberTo greatest word × (number ≡ number_said word)

-- how many frames are served in one turn, at most
abbrev pub SaysMaxBatch : List (List ℕ) → ℕ → ℕ → Type 0
SaysMaxBatch words place most = Says (codes "--max-batch") 65536 words place most

-- after how many bodies it is told how it goes
abbrev pub SaysStats : List (List ℕ) → ℕ → ℕ → Type 0
SaysStats words place every = Says (codes "--stats") (2 ^ 64 - 1) words place every

-- Four words say no setting; two words more say one of them, and four more both, in any order.
abbrev pub SaySettings : List (List ℕ) → Settings → Type 0
SaySettings words settings =
    ((length words ≡ 4) × (settings ≡ plain))
    ⊎ ((length words ≡ 6) × (most : ℕ) × SaysMaxBatch words 4 most × (settings ≡ record { max_batch = most; stats = None }))
    ⊎ ((length words ≡ 6) × (every : ℕ) × SaysStats words 4 every × (settings ≡ record { max_batch = 65536; stats = Some every }))
    ⊎ ((length words ≡ 8) × (most every : ℕ) × SaysMaxBatch words 4 most × SaysStats words 6 every × (settings ≡ record { max_batch = most; stats = Some every }))
    ⊎ ((length words ≡ 8) × (most every : ℕ) × SaysStats words 4 every × SaysMaxBatch words 6 most × (settings ≡ record { max_batch = most; stats = Some every }))
