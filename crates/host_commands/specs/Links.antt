-- Several links of a live host, as words say them.
use Rattle.std.specs.Prelude.{◌≡◌, ◌<◌, ℕ, ◌^◌, ◌-◌, Bool, false, ◌||◌, MatchBool, IsFalse, List, [], ◌∷◌, ◌++◌, Option, Some, None, codes, drop, length, map, slice_get}
use Rattle.std.specs.Str.{bytes_eq}
use Rattle.app_words.specs.Words.{IsCommand}
use Rattle.host_commands.specs.Settings.{IsNumberTo}
use Rattle.host_commands.specs.declared.choices.Choices.{Choices}
use Rattle.host_commands.specs.declared.link_names.LinkNames.{LinkNames}
use Rattle.host_commands.specs.declared.settings.Settings.{Settings}
use Rattle.app_words.specs.Numbers.{number_said}

-- what options say: how many frames in one turn at most and after how many bodies it is told how it goes, each if it is said; and the two
-- names of each link, in order
pub record LinkOptions : Type 0 where
  pub max_batch : Option ℕ
  pub stats : Option ℕ
  pub links : List (List ℕ × List ℕ)

-- the names of links
abbrev pub names_of : List LinkNames → List (List ℕ × List ℕ)
names_of links = map (λ link. (link.input.now, link.output.now)) links

abbrev pub options_of : Choices → LinkOptions
options_of choices = record { max_batch = choices.max_batch; stats = choices.stats; links = names_of choices.links.items }

-- whether a name is one of these links'
abbrev pub is_named : List ℕ → List (List ℕ × List ℕ) → Bool
is_named name [] = false
is_named name (link ∷ links) = bytes_eq link.0 name || bytes_eq link.1 name || is_named name links

-- one more link: its names are two, none of them is another link's, and there are at most 64 links
abbrev pub AddsLink : List (List ℕ × List ℕ) → List ℕ → List ℕ → Type 0
AddsLink links input output = (length links < 64) × IsFalse (bytes_eq input output) × IsFalse (is_named input links) × IsFalse (is_named output links)

-- Where options said so much before, these words, which are options in any order, say so much in all: `--max-batch M` and `--stats N` once at
-- most, and `--link IN OUT` for each link.
abbrev mutual
  pub SayMore : LinkOptions → List (List ℕ) → LinkOptions → Type 0
  SayMore before [] after = after ≡ before
  SayMore before (option ∷ []) after = ⊥
  SayMore before (option ∷ first ∷ words) after =
      MatchBool (bytes_eq option (codes "--max-batch"))
      (IsNumberTo 65536 first × (before.max_batch ≡ None) × SayMore (record { max_batch = Some (number_said first); stats = before.stats; links = before.links }) words after)
      (MatchBool (bytes_eq option (codes "--stats"))
      (IsNumberTo (2 ^ 64 - 1) first × (before.stats ≡ None) × SayMore (record { max_batch = before.max_batch; stats = Some (number_said first); links = before.links }) words after)
      (MatchBool (bytes_eq option (codes "--link")) (SayLink before first words after) ⊥))

  pub SayLink : LinkOptions → List ℕ → List (List ℕ) → LinkOptions → Type 0
  SayLink before input [] after = ⊥
  SayLink before input (output ∷ words) after =
      AddsLink before.links input output × SayMore (record { max_batch = before.max_batch; stats = before.stats; links = before.links ++ (input, output) ∷ [] }) words after

-- what is said where nothing is
abbrev pub nothing : LinkOptions
nothing = record { max_batch = None; stats = None; links = [] }

-- as many frames in one turn as an entry has room for, where that isn't said
abbrev pub most_of : Option ℕ → ℕ
most_of None = 65536
most_of (Some most) = most

-- Words of which the second is `serve` ask to serve these links, on the book of the file that the third names, with the log in the file that
-- the fourth names, where options behind these say them.
pub record AskLinks (words : List (List ℕ)) (book log : List ℕ) (settings : Settings) (links : List (List ℕ × List ℕ)) : Type 0 where
  pub said : LinkOptions
  pub command : IsCommand (codes "serve") words
  pub book_name : slice_get words 2 ≡ Some book
  pub log_name : slice_get words 3 ≡ Some log
  pub options : SayMore nothing (drop 4 words) said
  pub how : settings ≡ record { max_batch = most_of said.max_batch; stats = said.stats }
  pub are : links ≡ said.links

-- the words ask for no host
abbrev pub NoneAsks : List (List ℕ) → Type 0
NoneAsks words = (book log : List ℕ) (settings : Settings) (links : List (List ℕ × List ℕ)) → ¬ AskLinks words book log settings links
