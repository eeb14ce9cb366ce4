-- The text of a journal, and its first line that is none of an entry.
use Rattle.std.specs.Prelude.{◌≡◌, ◌≢◌, ℕ, ◌+◌, ◌<◌, List, [], ◌∷◌, ◌++◌, length}
use Rattle.std.specs.Fmt.{decimal}
use Rattle.std.specs.List.{flat_map, AllByRecursion}
use Rattle.stm_journal_text.specs.Texts.{event_text, IsEvent}
use Rattle.stm_journal_text.specs.declared.entry.Entry.{Entry}

-- the seat and what was done there, without the line's end
abbrev pub entry_text : Entry → List ℕ
entry_text e = decimal e.seat ++ 32 ∷ event_text e.event

-- an entry's line with its line feed
abbrev pub line_of : Entry → List ℕ
line_of e = entry_text e ++ 10 ∷ []

-- the lines of the entries, one after another
abbrev pub journal_text : List Entry → List ℕ
journal_text entries = flat_map line_of entries

-- every entry that there is: one of 64 seats, and an event whose parts are values of their types
pub record IsEntry (e : Entry) : Type 0 where
  pub seat : e.seat < 64
  pub event : IsEvent e.event

-- each of these is an entry
abbrev pub AreEntries : List Entry → Type 0
AreEntries entries = AllByRecursion IsEntry entries

-- the text begins with no entry's line
abbrev pub BeginsWithNoLine : List ℕ → Type 0
BeginsWithNoLine text = (e : Entry) (more : List ℕ) → IsEntry e → text ≢ line_of e ++ more

-- Line n, counted from 1, is the first that is none of an entry: before it stand the lines of n - 1 entries, and what
-- follows is not nothing, and begins with no entry's line.
pub record IsFirstWrongLine (text : List ℕ) (n : ℕ) : Type 0 where
  pub before : List Entry
  pub rest : List ℕ
  pub entries : AreEntries before
  pub parts : text ≡ journal_text before ++ rest
  pub number : n ≡ length before + 1
  pub something : 0 < length rest
  pub wrong : BeginsWithNoLine rest
