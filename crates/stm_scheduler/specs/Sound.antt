-- What the type of a scheduler keeps.
use Rattle.std.specs.Prelude.{◌≡◌, ◌⊎◌, ℕ, ◌+◌, ◌<◌, ◌≤◌, List, [], ◌∷◌, length, slice_index_or, Option, Some, None}
use Rattle.stm_scheduler.specs.Board.{Board, floor, IsExecuted}
use Rattle.stm_scheduler.specs.Cursors.{Schedule, IsWaitingFor}
use Rattle.stm_scheduler.specs.declared.message_progress.MessageProgress.{MessageProgress}

-- no floor up to the committed count is above this, and one of them is this
abbrev pub IsHighest : Board → ℕ → Type 0
IsHighest b highest =
    ((t : ℕ) → t ≤ b.committed → floor b t ≤ highest)
    × ((t : ℕ) × (t ≤ b.committed) × (floor b t ≡ highest))

-- it is one of these
abbrev pub IsIn : ℕ → List ℕ → Type 0
IsIn w [] = ⊥
IsIn w (x ∷ xs) = (w ≡ x) ⊎ IsIn w xs

-- none is there twice
abbrev pub AreApart : List ℕ → Type 0
AreApart [] = Unit {0}
AreApart (x ∷ xs) = ¬ IsIn x xs × AreApart xs

-- each message in turn names the next one
abbrev pub IsListFrom : List (Option ℕ) → Option ℕ → List ℕ → Type 0
IsListFrom nexts first [] = first ≡ None
IsListFrom nexts first (w ∷ ws) = (first ≡ Some w) × IsListFrom nexts (slice_index_or nexts w None) ws

-- from this message on, those that wait for the one at `on` are listed, each once
pub record WaitList (marks : List MessageProgress) (nexts : List (Option ℕ)) (first : Option ℕ) (on : ℕ) : Type 0 where
  pub list : List ℕ
  pub from : IsListFrom nexts first list
  pub apart : AreApart list
  pub waiting : (w : ℕ) → IsIn w list → IsWaitingFor marks on w
  pub listed : (w : ℕ) → IsWaitingFor marks on w → IsIn w list

-- for each message, those that wait for it are listed
abbrev pub AreWaitLists : List MessageProgress → List (Option ℕ) → List (Option ℕ) → Type 0
AreWaitLists marks firsts nexts = (on : ℕ) → WaitList marks nexts (slice_index_or firsts on None) on

-- a floor for each message and one more; the cursors are within; committed messages are executed; a message waits for an earlier one
pub record IsSound (s : Schedule) (firsts nexts : List (Option ℕ)) : Type 0 where
  pub floored : length s.board.floors ≡ length s.board.marks + 1
  pub headed : length firsts ≡ length s.board.marks
  pub linked : length nexts ≡ length s.board.marks
  pub few : length s.board.marks ≤ 65536
  pub within : s.board.committed ≤ length s.board.marks
  pub execution : s.execution ≤ length s.board.marks
  pub validation : s.validation ≤ length s.board.marks
  pub settled : (i : ℕ) → i < s.board.committed → IsExecuted s.board i
  pub lists : AreWaitLists s.board.marks firsts nexts
