-- What a watch is told of the entries that a log has more.
use Rattle.std.specs.Prelude.{◌≡◌, ◌≤◌, ℕ, List, [], ◌∷◌, length}
use Rattle.std.specs.List.{AllByRecursion, AllZip}
use Rattle.issuer_rows.specs.declared.frame.Frame.{Frame}
use Rattle.file_laws.specs.Frames.{AreFramesOf}
use Rattle.host_serving.specs.Tally.{counted}
use Rattle.host_serving.specs.declared.tally.Tally.{Tally}

-- An entry has at most so many bodies.
abbrev pub HasAtMost : ℕ → List (List ℕ) → Type 0
HasAtMost most bodies = length bodies ≤ most

-- The watch was told of entries of these messages, one entry after another, each time with what was counted before it. It was this one, and
-- so much was counted, before the first; and behind the last it is this one, and so much is.
abbrev pub Hears : {N : Type 0} → (N → Tally → List Frame → N → Type 0) → N → Tally → List (List Frame) → N → Tally → Type 0
Hears hears had before [] has after = (has ≡ had) × (after ≡ before)
Hears {N} hears had before (messages ∷ more) has after = (mid : N) × hears had before messages mid × Hears hears mid (counted before messages) more has after

-- The log has these entries more, none of more bodies than are served in one turn; and the watch was told of their messages, and of nothing
-- else.
pub record Watched {N : Type 0} (log : List (List (List ℕ)) → Type 0) (most : ℕ) (hears : N → Tally → List Frame → N → Type 0) (had : N) (before : Tally) (has : N) (after : Tally)
    : Type 0 where
  pub entries : List (List (List ℕ))
  pub messages : List (List Frame)
  pub stand : log entries
  pub few : AllByRecursion (HasAtMost most) entries
  pub read : AllZip AreFramesOf entries messages
  pub told : Hears hears had before messages has after

-- the same, where what was counted behind the last one is not said
abbrev pub WatchedSoFar : {N : Type 0} → (List (List (List ℕ)) → Type 0) → ℕ → (N → Tally → List Frame → N → Type 0) → N → Tally → N → Type 0
WatchedSoFar log most hears had before has = (after : Tally) × Watched log most hears had before has after
