-- What holds of the three words of a batch, and what each step at them reports.
use Rattle.std.specs.Prelude.{◌≡◌, ℕ, ◌+◌, ◌≤◌, true, false, List, [], ◌∷◌, max}
use mathlib.Core.Option.{some}
use lib.ListN.{get_elem?}
use Rattle.atomic_table.specs.Table.{State, Me}
use Rattle.split_state.specs.declared.seat_view.SeatView.{SeatView}

-- the first seat, which publishes and saw nothing done
abbrev pub publisher : ℕ → SeatView
publisher size = record { messages = size; seen = 0; publishes = true; steps = 0; word = 0; given = 0; found = 0 }

-- another seat that knows as much, and doesn't publish
abbrev pub worker : SeatView → SeatView
worker view = record { messages = view.messages; seen = view.seen; publishes = false; steps = 0; word = 0; given = 0; found = 0 }

-- the seat after a step on the word, which was given one number and found another; it has now seen so many done
abbrev pub stepped : ℕ → SeatView → ℕ → ℕ → ℕ → SeatView
stepped seen view word given found = record {
  messages = view.messages;
  seen = seen;
  publishes = view.publishes;
  steps = view.steps + 1;
  word = word;
  given = given;
  found = found;
}

-- what the rule says of one seat: it knows the size of the batch, has seen no more done than are, and, if it publishes, is the
-- owner and saw all that are
pub record IsSeated (size owner done seat : ℕ) (view : SeatView) : Type 0 where
  pub messages : view.messages ≡ size
  pub below : view.seen ≤ done
  pub owns : view.publishes ≡ true → (seat ≡ owner) × (view.seen ≡ done)

-- The rule: the words are execute, validate and done. Done is at most the number of messages and at least what each seat saw, and it is
-- what the one seat that publishes saw. Of execute and validate nothing is asked: they say where to look next, and no answer rests on them.
pub record IsKeptAt (size : ℕ) (words : List ℕ) (views : List SeatView) : Type 0 where
  pub execute : ℕ
  pub validate : ℕ
  pub done : ℕ
  pub owner : ℕ
  pub are : words ≡ execute ∷ validate ∷ done ∷ []
  pub within : done ≤ size
  pub each : (seat : ℕ) (view : SeatView) → get_elem? views seat ≡ some view → IsSeated size owner done seat view

module _ {S : Type 0} where
  abbrev pub IsKept : ℕ → State S SeatView → Type 0
  IsKept size state = IsKeptAt size state.words state.views

  -- a step that reports what it found
  abbrev pub IsDrawn : ℕ → ℕ → Me S SeatView → ℕ → Me S SeatView → Type 0
  IsDrawn word given old found new = new ≡ (stepped old.0.seen old.0 word given found, old.1)

  -- what was found is at least what was seen, and is now seen
  abbrev pub IsSeen : ℕ → ℕ → Me S SeatView → ℕ → Me S SeatView → Type 0
  IsSeen word given old found new = (old.0.seen ≤ found) × (found ≤ old.0.messages) × (new ≡ (stepped found old.0 word given found, old.1))

  -- what was found is what the seat had published
  abbrev pub IsRaised : ℕ → ℕ → Me S SeatView → ℕ → Me S SeatView → Type 0
  IsRaised word given old found new = (found ≡ old.0.seen) × (new ≡ (stepped (max old.0.seen given) old.0 word given found, old.1))

  -- a seat that saw what was found
  abbrev pub IsEntered : ℕ → Me S SeatView → Type 0
  IsEntered found new = (new.0.seen ≡ found) × (found ≤ new.0.messages) × (new.0.publishes ≡ false)
