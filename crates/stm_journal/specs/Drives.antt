-- Turns of workers, one after another, in an order that is given.
use Rattle.std.specs.Prelude.{◌≡◌, ℕ, List, [], ◌∷◌, ◌++◌, replicate, slice_index_or, slice_set}
use Rattle.issuer_words.specs.Words.{Frame, Rows}
use Rattle.stm_core_laws.specs.Words.{Play, opening_play, seats}
use Rattle.stm_journal_text.specs.Logged.{greatest}
use Rattle.stm_journal_text.specs.declared.entry.Entry.{Entry}
use Rattle.stm_journal.specs.declared.holding.Holding.{Holding}
use Rattle.stm_journal.specs.declared.holding.Holding.TheVariants as holds
use Rattle.stm_journal.specs.Turns.{IsTurn}

-- what each seat holds
abbrev pub Hands : Type 0
Hands = List Holding

-- no seat holds anything
abbrev pub empty_hands : Hands
empty_hands = replicate seats holds.Nothing

-- what the seat holds
abbrev pub hand : Hands → ℕ → Holding
hand hands seat = slice_index_or hands seat holds.Nothing

-- The seats take these turns, one after another, each with what it holds after its turn before, and make these entries.
abbrev pub IsDriven : Play → Hands → List ℕ → List Entry → Play → Hands → Type 0
IsDriven old before [] entries new after = (entries ≡ []) × (new ≡ old) × (after ≡ before)
IsDriven old before (seat ∷ turns) entries new after =
    (made : List Entry) × (rest : List Entry) × (next : Holding) × (mid : Play)
    × (entries ≡ made ++ rest) × IsTurn old seat (hand before seat) made next mid
    × IsDriven mid (slice_set before seat next) turns rest new after

-- From the opening state of this book and these bodies, with no limit but that of the numbers, and with empty hands, these turns make
-- these entries and come to this core.
abbrev pub IsDrive : Rows → List Frame → List ℕ → List Entry → Play → Type 0
IsDrive opening frames turns entries core =
    (after : Hands) × IsDriven (opening_play opening frames greatest) empty_hands turns entries core after
