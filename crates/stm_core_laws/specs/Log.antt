-- What a version was answered, and whether it would be answered so again.
use Rattle.std.specs.Prelude.{◌≡◌, ℕ, ◌<◌, All, Option, Some, None, option_map}
use Rattle.std.specs.FinMap as finite
use Rattle.issuer_words.specs.Words.{Reads, RowKey, RowVal, Rows}
use Rattle.issuer_view.specs.Words.{value_in}
use Rattle.stm_memory.specs.Words.{Resolves, Shelf}
use Rattle.stm_memory.specs.declared.seen.Seen.{Seen}
use Rattle.stm_memory.specs.declared.version.Version.{Version}
use Rattle.stm_memory.specs.declared.seen.Seen.TheVariants.{Base, Value, Estimate}
use Rattle.stm_core_laws.specs.State.{Log, IsAt}
use Rattle.stm_core_laws.specs.declared.logged.Logged.{Logged}

-- what was logged of the row
abbrev pub logged_in : Log → RowKey → Option (Option RowVal)
logged_in log row = option_map (λ logged. logged.value) (value_in log row)

-- each of these reads was logged, with this value
abbrev pub AreLogged : Log → Reads → Type 0
AreLogged log reads = All (λ read. logged_in log read.0 ≡ Some read.1) reads

-- what is logged of a row that is seen so; an ESTIMATE is not logged
abbrev pub logged_of : Rows → RowKey → Seen → Option Logged
logged_of opening row Base = Some (record { origin = None; value = finite.get opening row })
logged_of opening row (Value version value) = Some (record { origin = Some version; value = Some value })
logged_of opening row (Estimate at) = None

-- the message at j sees of the row what this execution wrote, or the opening book where it is none
abbrev pub ResolvesAs : Shelf → RowKey → ℕ → Option Version → Type 0
ResolvesAs shelf row j None = Resolves shelf row j Base
ResolvesAs shelf row j (Some version) = (value : RowVal) × Resolves shelf row j (Value version value)

-- the first reads of this log, so many, still resolve as logged
abbrev pub Resolve : Shelf → ℕ → Log → ℕ → Type 0
Resolve shelf j log count = (k : ℕ) (read : RowKey × Logged) → k < count → IsAt log k read → ResolvesAs shelf read.0 j read.1.origin
