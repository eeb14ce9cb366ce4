-- What the log of a version keeps.
use Rattle.std.specs.Prelude.{◌≡◌, ℕ, List, ◌++◌, map, Option, Some, None, IfSome}
use Rattle.std.specs.List.{AllByRecursion}
use Rattle.issuer_words.specs.Words.{IsOfKind, RowKey}
use Rattle.stm_core_laws.specs.State.{Log}
use Rattle.stm_core_laws.specs.declared.logged.Logged.{Logged}
use Rattle.stm_memory.specs.declared.version.Version.{Version}
use Rattle.stm_core.specs.declared.read.Read.{Read}

-- what was answered is of its row's kind
abbrev pub AreOfKind : Log → Type 0
AreOfKind log = AllByRecursion (λ read. IfSome read.1.value (IsOfKind read.0)) log

-- a read without the number of its row's chain
abbrev pub pair_of : Read → RowKey × Logged
pair_of read = (read.row, read.logged)

-- the log that the first reads and those behind them are
abbrev pub log_of : List Read → Log → Log
log_of few more = map pair_of few ++ more

-- the row and the origin of this read; its number is anything
abbrev pub IsFirstOf : Option (RowKey × Logged) → RowKey × Option Version × ℕ → Type 0
IsFirstOf None origin = ⊥
IsFirstOf (Some read) origin = (origin.0 ≡ read.0) × (origin.1 ≡ read.1.origin)
