-- What a recorder holds while a message is decided.
use Rattle.std.specs.Prelude.{◌≡◌, ◌⊎◌, [], Option, Some, None, Result, Ok, Err, IfSome}
use Rattle.std.specs.FinMap as map
use Rattle.issuer_words.specs.Words.{Agrees, Reads, RowKey, RowVal, Rows, Writes}
use Rattle.issuer_view.specs.RowSets.{value_in}
use Rattle.issuer_view.specs.declared.stop.Stop.{Stop}
use Rattle.issuer_view.specs.declared.stop.Stop.TheVariants.{OutOfMemory}

-- the source of rows, the rows that were read from it, and the rows that are written
pub record Recording (S : Type 0) : Type 0 where
  pub source : S
  pub reads : Reads
  pub writes : Writes

-- no row was read or written yet
abbrev pub IsNew : {S : Type 0} → Recording S → Type 0
IsNew r = (r.reads ≡ []) × (r.writes ≡ [])

-- the row that is written, else the row that was read
abbrev pub first_kept : Option RowVal → Option (Option RowVal) → Option (Option RowVal)
first_kept (Some row) read = Some (Some row)
first_kept None read = read

-- what a row is for the rest of the decision, if it was written or read
abbrev pub kept : {S : Type 0} → Recording S → RowKey → Option (Option RowVal)
kept r key = first_kept (value_in r.writes key) (value_in r.reads key)

-- on a book that is known, the rows are as they were read
abbrev pub AgreesWithBook : Option Rows → Reads → Type 0
AgreesWithBook book reads = IfSome book (λ rows. Agrees reads (map.get rows))

-- The source was asked once for the row, and this is its answer; or there was no room to keep one, and it was not asked.
abbrev pub AsksOnce : {S : Type 0} → (S → RowKey → Result (Option RowVal) Stop → S → Type 0) → S → RowKey → Result (Option RowVal) Stop → S → Type 0
AsksOnce answers old key result new = answers old key result new ⊎ ((result ≡ Err OutOfMemory) × (new ≡ old))

-- the last question to the source was stopped so
abbrev pub IsStopOf : {S : Type 0} → (S → RowKey → Result (Option RowVal) Stop → S → Type 0) → S → Stop → Type 0
IsStopOf {S} answers new stop = (old : S) × (key : RowKey) × answers old key (Err stop) new

-- the answer to a question whose row was written to this place
abbrev pub answer_of : {T : Type 0} → Result T Stop → Option RowVal → Result (Option RowVal) Stop
answer_of (Ok done) row = Ok row
answer_of (Err stop) row = Err stop
