-- What is seen of a row in the shards.
use Rattle.std.specs.Prelude.{◌≡◌, ℕ, Option, Some, None}
use Rattle.stm_memory.specs.declared.link.Link.{Link}
use Rattle.issuer_words.specs.Words.{IsOfKind, RowKey, RowVal}
use Rattle.split_state.specs.declared.sight.Sight.{Sight}
use Rattle.split_state.specs.declared.sight.Sight.TheVariants.{Base, Put, Estimate}

-- whose row an entry of this message and incarnation is: an entry without a value is an ESTIMATE
abbrev pub entry_sight : ℕ → ℕ → Option RowVal → Sight
entry_sight index incarnation (Some value) = Put (record { index = index; incarnation = incarnation })
entry_sight index incarnation None = Estimate index

-- whose row is seen where this entry is the nearest one
abbrev pub sight_of : Option Link → Sight
sight_of (Some link) = entry_sight link.index link.incarnation link.value
sight_of None = Base

-- a row over another: what was written, else what was there
abbrev pub over : Option RowVal → Option RowVal → Option RowVal
over (Some value) was = Some value
over None was = was

-- the row that is seen where this entry is the nearest one: what was written, else what was there
abbrev pub row_over : Option Link → Option RowVal → Option RowVal
row_over (Some link) was = over link.value was
row_over None was = was

-- With this sight of a row, what stands in the caller's place: where it was written, a row of its key's kind; else what stood there.
abbrev pub IsSeenSo : RowKey → Sight → Option RowVal → Option RowVal → Type 0
IsSeenSo key Base was now = now ≡ was
IsSeenSo key (Put version) was now = (value : RowVal) × (now ≡ Some value) × IsOfKind key value
IsSeenSo key (Estimate at) was now = now ≡ was
