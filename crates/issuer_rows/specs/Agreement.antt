-- When a decision that was made from a few rows is the decision on a whole book.
use Rattle.std.specs.Prelude.{◌≡◌, List, map, Option, Contains}
use Rattle.std.specs.List.{AllByRecursion}
use Rattle.issuer_rows.specs.Decision.{decision}
use Rattle.issuer_rows.specs.Plan.{Writes, Lookup, Decided}
use Rattle.issuer_rows.specs.declared.frame.Frame.{Frame}
use Rattle.issuer_rows.specs.declared.reply_body.ReplyBody.{ReplyBody}
use Rattle.issuer_rows.specs.declared.row_key.RowKey.{RowKey}
use Rattle.issuer_rows.specs.declared.row_val.RowVal.{RowVal}

-- rows that were read, each with its value or that it was absent, in the order of reading
abbrev pub Reads : Type 0
Reads = List (RowKey × Option RowVal)

-- the rows that were read
abbrev pub keys_read : Reads → List RowKey
keys_read reads = map (λ read. read.0) reads

-- each row that was read is as it was read, absent rows too
abbrev pub Agrees : Reads → Lookup → Type 0
Agrees reads look = AllByRecursion (λ read. look read.0 ≡ read.1) reads

-- each of these rows was read
abbrev pub AreRead : List RowKey → Reads → Type 0
AreRead keys reads = AllByRecursion (Contains (keys_read reads)) keys

-- a decision came to this reply and these rows, and needed no row but those that were read
abbrev pub ComesTo : Decided → Reads → Writes → ReplyBody → Type 0
ComesTo d reads writes reply = (d.reply ≡ reply) × (d.writes ≡ writes) × AreRead d.needs reads

-- On all rows that agree with these reads, the frame gets this reply and writes these rows, and no other row is needed.
abbrev pub IsLocal : Frame → Reads → Writes → ReplyBody → Type 0
IsLocal frame reads writes reply = (look : Lookup) → Agrees reads look → ComesTo (decision look frame) reads writes reply

-- a decision that was made: of which frame, from which reads, and what it came to
pub record Executed : Type 0 where
  pub frame : Frame
  pub reads : Reads
  pub writes : Writes
  pub reply : ReplyBody

-- what was decided is what the table gives on all rows that agree with the reads
abbrev pub IsTrueExecution : Executed → Type 0
IsTrueExecution e = IsLocal e.frame e.reads e.writes e.reply
