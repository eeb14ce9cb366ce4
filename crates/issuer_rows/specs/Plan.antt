-- How a message is decided: which rows are looked at, one after another, and the answer with the rows that are written.
use Rattle.std.specs.Prelude.{List, [], ◌∷◌, Option}
use Rattle.issuer_rows.specs.declared.reply_body.ReplyBody.{ReplyBody}
use Rattle.issuer_rows.specs.declared.row_key.RowKey.{RowKey}
use Rattle.issuer_rows.specs.declared.row_val.RowVal.{RowVal}

-- rows that are written, each with its key
abbrev pub Writes : Type 0
Writes = List (RowKey × RowVal)

-- what each row is, or that there is none
abbrev pub Lookup : Type 0
Lookup = RowKey → Option RowVal

-- a decision in steps: an answer, or a row to look at before going on
pub data Plan : Type 0 where
  Answer : ReplyBody → Writes → Plan
  Look : RowKey → (Option RowVal → Plan) → Plan

-- what a decision comes to: the reply, the rows that are written, and the rows that were needed, in their order
pub record Decided : Type 0 where
  pub reply : ReplyBody
  pub writes : Writes
  pub needs : List RowKey

-- a decision that needed one more row before
abbrev pub after_look : RowKey → Decided → Decided
after_look key d = record { reply = d.reply; writes = d.writes; needs = key ∷ d.needs }

-- the plan carried out on rows
abbrev pub carried_out : Plan → Lookup → Decided
carried_out (Answer reply writes) look = record { reply = reply; writes = writes; needs = [] }
carried_out (Look key next) look = after_look key (carried_out (next (look key)) look)
