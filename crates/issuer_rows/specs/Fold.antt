-- Bodies decided one after another, in the order of their arrival.
use Rattle.std.specs.Prelude.{List, [], ◌∷◌}
use Rattle.std.specs.FinMap as map
use Rattle.issuer_rows.specs.Decision.{decision}
use Rattle.issuer_rows.specs.Plan.{Writes}
use Rattle.issuer_rows.specs.RowKey.{key_cmp}
use Rattle.issuer_rows.specs.declared.frame.Frame.{Frame}
use Rattle.issuer_rows.specs.declared.reply_body.ReplyBody.{ReplyBody}
use Rattle.issuer_rows.specs.declared.row_val.RowVal.{RowVal}

-- a book as a finite map
abbrev pub Rows : Type 0
Rows = map.FinMap key_cmp RowVal

-- the rows with these written over them
abbrev pub overlay : Rows → Writes → Rows
overlay rows [] = rows
overlay rows (w ∷ ws) = overlay (map.insert rows w.0 w.1) ws

-- the reply to one body on these rows
abbrev pub reply_of : Rows → Frame → ReplyBody
reply_of rows frame = (decision (map.get rows) frame).reply

-- the rows that one body writes on these rows
abbrev pub writes_of : Rows → Frame → Writes
writes_of rows frame = (decision (map.get rows) frame).writes

-- the rows after one body
abbrev pub rows_after_one : Rows → Frame → Rows
rows_after_one rows frame = overlay rows (writes_of rows frame)

-- the rows after all of them
abbrev pub rows_after : Rows → List Frame → Rows
rows_after rows [] = rows
rows_after rows (frame ∷ frames) = rows_after (rows_after_one rows frame) frames

-- the replies to all of them, each on the rows after those before it
abbrev pub replies_to : Rows → List Frame → List ReplyBody
replies_to rows [] = []
replies_to rows (frame ∷ frames) = reply_of rows frame ∷ replies_to (rows_after_one rows frame) frames
