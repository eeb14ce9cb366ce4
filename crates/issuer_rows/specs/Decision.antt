-- What a body of a batch is answered, and which rows it writes.
use Rattle.std.specs.Prelude.{[]}
use Rattle.iso8583.specs.declared.message.Message.{Message}
use Rattle.iso8583.specs.declared.message.Message.TheVariants as message
use Rattle.issuer_rows.specs.AdviceTable.{advice_plan}
use Rattle.issuer_rows.specs.Plan.{Plan, Answer, Lookup, Decided, carried_out}
use Rattle.issuer_rows.specs.RequestTable.{request_plan}
use Rattle.issuer_rows.specs.ReversalTable.{reversal_plan}
use Rattle.issuer_rows.specs.declared.frame.Frame.{Frame}
use Rattle.issuer_rows.specs.declared.frame.Frame.TheVariants.{Good, Bad}
use Rattle.issuer_rows.specs.declared.reply_body.ReplyBody.TheVariants.{Fault}

-- each kind of message has its table
abbrev pub message_plan : Message → Plan
message_plan (message.Request r) = request_plan r
message_plan (message.Advice a) = advice_plan a
message_plan (message.Reversal r) = reversal_plan r

-- a message is decided by its table; a body that is no message is answered its fault, and changes nothing
abbrev pub plan_of : Frame → Plan
plan_of (Good m) = message_plan m
plan_of (Bad fault) = Answer (Fault fault) []

-- reply, rows that are written, and needed rows, on these rows
unfoldable pub decision : Lookup → Frame → Decided
decision look frame = carried_out (plan_of frame) look
