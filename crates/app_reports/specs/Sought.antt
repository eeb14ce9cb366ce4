-- The messages of a batch that are sought, and their lines.
use Rattle.std.specs.Prelude.{ℕ, ◌+◌, List, [], ◌∷◌, ◌++◌, Bool, false, None, if◌then◌else◌, codes, decimal}
use Rattle.std.specs.Str.{bytes_eq}
use Rattle.issuer_words.specs.Words.{Frame, Transaction}
use Rattle.iso_laws.specs.Messages.{transaction_of}
use Rattle.issuer_rows.specs.declared.frame.Frame.TheVariants.{Good, Bad}
use Rattle.reason_text.specs.Words.{frame_words}
use Rattle.message_text.specs.Lines.{frame_line}
use Rattle.app_words.specs.declared.form.Form.{Form}
use Rattle.app_words.specs.declared.form.Form.TheVariants.{Lines, Json}
use Rattle.app_reports.specs.declared.sought.Sought.{Sought}
use Rattle.app_reports.specs.declared.sought.Sought.TheVariants.{Trace, Card}

-- whether these elements have the trace number, element 11, or the card number, element 2, that is sought
abbrev pub is_met_in : Sought → Transaction → Bool
is_met_in (Trace trace) t = bytes_eq t.stan.0 trace.now
is_met_in (Card card) t = bytes_eq t.pan.0 card.now

-- whether a body is such a message; one that is no message isn't
abbrev pub is_met_by : Sought → Frame → Bool
is_met_by sought (Good message) = is_met_in sought (transaction_of message)
is_met_by sought (Bad fault) = false

-- the line of a message: its place in the batch, and what it says
abbrev pub message_line : ℕ → Frame → List ℕ
message_line place frame = codes "message  " ++ decimal place ++ codes ": " ++ frame_words frame ++ codes "\n"

-- the same in this form: JSON is as a file's messages are shown
abbrev pub told_line : Form → ℕ → Frame → List ℕ
told_line Lines place frame = message_line place frame
told_line (Json cards) place frame = frame_line (record { block = None; index = place }) cards frame

-- the lines of such messages among these bodies, of which the first stands at this place
abbrev pub sought_lines : Form → Sought → ℕ → List Frame → List ℕ
sought_lines form sought place [] = []
sought_lines form sought place (frame ∷ frames) =
    (if is_met_by sought frame then told_line form place frame else []) ++ sought_lines form sought (place + 1) frames
