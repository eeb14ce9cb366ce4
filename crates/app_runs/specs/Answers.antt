-- What one body is answered, from bytes to bytes.
use Rattle.std.specs.Prelude.{◌≡◌, ℕ, List}
use Rattle.hex.specs.Hex.{encode_lower}
use Rattle.file_batch.specs.Words.{IsFrameOf, reply_spelling}
use Rattle.issuer_words.specs.Words.{Frame, ReplyBody, Rows, fault_body, reply_of}
use Rattle.issuer_rows.specs.declared.reply_body.ReplyBody.TheVariants.{Reply, Fault}

-- a reply's spelling, or how a fault is answered
abbrev pub answer_text : ReplyBody → List ℕ
answer_text (Reply reply) = reply_spelling reply
answer_text (Fault fault) = fault_body fault

-- the text answers the body as the decision table does on these rows
abbrev pub IsAnswerTo : Rows → List ℕ → List ℕ → Type 0
IsAnswerTo rows body text = (frame : Frame) × IsFrameOf body frame × (text ≡ answer_text (reply_of rows frame))

-- the text is that answer in hexadecimal, in small letters
abbrev pub IsAnswerInDigits : Rows → List ℕ → List ℕ → Type 0
IsAnswerInDigits rows body text = (reply : List ℕ) × IsAnswerTo rows body reply × (text ≡ encode_lower reply)
