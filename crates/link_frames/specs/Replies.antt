-- What is written on a link.
use Rattle.std.specs.Prelude.{ℕ, List, []}
use Rattle.std.specs.List.{flat_map}
use Rattle.iso_laws.specs.Replies.{reply_spelling}
use Rattle.issuer_rows.specs.declared.reply_body.ReplyBody.{ReplyBody}
use Rattle.issuer_rows.specs.declared.reply_body.ReplyBody.TheVariants.{Reply, Fault}
use Rattle.file_laws.specs.Files.{framed}
pub use Rattle.file_devices.specs.Appending.{AppendsPart}

-- a reply's bytes in a frame; a body that is no message gets none
abbrev pub reply_frame : ReplyBody → List ℕ
reply_frame (Reply reply) = framed (reply_spelling reply)
reply_frame (Fault fault) = []

-- the frames of all of them, one behind another
abbrev pub reply_frames : List ReplyBody → List ℕ
reply_frames replies = flat_map reply_frame replies
