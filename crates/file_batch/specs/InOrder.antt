-- A batch that is decided in the order of its messages while it is read.
use Rattle.std.specs.Prelude.{◌≡◌, List, ◌++◌, ℕ, Result, Ok, Err, IsTrue}
use Rattle.std.specs.List.{flat_map, AllByRecursion}
use Rattle.issuer_words.specs.Words.{Frame, ReplyBody, Rows, replies_to, rows_after}
use Rattle.file_laws.specs.BatchFault.{is_of_bytes}
use Rattle.file_laws.specs.Files.{framed, reply_text, replies_text}
use Rattle.file_laws.specs.Frames.{AreFramesOf, IsBatchOf}
use Rattle.file_laws.specs.Reading.{bodies_of, batch_magic}
use Rattle.file_laws.specs.Replies.{IsReplyBody, AreReplyBodies}
use Rattle.file_laws.specs.declared.batch_fault.BatchFault.{BatchFault}
use Rattle.file_batch.specs.Counting.{count_of}
use Rattle.file_batch.specs.declared.in_order.Answered.{Answered}
use Rattle.file_batch.specs.declared.in_order.Decided.{Decided}

-- what stands in a list now are frames of the bodies that reading gives, with these bytes left; or the fault is that of reading
abbrev pub GivesInto : {X : Type 0} → Result X BatchFault → List Frame → List ℕ → Result (List (List ℕ) × List ℕ) BatchFault → Type 0
GivesInto (Ok x) frames left read = (bodies : List (List ℕ)) × (read ≡ Ok (bodies, left)) × AreFramesOf bodies frames
GivesInto (Err e) frames left read = IsTrue (is_of_bytes e) → read ≡ Err e

-- the texts of replies, one behind another, each behind its length
abbrev pub texts_of : List ReplyBody → List ℕ
texts_of replies = flat_map (λ reply. framed (reply_text reply)) replies

-- these replies, each one that a file can have, have their texts behind this head
abbrev pub HasReplies : List ℕ → List ReplyBody → List ℕ → Type 0
HasReplies head replies text = (text ≡ head ++ texts_of replies) × AllByRecursion IsReplyBody replies

-- the count and the book are those of deciding the frames one after another on these rows
abbrev pub IsDecided : Rows → List Frame → Decided → Type 0
IsDecided rows frames decided = (decided.book ≡ rows_after rows frames) × (decided.count ≡ count_of frames)

-- the same, with the text of the reply file, and the replies are such as a file can have
abbrev pub IsAnswered : Rows → List Frame → Answered → Type 0
IsAnswered rows frames answered = IsDecided rows frames answered.decided × (answered.text.items ≡ replies_text (replies_to rows frames)) × AreReplyBodies (replies_to rows frames)

-- bodies were read, where the bytes are known so many and with these bytes left, and their frames decided; or the fault is that of reading
abbrev pub DecidesBodies : Rows → Result Answered BatchFault → Type 0 → List ℕ → Result (List (List ℕ) × List ℕ) BatchFault → Type 0
DecidesBodies rows (Ok answered) known left read = (frames : List Frame) × IsAnswered rows frames answered
    × (known → (bodies : List (List ℕ)) × (read ≡ Ok (bodies, left)) × AreFramesOf bodies frames)
DecidesBodies rows (Err e) known left read = known → IsTrue (is_of_bytes e) → read ≡ Err e

-- a batch was read and decided, or the fault is its first one
abbrev pub DecidesBatch : Rows → Result Answered BatchFault → Type 0 → List ℕ → Type 0
DecidesBatch rows (Ok answered) known bytes = (frames : List Frame) × IsAnswered rows frames answered × (known → IsBatchOf bytes frames)
DecidesBatch rows (Err e) known bytes = known → IsTrue (is_of_bytes e) → bodies_of batch_magic bytes ≡ Err e
