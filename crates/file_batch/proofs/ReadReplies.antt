-- Why not all replies are read.
use Rattle.std.proofs.Common.{◌≡◌, ℕ, ◌+◌, ◌<◌, List, Ok, Err, inl, inr}
use Rattle.issuer_rows.specs.declared.reply_body.ReplyBody.{ReplyBody}
use Rattle.std.specs.Prelude.{IsTrue}
use Rattle.file_laws.specs.BatchFault.{is_of_bytes}
use Rattle.file_laws.specs.Reading.{body_at}
use Rattle.file_laws.specs.Replies.{IsReplyText, RepliesAt, FailsAt}
use Rattle.file_laws.specs.declared.batch_fault.BatchFault.{BatchFault}
use Rattle.file_laws.specs.declared.batch_fault.BatchFault.TheVariants.{Body}

-- the next body can't be read
pub fails_in_body : (from count n : ℕ) (bytes : List ℕ) (replies : List ReplyBody) (left : List ℕ) (e : BatchFault) → n < count → RepliesAt n bytes replies left
    → (IsTrue (is_of_bytes e) → body_at left ≡ Err e) → IsTrue (is_of_bytes e) → FailsAt from count bytes e
fails_in_body from count n bytes replies left e lt so_far fails of_bytes =
    record { number = n; within = lt; replies = replies; left = left; read = so_far; next = inl (fails of_bytes) }

-- the next body is no reply
pub fails_in_text : (from count n : ℕ) (bytes : List ℕ) (replies : List ReplyBody) (left body after : List ℕ) (e : BatchFault) → n < count → RepliesAt n bytes replies left
    → body_at left ≡ Ok (body, after) → ((reply : ReplyBody) → ¬ IsReplyText body reply) → e ≡ Body (from + n) → FailsAt from count bytes e
fails_in_text from count n bytes replies left body after e lt so_far next none is =
    record { number = n; within = lt; replies = replies; left = left; read = so_far; next = inr (body, after, next, none, is) }
