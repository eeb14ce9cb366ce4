-- Reading a reply file from left to right, with the first fault that is met.
use Rattle.std.specs.Prelude.{◌≡◌, ◌⊎◌, ◌<◌, ◌≤◌, ◌+◌, ℕ, List, length, Result, Ok, Err, IsTrue}
use Rattle.std.specs.Global.{Vec}
use Rattle.std.specs.List.{AllZip, AllByRecursion}
use Rattle.iso_laws.specs.Replies.{IsReply}
use Rattle.issuer_words.specs.Words.{IsOfFrame, ReplyBody, element_of_fault}
use Rattle.issuer_rows.specs.declared.reply_body.ReplyBody.TheVariants.{Reply, Fault}
use Rattle.file_laws.specs.BatchFault.{is_of_bytes}
use Rattle.file_laws.specs.Files.{reply_text}
use Rattle.file_laws.specs.Reading.{body_at, bodies_at, head_at, bodies_of, ended, replies_magic}
use Rattle.file_laws.specs.declared.batch_fault.BatchFault.{BatchFault}
use Rattle.file_laws.specs.declared.batch_fault.BatchFault.TheVariants.{Body}

-- the body is the text of this reply, or of this fault of a body, whose element is a byte
abbrev pub IsReplyText : List ℕ → ReplyBody → Type 0
IsReplyText body (Reply reply) = IsReply reply × (body ≡ reply_text (Reply reply))
IsReplyText body (Fault fault) = IsOfFrame fault × (element_of_fault fault < 256) × (body ≡ reply_text (Fault fault))

-- every reply body that there is: a reply in its ranges, or a fault of a body, whose element is a byte
abbrev pub IsReplyBody : ReplyBody → Type 0
IsReplyBody (Reply reply) = IsReply reply
IsReplyBody (Fault fault) = IsOfFrame fault × (element_of_fault fault < 256)

-- the replies that a file can have
abbrev pub AreReplyBodies : List ReplyBody → Type 0
AreReplyBodies replies = (length replies ≤ 65536) × AllByRecursion IsReplyBody replies

-- a reply for each body, in order
abbrev pub AreRepliesOf : List (List ℕ) → List ReplyBody → Type 0
AreRepliesOf bodies replies = AllZip IsReplyText bodies replies

-- replies of so many bodies, with these bytes left
abbrev pub RepliesAt : ℕ → List ℕ → List ReplyBody → List ℕ → Type 0
RepliesAt count bytes replies left = (bodies : List (List ℕ)) × (bodies_at count bytes ≡ Ok (bodies, left)) × AreRepliesOf bodies replies

-- the body is the text of no reply and of no fault, which is the fault of its number
abbrev pub IsNoReply : ℕ → List ℕ → BatchFault → Type 0
IsNoReply number bytes fault =
    (body : List ℕ) × (left : List ℕ) × (body_at bytes ≡ Ok (body, left)) × ((reply : ReplyBody) → ¬ IsReplyText body reply) × (fault ≡ Body number)

-- some replies are read, and the next of so many bodies has this fault, or is no reply; its number is counted from one on
pub record FailsAt (from count : ℕ) (bytes : List ℕ) (fault : BatchFault) : Type 0 where
  pub number : ℕ
  pub within : number < count
  pub replies : List ReplyBody
  pub left : List ℕ
  pub read : RepliesAt number bytes replies left
  pub next : (body_at left ≡ Err fault) ⊎ IsNoReply (from + number) left fault

-- replies of so many bodies, with these bytes left, or the first fault; the bodies are counted from one on
abbrev pub GivesReplies : ℕ → ℕ → List ℕ → Result (Vec ReplyBody) BatchFault → List ℕ → Type 0
GivesReplies from count bytes (Ok replies) left = RepliesAt count bytes replies.items left
GivesReplies from count bytes (Err e) left = IsTrue (is_of_bytes e) → FailsAt from count bytes e

-- the bytes are a reply file, and these are its replies
abbrev pub IsReplyFileOf : List ℕ → List ReplyBody → Type 0
IsReplyFileOf bytes replies = (bodies : List (List ℕ)) × (bodies_of replies_magic bytes ≡ Ok bodies) × AreRepliesOf bodies replies

-- the first fault is in the head, or in a body, or behind the last one
abbrev pub FailsAsReplies : List ℕ → BatchFault → Type 0
FailsAsReplies bytes fault =
    (head_at replies_magic bytes ≡ Err fault)
    ⊎ ((count : ℕ) × (behind : List ℕ) × (head_at replies_magic bytes ≡ Ok (count, behind))
    × (FailsAt 0 count behind fault ⊎ ((replies : List ReplyBody) × (left : List ℕ) × RepliesAt count behind replies left × (ended left ≡ Err fault))))

-- the replies of a reply file, or its first fault
abbrev pub GivesReplyFile : List ℕ → Result (Vec ReplyBody) BatchFault → Type 0
GivesReplyFile bytes (Ok replies) = IsReplyFileOf bytes replies.items
GivesReplyFile bytes (Err e) = IsTrue (is_of_bytes e) → FailsAsReplies bytes e
