-- What is told of a file: that its first fault stands at this place.
use Rattle.std.specs.Prelude.{◌≡◌, ℕ, List, IsOk}
use Rattle.issuer_rows.specs.declared.reply_body.ReplyBody.{ReplyBody}
use Rattle.file_laws.specs.Blocks.{blocks_magic, block_replies_magic}
use Rattle.file_laws.specs.Reading.{bodies_of, batch_magic, replies_magic}
use Rattle.file_laws.specs.Replies.{IsReplyFileOf}
use Rattle.file_laws.specs.declared.batch_fault.BatchFault.{BatchFault}
use Rattle.file_laws.specs.declared.batch_fault.BatchFault.TheVariants.{Trailing}
use Rattle.file_listing.specs.Places.{IsBatchPlace, IsBlocksPlace, IsUnread, IsWholeBlockFile, fault_of_batch, fault_of_blocks}
use Rattle.file_listing.specs.declared.batch_place.BatchPlace.TheVariants as batch
use Rattle.file_listing.specs.declared.blocks_place.BlocksPlace.TheVariants as blocks
use Rattle.file_listing.specs.declared.body_kind.BodyKind.{BodyKind}
use Rattle.file_listing.specs.declared.body_kind.BodyKind.TheVariants.{Message, Reply}
use Rattle.iso_shown.specs.Opening.{opening_of}
use Rattle.app_reasons.specs.declared.file_kind.FileKind.{FileKind}
use Rattle.app_reasons.specs.declared.file_kind.FileKind.TheVariants as kind
use Rattle.app_reasons.specs.declared.reason.Reason.{Reason}
use Rattle.app_reasons.specs.declared.reason.Reason.TheVariants.{Head, Body, Block, Behind, Unread}

-- the letters that a file begins with
abbrev pub letters_of : FileKind → List ℕ
letters_of kind.Batch = batch_magic
letters_of kind.Replies = replies_magic
letters_of kind.Blocks = blocks_magic
letters_of kind.BlockReplies = block_replies_magic

-- the first fault of a file of bodies is this one, and it stands where it is told
abbrev pub SaysOfBodies : List ℕ → BodyKind → List ℕ → BatchFault → Reason → Type 0
SaysOfBodies magic kind file fault (Head words) =
    IsBatchPlace magic kind file (batch.Head words.wrong) × (fault ≡ fault_of_batch (batch.Head words.wrong))
SaysOfBodies magic kind file fault (Body words) = IsBatchPlace magic kind file (batch.Body words.0) × (fault ≡ fault_of_batch (batch.Body words.0))
SaysOfBodies magic kind file fault (Behind end more) = IsBatchPlace magic kind file (batch.Behind end more) × (fault ≡ Trailing)
SaysOfBodies magic kind file fault _ = ⊥

-- the same of a file of blocks
abbrev pub SaysOfBlocks : List ℕ → BodyKind → List ℕ → BatchFault → Reason → Type 0
SaysOfBlocks magic kind file fault (Head words) =
    IsBlocksPlace magic kind file (blocks.Head words.wrong) × (fault ≡ fault_of_blocks (blocks.Head words.wrong))
SaysOfBlocks magic kind file fault (Block words) = IsBlocksPlace magic kind file (blocks.Block words.0) × (fault ≡ fault_of_blocks (blocks.Block words.0))
SaysOfBlocks magic kind file fault (Behind end more) = IsBlocksPlace magic kind file (blocks.Behind end more) × (fault ≡ Trailing)
SaysOfBlocks magic kind file fault _ = ⊥

-- the first fault of a file that is to be of this kind is this one, and it stands where it is told
abbrev pub Says : FileKind → List ℕ → BatchFault → Reason → Type 0
Says kind.Batch file fault reason = SaysOfBodies batch_magic Message file fault reason
Says kind.Replies file fault reason = SaysOfBodies replies_magic Reply file fault reason
Says kind.Blocks file fault reason = SaysOfBlocks blocks_magic Message file fault reason
Says kind.BlockReplies file fault reason = SaysOfBlocks block_replies_magic Reply file fault reason

-- the file is of this kind, and has no fault
abbrev pub IsFileOf : FileKind → List ℕ → Type 0
IsFileOf kind.Batch file = IsOk (bodies_of batch_magic file)
IsFileOf kind.Replies file = (replies : List ReplyBody) × IsReplyFileOf file replies
IsFileOf kind.Blocks file = IsWholeBlockFile blocks_magic Message file
IsFileOf kind.BlockReplies file = IsWholeBlockFile block_replies_magic Reply file

-- the body that is told is the batch's first that is no message, with its fault and how it begins
abbrev pub SaysUnread : List ℕ → Reason → Type 0
SaysUnread file (Unread words) = (body : List ℕ) × IsUnread file words.unread body × (words.opening ≡ opening_of body)
SaysUnread file _ = ⊥
