-- A file as lines, by what it holds.
use Rattle.std.specs.Prelude.{◌≡◌, ⊤, ℕ, List, Option, None, Err, IsTrue, take, if◌then◌else◌}
use Rattle.std.specs.Io.KnownBytes.{Appends}
use Rattle.std.specs.Str.{bytes_eq}
use Rattle.file_batch.specs.Words.{BatchFault, Failing, FailsAsBlockReplies, FailsAsReplies, Holding, IsBatchOf, IsBlockFileOf, IsBlockReplyFileOf, IsReplyFileOf, IsThere, batch_magic, block_replies_magic, blocks_magic, bodies_of, is_of_bytes, replies_magic}
use Rattle.issuer_words.specs.Words.{Frame, ReplyBody}
use Rattle.app_jobs.specs.BlockFaults.{FailsAsBlocks}
use Rattle.app_jobs.specs.declared.job_fault.JobFault.{JobFault}
use Rattle.app_jobs.specs.declared.job_fault.JobFault.TheVariants as fault
use Rattle.app_messages.specs.Lines.{block_lines, frame_lines, reply_block_lines, reply_lines}
use Rattle.app_messages.specs.declared.show_asking.ShowAsked.{ShowAsked}
use Rattle.app_messages.specs.declared.show_asking.ShowAsked.TheVariants as asked
use Rattle.app_words.specs.declared.form.Form.{Form}
use Rattle.app_words.specs.declared.form.Form.TheVariants.{Json}
use Rattle.app_reasons.specs.declared.file_kind.FileKind.{FileKind}
use Rattle.app_reasons.specs.declared.file_kind.FileKind.TheVariants.{Batch, Replies, Blocks, BlockReplies}

-- what begins with these letters; what begins with no letters of another file is taken for a batch
abbrev pub kind_named : List ℕ → FileKind
kind_named letters =
    if bytes_eq letters replies_magic then Replies
    else (if bytes_eq letters blocks_magic then Blocks
    else (if bytes_eq letters block_replies_magic then BlockReplies else Batch))

-- what a file holds, by its first four bytes
abbrev pub kind_of : List ℕ → FileKind
kind_of bytes = kind_named (take 4 bytes)

-- the bytes are a file of this kind, and these are its lines
abbrev pub AreLinesAs : Form → FileKind → List ℕ → List ℕ → Type 0
AreLinesAs form Batch bytes text = (frames : List Frame) × IsBatchOf bytes frames × (text ≡ frame_lines form None 0 frames)
AreLinesAs form Replies bytes text = (replies : List ReplyBody) × IsReplyFileOf bytes replies × (text ≡ reply_lines form None 0 replies)
AreLinesAs form Blocks bytes text = (blocks : List (List Frame)) × IsBlockFileOf bytes blocks × (text ≡ block_lines form 0 blocks)
AreLinesAs form BlockReplies bytes text =
    (blocks : List (List ReplyBody)) × IsBlockReplyFileOf bytes blocks × (text ≡ reply_block_lines form 0 blocks)

-- reading the bytes as a file of this kind stops with this fault, the first of them
abbrev pub FailsAs : FileKind → List ℕ → BatchFault → Type 0
FailsAs Batch bytes e = bodies_of batch_magic bytes ≡ Err e
FailsAs Replies bytes e = FailsAsReplies bytes e
FailsAs Blocks bytes e = FailsAsBlocks bytes e
FailsAs BlockReplies bytes e = FailsAsBlockReplies bytes e

-- These are the lines of the file of this name. Where it is known what files hold, it was there.
pub record IsShown (known : Type 0) (holds : Holding) (form : Form) (name text : List ℕ) : Type 0 where
  pub there : known → IsThere holds name
  pub lines : (bytes : List ℕ) → holds name bytes → AreLinesAs form (kind_of bytes) bytes text

-- Why the file of this name is not shown: its first fault, as what it is; a call on it failed; or memory ran out.
abbrev pub IsShowFault : Holding → Failing → List ℕ → JobFault → Type 0
IsShowFault holds failing name (fault.Batch e) = IsTrue (is_of_bytes e) × ((bytes : List ℕ) → holds name bytes → FailsAs (kind_of bytes) bytes e)
IsShowFault holds failing name fault.Unreadable = (bytes : List ℕ) → holds name bytes → failing.reading name
IsShowFault holds failing name fault.OutOfMemory = ⊤
IsShowFault holds failing name e = ⊥

-- What is asked for is said, behind what was said before: of a file its lines.
abbrev pub IsSaid : Type 0 → Holding → ShowAsked → Option (List ℕ) → Option (List ℕ) → Type 0
IsSaid known holds (asked.File name cards) before after = (text : List ℕ) × IsShown known holds (Json cards) name.now text × Appends before after text
IsSaid known holds asked.Help before after = ⊤
IsSaid known holds asked.Wrong before after = ⊥
