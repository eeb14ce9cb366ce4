-- Batches, replies and their blocks that files hold.
use Rattle.std.proofs.Common.{◌≡◌, ℕ, List, IsTrue, inl, inr, refl}
use Rattle.issuer_words.specs.Words.{Frame, ReplyBody}
use Rattle.file_batch.specs.Words.{AreBlocksOfReplies, AreReplyBodies, BatchFault, Failing, Holding, IsBatchOf, IsBlockFileOf, IsBlockReplyFileOf, IsReplyFileOf, batch_magic, block_replies_text, bodies_of, is_of_bytes, replies_text}
use Rattle.file_laws.specs.declared.batch_fault.BatchFault.TheVariants as batch
use Rattle.file_laws.proofs.ReadBack.{replies_again, replies_alone}
use Rattle.file_laws.proofs.ReadBackBlocks.{blocks_again, blocks_alone}
use Rattle.app_runs.specs.Words.{IsBatchFault, IsBlockFileFault, IsBlockRepliesFault, IsReplyFileFault, JobFault}
use Rattle.app_jobs.specs.declared.job_fault.JobFault.TheVariants.{Unreadable, Unwritable, InUse, Book, Batch, Journal, Text, Bodies, OutOfMemory}
use Rattle.app_laws.specs.Faults.{IsOfNoFile}
use Rattle.app_laws.proofs.NoFault.{no_block_fault, no_block_reply_fault, no_both, no_reply_fault}
use Rattle.app_laws.proofs.OneReading.{same_batch, same_block_file}

-- a fault that is none of the bytes is the device's, where that may fail, or out of memory
of_no_bytes : (may_fail : Type 0) (fault : BatchFault) → (IsTrue (is_of_bytes fault) → ⊥) → (fault ≡ batch.Device → may_fail) → IsOfNoFile may_fail (Batch fault)
of_no_bytes may_fail batch.Device none device = inr (device refl)
of_no_bytes may_fail batch.OutOfMemory none device = inl tt
of_no_bytes may_fail _ none device = absurd (none refl)

-- ---- a batch

-- the file of this name holds a batch of these frames
pub record HoldsBatch (holds : Holding) (name : List ℕ) (frames : List Frame) : Type 0 where
  pub bytes : List ℕ
  pub held : holds name bytes
  pub is : IsBatchOf bytes frames

pub one_batch : (holds : Holding) (name : List ℕ) (frames others : List Frame) → HoldsBatch holds name frames
    → ((bytes : List ℕ) → holds name bytes → IsBatchOf bytes others) → others ≡ frames
one_batch holds name frames others held is = same_batch held.bytes others frames (is held.bytes held.held) held.is

pub no_batch_fault : (holds : Holding) (failing : Failing) (name : List ℕ) (frames : List Frame) (may_fail : Type 0) (fault : JobFault) → (failing.reading name → may_fail)
    → HoldsBatch holds name frames → IsBatchFault holds failing name fault → IsOfNoFile may_fail fault
no_batch_fault holds failing name frames may_fail (Batch fault) may held h =
    of_no_bytes may_fail fault (λ of_bytes. no_both (bodies_of batch_magic held.bytes) held.is.0 fault held.is.1 (h.0 held.bytes held.held of_bytes))
    (λ device. may (h.1 device))
no_batch_fault holds failing name frames may_fail Unreadable may held h = inr (may (h held.bytes held.held))
no_batch_fault holds failing name frames may_fail Unwritable may held h = absurd h
no_batch_fault holds failing name frames may_fail OutOfMemory may held h = inl tt
no_batch_fault holds failing name frames may_fail InUse may held h = absurd h
no_batch_fault holds failing name frames may_fail (Book fault) may held h = absurd h
no_batch_fault holds failing name frames may_fail (Journal fault) may held h = absurd h
no_batch_fault holds failing name frames may_fail (Text line) may held h = absurd h
no_batch_fault holds failing name frames may_fail (Bodies count) may held h = absurd h

-- ---- replies

-- the file of this name holds these replies, which are such as a file can have
pub record HoldsReplies (holds : Holding) (name : List ℕ) (replies : List ReplyBody) : Type 0 where
  pub held : holds name (replies_text replies)
  pub are : AreReplyBodies replies

pub one_list : (holds : Holding) (name : List ℕ) (replies others : List ReplyBody) → HoldsReplies holds name replies
    → ((bytes : List ℕ) → holds name bytes → IsReplyFileOf bytes others) → others ≡ replies
one_list holds name replies others held is = replies_alone replies others held.are (is (replies_text replies) held.held)

pub no_replies_fault : (holds : Holding) (failing : Failing) (name : List ℕ) (replies : List ReplyBody) (may_fail : Type 0) (fault : JobFault) → (failing.reading name → may_fail)
    → HoldsReplies holds name replies → IsReplyFileFault holds failing name fault → IsOfNoFile may_fail fault
no_replies_fault holds failing name replies may_fail (Batch fault) may held h =
    of_no_bytes may_fail fault (λ of_bytes. no_reply_fault (replies_text replies) replies fault (replies_again replies held.are) (h.0 (replies_text replies) held.held of_bytes))
    (λ device. absurd (h.1 device))
no_replies_fault holds failing name replies may_fail Unreadable may held h = inr (may (h (replies_text replies) held.held))
no_replies_fault holds failing name replies may_fail OutOfMemory may held h = inl tt
no_replies_fault holds failing name replies may_fail Unwritable may held h = absurd h
no_replies_fault holds failing name replies may_fail InUse may held h = absurd h
no_replies_fault holds failing name replies may_fail (Book fault) may held h = absurd h
no_replies_fault holds failing name replies may_fail (Journal fault) may held h = absurd h
no_replies_fault holds failing name replies may_fail (Text line) may held h = absurd h
no_replies_fault holds failing name replies may_fail (Bodies count) may held h = absurd h

-- ---- blocks

-- the file of this name holds these blocks
pub record HoldsBlocks (holds : Holding) (name : List ℕ) (blocks : List (List Frame)) : Type 0 where
  pub bytes : List ℕ
  pub held : holds name bytes
  pub is : IsBlockFileOf bytes blocks

pub one_block_file : (holds : Holding) (name : List ℕ) (blocks others : List (List Frame)) → HoldsBlocks holds name blocks
    → ((bytes : List ℕ) → holds name bytes → IsBlockFileOf bytes others) → others ≡ blocks
one_block_file holds name blocks others held is = same_block_file held.bytes others blocks (is held.bytes held.held) held.is

pub no_blocks_fault : (holds : Holding) (failing : Failing) (name : List ℕ) (blocks : List (List Frame)) (may_fail : Type 0) (fault : JobFault) → (failing.reading name → may_fail)
    → HoldsBlocks holds name blocks → IsBlockFileFault holds failing name fault → IsOfNoFile may_fail fault
no_blocks_fault holds failing name blocks may_fail (Batch fault) may held h =
    of_no_bytes may_fail fault (λ of_bytes. no_block_fault held.bytes blocks fault held.is (h.0 held.bytes held.held of_bytes))
    (λ device. may (h.1 device))
no_blocks_fault holds failing name blocks may_fail Unreadable may held h = inr (may (h held.bytes held.held))
no_blocks_fault holds failing name blocks may_fail Unwritable may held h = absurd h
no_blocks_fault holds failing name blocks may_fail OutOfMemory may held h = inl tt
no_blocks_fault holds failing name blocks may_fail InUse may held h = absurd h
no_blocks_fault holds failing name blocks may_fail (Book fault) may held h = absurd h
no_blocks_fault holds failing name blocks may_fail (Journal fault) may held h = absurd h
no_blocks_fault holds failing name blocks may_fail (Text line) may held h = absurd h
no_blocks_fault holds failing name blocks may_fail (Bodies count) may held h = absurd h

-- the file of this name holds these replies of blocks, which are such as a file can have
pub record HoldsBlockReplies (holds : Holding) (name : List ℕ) (replies : List (List ReplyBody)) : Type 0 where
  pub held : holds name (block_replies_text replies)
  pub are : AreBlocksOfReplies replies

pub one_list_of_blocks : (holds : Holding) (name : List ℕ) (replies others : List (List ReplyBody)) → HoldsBlockReplies holds name replies
    → ((bytes : List ℕ) → holds name bytes → IsBlockReplyFileOf bytes others) → others ≡ replies
one_list_of_blocks holds name replies others held is = blocks_alone replies others held.are (is (block_replies_text replies) held.held)

pub no_block_replies_fault : (holds : Holding) (failing : Failing) (name : List ℕ) (replies : List (List ReplyBody)) (may_fail : Type 0) (fault : JobFault) → (failing.reading name → may_fail)
    → HoldsBlockReplies holds name replies → IsBlockRepliesFault holds failing name fault → IsOfNoFile may_fail fault
no_block_replies_fault holds failing name replies may_fail (Batch fault) may held h =
    of_no_bytes may_fail fault
    (λ of_bytes. no_block_reply_fault (block_replies_text replies) replies fault (blocks_again replies held.are) (h.0 (block_replies_text replies) held.held of_bytes))
    (λ device. absurd (h.1 device))
no_block_replies_fault holds failing name replies may_fail Unreadable may held h = inr (may (h (block_replies_text replies) held.held))
no_block_replies_fault holds failing name replies may_fail OutOfMemory may held h = inl tt
no_block_replies_fault holds failing name replies may_fail Unwritable may held h = absurd h
no_block_replies_fault holds failing name replies may_fail InUse may held h = absurd h
no_block_replies_fault holds failing name replies may_fail (Book fault) may held h = absurd h
no_block_replies_fault holds failing name replies may_fail (Journal fault) may held h = absurd h
no_block_replies_fault holds failing name replies may_fail (Text line) may held h = absurd h
no_block_replies_fault holds failing name replies may_fail (Bodies count) may held h = absurd h
