-- Why blocks are not all decided, or not audited: the first fault of what a file holds, where its bytes are known; that a call failed, on a
-- file of which calls may fail; or out of memory.
use Rattle.std.specs.Prelude.{◌≡◌, ◌≢◌, ◌⊎◌, ◌<◌, ℕ, List, Ok, Err, IsTrue}
use Rattle.file_batch.specs.Counting.{count_of}
use Rattle.file_batch.specs.declared.strictness.Strictness.{Strictness}
use Rattle.file_batch.specs.declared.strictness.Strictness.TheVariants.{Strict}
use Rattle.file_blocks.specs.BlockFiles.{FailsAmong}
use Rattle.file_batch.specs.Words.{BatchFault, Failing, FailsAsBlockReplies, IsBlockFileOf, IsBlockReplyFileOf, Names, all_messages, block_head_at, blocks_magic, is_of_bytes}
use Rattle.file_laws.specs.declared.batch_fault.BatchFault.TheVariants.{Device}
use Rattle.issuer_words.specs.Words.{Frame, ReplyBody}
use Rattle.app_jobs.specs.Decided.{Holding}
use Rattle.app_jobs.specs.Faults.{IsBookFault, IsPuttingFault, IsSomeBook, IsWritingFaultOf, MayNotBeAnswered}
use Rattle.app_jobs.specs.declared.job_fault.JobFault.{JobFault}
use Rattle.app_jobs.specs.declared.job_fault.JobFault.TheVariants.{Unreadable, Batch, Bodies, OutOfMemory}

-- the first fault of a block file: in the head, in a block, or behind the last one
abbrev pub FailsAsBlocks : List ℕ → BatchFault → Type 0
FailsAsBlocks bytes fault =
    (block_head_at blocks_magic bytes ≡ Err fault)
    ⊎ ((count : ℕ) × (behind : List ℕ) × (block_head_at blocks_magic bytes ≡ Ok (count, behind)) × FailsAmong count behind fault)

-- Why the file of this name gives no blocks, or not all: its first fault; a call on it failed; or memory ran out.
abbrev pub IsBlockFileFault : Holding → Failing → List ℕ → JobFault → Type 0
IsBlockFileFault old failing name (Batch fault) =
    ((bytes : List ℕ) → old name bytes → IsTrue (is_of_bytes fault) → FailsAsBlocks bytes fault)
    × (fault ≡ Device → failing.reading name)
IsBlockFileFault old failing name Unreadable = (bytes : List ℕ) → old name bytes → failing.reading name
IsBlockFileFault old failing name OutOfMemory = Unit {0}
IsBlockFileFault _ _ _ _ = ⊥

-- Why not all blocks are answered: the block file isn't read whole, or the file of the replies isn't written.
abbrev pub IsBlocksReplyingFault : Holding → Failing → Names → JobFault → Type 0
IsBlocksReplyingFault old failing names fault =
    IsBlockFileFault old failing names.batch fault ⊎ IsWritingFaultOf failing names.replies fault

-- the file of this name, where its bytes are known, is some block file
abbrev pub IsSomeBlockFile : Holding → List ℕ → Type 0
IsSomeBlockFile old name = (blocks : List (List Frame)) × ((bytes : List ℕ) → old name bytes → IsBlockFileOf bytes blocks)

-- why blocks are refused that could be decided: so many of their bodies are no message, where each has to be one
abbrev pub IsStrictBlocksFault : Strictness → Holding → List ℕ → JobFault → Type 0
IsStrictBlocksFault Strict old batch (Bodies count) =
    (0 < count) × (blocks : List (List Frame)) × (count ≡ (count_of (all_messages blocks)).unreadable)
    × ((bytes : List ℕ) → old batch bytes → IsBlockFileOf bytes blocks)
IsStrictBlocksFault _ _ _ _ = ⊥

-- Why not all blocks are decided: the first fault of the book; or, behind a sound book, that not all blocks are answered; or, behind both,
-- that a file is not written or not put in its place, or that the blocks are refused.
abbrev pub IsBlocksFault : Strictness → Holding → Failing → Names → JobFault → Type 0
IsBlocksFault strictness old failing names fault =
    IsBookFault old failing names.book fault
    ⊎ (IsSomeBook old names.book × (IsBlocksReplyingFault old failing names fault
    ⊎ ((IsSomeBlockFile old names.batch × IsPuttingFault (MayNotBeAnswered failing names) fault)
    ⊎ IsStrictBlocksFault strictness old names.batch fault)))

-- Why the file of this name gives no replies of blocks: its first fault; a call on it failed; or memory ran out.
abbrev pub IsBlockRepliesFault : Holding → Failing → List ℕ → JobFault → Type 0
IsBlockRepliesFault old failing name (Batch fault) =
    ((bytes : List ℕ) → old name bytes → IsTrue (is_of_bytes fault) → FailsAsBlockReplies bytes fault) × (fault ≢ Device)
IsBlockRepliesFault old failing name Unreadable = (bytes : List ℕ) → old name bytes → failing.reading name
IsBlockRepliesFault old failing name OutOfMemory = Unit {0}
IsBlockRepliesFault _ _ _ _ = ⊥

-- the file of this name, where its bytes are known, is some file of replies of blocks
abbrev pub IsSomeBlockReplies : Holding → List ℕ → Type 0
IsSomeBlockReplies old name = (answers : List (List ReplyBody)) × ((bytes : List ℕ) → old name bytes → IsBlockReplyFileOf bytes answers)

-- Why an audit of blocks finds nothing behind a sound book and block file: the first fault of the replies or of the new book; or a call on
-- that file failed; or memory ran out.
abbrev pub IsBlockAnswersFault : Holding → Failing → Names → JobFault → Type 0
IsBlockAnswersFault old failing names fault =
    IsBlockRepliesFault old failing names.replies fault
    ⊎ (IsSomeBlockReplies old names.replies × (IsBookFault old failing names.new_book fault
    ⊎ (IsSomeBook old names.new_book × (fault ≡ OutOfMemory))))

-- Why an audit of blocks finds nothing: the first fault of the book, of the block file, of the replies or of the new book, where those
-- before it in this order have none; or a call on that file failed; or memory ran out.
abbrev pub IsBlockAuditingFault : Holding → Failing → Names → JobFault → Type 0
IsBlockAuditingFault old failing names fault =
    IsBookFault old failing names.book fault
    ⊎ (IsSomeBook old names.book × (IsBlockFileFault old failing names.batch fault
    ⊎ (IsSomeBlockFile old names.batch × IsBlockAnswersFault old failing names fault)))
