-- Blocks that are decided one after another.
use Rattle.std.specs.Prelude.{◌≡◌, ◌⊎◌, ◌+◌, ◌<◌, ◌≤◌, ◌^◌, ℕ, List, ◌++◌, length, Ok, Err, IsTrue}
use Rattle.std.specs.List.{AllByRecursion}
use Rattle.issuer_words.specs.Words.{Frame, Rows, replies_to, rows_after}
use Rattle.file_batch.specs.Words.{AreBlocks, AreBlocksOfReplies, AreReplyBodies, BatchFault, FailsBehind, IsBlock, IsBlockFileOf, all_messages, block_head_at, block_replies_magic, block_replies_text, block_text, blocks_magic, blocks_text, head_text, is_of_bytes, replies_to_blocks, rows_after_blocks}
use Rattle.file_batch.specs.Counting.{count_of, plus}
use Rattle.file_batch.specs.Writing.{AppendsPart}
use Rattle.file_batch.specs.declared.body_count.BodyCount.{BodyCount}
use Rattle.file_blocks.specs.declared.kept_blocks.KeptBlocks.{KeptBlocks}

-- These blocks were decided, each on the rows after those before it: so many blocks, so many bodies in them, and the rows after them. Where the
-- bytes are known they were read as these blocks; where it is known what was written, their replies were, and nothing else. Their replies
-- are such as a file can have.
pub record AreDecided (opening rows : Rows) (count : ℕ) (messages : BodyCount) (reads : Type 0) (bytes left : List ℕ) (puts : Type 0) (old new : List ℕ) : Type 0 where
  pub blocks : List (List Frame)
  pub number : length blocks ≡ count
  pub all : count_of (all_messages blocks) ≡ messages
  pub book : rows ≡ rows_after_blocks opening blocks
  pub bodies : AllByRecursion AreReplyBodies (replies_to_blocks opening blocks)
  pub read : reads → AreBlocks bytes blocks left
  pub put : puts → new ≡ old ++ blocks_text (replies_to_blocks opening blocks)

-- one block more was read and decided on these rows, the sink failed, and a beginning of its replies was written
abbrev pub BeginsBlock : Rows → Type 0 → List ℕ → Type 0 → List ℕ → List ℕ → Type 0 → Type 0
BeginsBlock rows reads bytes puts old new failed =
    failed × (block : List Frame) × (left : List ℕ) × (reads → IsBlock bytes block left) × (puts → AppendsPart old new (block_text (replies_to rows block)))

-- So many blocks are kept, whose replies were written whole, with the rows after them; then reading stopped with the fault, or memory or
-- a device failed. Behind their replies nothing was written, or, where the sink failed, a beginning of the next block's replies.
pub record StopsBehind (total : ℕ) (opening rows : Rows) (count : ℕ) (reads : Type 0) (bytes : List ℕ) (puts : Type 0) (old new : List ℕ) (fault : BatchFault) (failed : Type 0) : Type 0 where
  pub messages : BodyCount
  pub left : List ℕ
  pub mid : List ℕ
  pub kept : AreDecided opening rows count messages reads bytes left puts old mid
  pub fails : reads → IsTrue (is_of_bytes fault) → FailsBehind total count left fault
  pub begun : (puts → new ≡ mid) ⊎ BeginsBlock rows reads left puts mid new failed

-- The head can't be read, or memory ran out: nothing is kept and nothing was written.
abbrev pub StopsBefore : Rows → Rows → ℕ → Type 0 → List ℕ → BatchFault → Type 0 → Type 0
StopsBefore opening rows count reads bytes fault same =
    (count ≡ 0) × (rows ≡ opening) × same × (reads → IsTrue (is_of_bytes fault) → block_head_at blocks_magic bytes ≡ Err fault)

-- The head was read, and the sink failed while it took its own head: nothing is kept.
abbrev pub StopsInHead : Rows → Rows → ℕ → Type 0 → List ℕ → Type 0 → List ℕ → List ℕ → Type 0 → Type 0
StopsInHead opening rows count reads bytes puts old new failed =
    (count ≡ 0) × (rows ≡ opening) × failed × (total : ℕ) × (behind : List ℕ)
    × (reads → block_head_at blocks_magic bytes ≡ Ok (total, behind)) × (puts → AppendsPart old new (head_text block_replies_magic total))

-- The head was read, and the sink has its own head, with the input's number of blocks, and what is behind it.
abbrev pub StopsInBlocks : Rows → Rows → ℕ → Type 0 → List ℕ → Type 0 → List ℕ → List ℕ → BatchFault → Type 0 → Type 0
StopsInBlocks opening rows count reads bytes puts old new fault failed =
    (total : ℕ) × (behind : List ℕ) × (reads → block_head_at blocks_magic bytes ≡ Ok (total, behind))
    × StopsBehind total opening rows count reads behind puts (old ++ head_text block_replies_magic total) new fault failed

-- One block was read, decided and answered: one block more is kept, its bodies, and the book after it; and its replies were written.
pub record IsAnswered (before after : KeptBlocks) (reads : Type 0) (bytes left : List ℕ) (puts : Type 0) (old new : List ℕ) : Type 0 where
  pub block : List Frame
  pub number : after.blocks ≡ before.blocks + 1
  pub all : after.messages ≡ plus before.messages (count_of block)
  pub book : after.book ≡ rows_after before.book block
  pub bodies : AreReplyBodies (replies_to before.book block)
  pub read : reads → IsBlock bytes block left
  pub put : puts → new ≡ old ++ block_text (replies_to before.book block)

-- All blocks of a block file were read, decided and answered: so many blocks, so many bodies in them, the rows after them, and a whole reply file.
pub record AreAllDecided (opening rows : Rows) (count : ℕ) (messages : BodyCount) (reads : Type 0) (bytes : List ℕ) (puts : Type 0) (old new : List ℕ) : Type 0 where
  pub blocks : List (List Frame)
  pub number : count ≡ length blocks
  pub all : messages ≡ count_of (all_messages blocks)
  pub book : rows ≡ rows_after_blocks opening blocks
  pub bodies : AreBlocksOfReplies (replies_to_blocks opening blocks)
  pub read : reads → IsBlockFileOf bytes blocks
  pub put : puts → new ≡ old ++ block_replies_text (replies_to_blocks opening blocks)

-- the bodies of one block more can be counted, too
abbrev pub HasRoom : BodyCount → Type 0
HasRoom messages = (messages.bodies + 65536 < 2 ^ 32) × (messages.unreadable + 65536 < 2 ^ 32)

-- no more came to it than a block has
abbrev pub IsWithinBlock : BodyCount → BodyCount → Type 0
IsWithinBlock before after = (after.bodies ≤ before.bodies + 65536) × (after.unreadable ≤ before.unreadable + 65536)
