-- Messages that are decided block by block, as they come.
use Rattle.std.specs.Prelude.{◌≡◌, ◌<◌, ◌≤◌, ◌+◌, ℕ, List, [], ◌++◌, length}
use Rattle.std.specs.List.{AllByRecursion}
use Rattle.issuer_words.specs.Words.{Frame, Rows, replies_to, rows_after}
use Rattle.file_batch.specs.Counting.{count_of, plus}
use Rattle.file_batch.specs.Words.{AreFramesOf, AreReplyBodies, all_messages, block_text, blocks_text, replies_to_blocks, rows_after_blocks}
use Rattle.log_replay.specs.Blocks.{AreBlocksOf}
use Rattle.log_replay.specs.declared.answering.Answering.{Answering}

-- how many messages were taken
abbrev pub taken : Answering → ℕ
taken answering = answering.count.bodies + length answering.block.items

-- so many were taken, and no more of the decided ones are no message than were decided
pub record IsCounted (answering : Answering) : Type 0 where
  pub unreadable : answering.count.unreadable ≤ answering.count.bodies
  pub room : length answering.block.items < 65536

-- the block that was under way is decided and answered, and the next one has no message yet
pub record AnswersBlock (old new : Answering) (puts : Type 0) (had has : List ℕ) : Type 0 where
  pub book : new.prefix.book ≡ rows_after old.prefix.book old.block.items
  pub empty : new.block.items ≡ []
  pub count : new.count ≡ plus old.count (count_of old.block.items)
  pub replied : puts → has ≡ had ++ block_text (replies_to old.prefix.book old.block.items)
  pub bodies : AreReplyBodies (replies_to old.prefix.book old.block.items)

-- Some first messages were taken: those of full blocks are decided on these rows, and their replies were written, this text; the others
-- wait until their block is full.
pub record HasTaken (rows : Rows) (messages : List Frame) (text : List ℕ) (answering : Answering) : Type 0 where
  pub blocks : List (List Frame)
  pub full : AllByRecursion (λ block. length block ≡ 65536) blocks
  pub are : messages ≡ all_messages blocks ++ answering.block.items
  pub book : answering.prefix.book ≡ rows_after_blocks rows blocks
  pub count : answering.count ≡ count_of (all_messages blocks)
  pub replied : text ≡ blocks_text (replies_to_blocks rows blocks)
  pub bodies : AllByRecursion AreReplyBodies (replies_to_blocks rows blocks)

-- All messages are decided on these rows in blocks of 65,536, with the book after them, and their replies were written, this text.
pub record AreAnswered (rows : Rows) (messages : List Frame) (text : List ℕ) (answering : Answering) : Type 0 where
  pub blocks : List (List Frame)
  pub cut : AreBlocksOf messages blocks
  pub book : answering.prefix.book ≡ rows_after_blocks rows blocks
  pub count : answering.count ≡ count_of messages
  pub replied : text ≡ blocks_text (replies_to_blocks rows blocks)
  pub bodies : AllByRecursion AreReplyBodies (replies_to_blocks rows blocks)

-- these messages more were taken
abbrev pub Takes : Answering → Answering → List Frame → Type 0 → List ℕ → List ℕ → Type 0
Takes old new more puts had has =
    (rows : Rows) (messages : List Frame) (text : List ℕ) → HasTaken rows messages text old
    → (written : List ℕ) × HasTaken rows (messages ++ more) (text ++ written) new × (puts → has ≡ had ++ written)

-- the last block was answered, where it has a message
abbrev pub Finishes : Answering → Answering → Type 0 → List ℕ → List ℕ → Type 0
Finishes old new puts had has =
    (rows : Rows) (messages : List Frame) (text : List ℕ) → HasTaken rows messages text old
    → (written : List ℕ) × AreAnswered rows messages (text ++ written) new × (puts → has ≡ had ++ written)

-- the messages of so many first bodies were taken, and these bodies are left
pub record TakesFirst (bodies left : List (List ℕ)) (number : ℕ) (old new : Answering) (puts : Type 0) (had has : List ℕ) : Type 0 where
  pub front : List (List ℕ)
  pub messages : List Frame
  pub count : length front ≡ number
  pub are : bodies ≡ front ++ left
  pub spelled : AreFramesOf front messages
  pub takes : Takes old new messages puts had has
  pub total : taken new ≡ taken old + number
  pub counted : IsCounted new
