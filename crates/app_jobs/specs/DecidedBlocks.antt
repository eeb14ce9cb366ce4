-- What files hold after the blocks of a block file were decided, all of them or some.
use Rattle.std.specs.Prelude.{◌≡◌, ◌≢◌, ◌⊎◌, ℕ, List, [], ◌++◌, length, Ok, Err, IsTrue}
use Rattle.file_batch.specs.Counting.{count_of}
use Rattle.file_batch.specs.declared.body_count.BodyCount.{BodyCount}
use Rattle.file_batch.specs.Words.{AreBlocks, AreBlocksOfReplies, BatchFault, FailsBehind, IsBlock, IsBlockFileOf, IsThere, Names, all_messages, block_head_at, block_replies_magic, block_replies_text, block_text, blocks_magic, blocks_text, head_text, is_of_bytes, replies_to_blocks, rows_after_blocks}
use Rattle.book_laws.specs.Reading.{reading}
use Rattle.book_laws.specs.Text.{book_text}
use Rattle.issuer_words.specs.Words.{Frame, Rows, replies_to}
use Rattle.app_jobs.specs.Decided.{Holding, IsBookOf}

-- The book and the blocks that the files held were decided, each block on the book after those before it. Where it is known what files
-- hold, both files were there, the file of the new book holds the text of the book after all blocks, which is read again as that book, and
-- the file of the replies, where it is another, theirs, which are such as a file of replies can have. They are so many, and have so many
-- bodies.
pub record AreBlocksDecided (known : Type 0) (old new : Holding) (names : Names) (count : ℕ) (messages : BodyCount) : Type 0 where
  pub rows : Rows
  pub blocks : List (List Frame)
  pub number : count ≡ length blocks
  pub all : messages ≡ count_of (all_messages blocks)
  pub book_there : known → IsThere old names.book
  pub blocks_there : known → IsThere old names.batch
  pub opening : IsBookOf old names.book rows
  pub read : (bytes : List ℕ) → old names.batch bytes → IsBlockFileOf bytes blocks
  pub back : reading (book_text (rows_after_blocks rows blocks)) ≡ Ok (rows_after_blocks rows blocks)
  pub bodies : AreBlocksOfReplies (replies_to_blocks rows blocks)
  pub after : known → new names.new_book (book_text (rows_after_blocks rows blocks))
  pub answered : known → names.replies ≢ names.new_book → new names.replies (block_replies_text (replies_to_blocks rows blocks))

-- the bytes begin with the head of a file of so many blocks, of which the first ones are these
abbrev pub BeginsWithBlocks : ℕ → List ℕ → List (List Frame) → Type 0
BeginsWithBlocks total bytes blocks =
    (behind : List ℕ) × (left : List ℕ) × (block_head_at blocks_magic bytes ≡ Ok (total, behind)) × AreBlocks behind blocks left

-- behind these blocks reading stops with this fault: in the head, in the next block, or behind the last one
abbrev pub FailsBehindBlocks : ℕ → List ℕ → List (List Frame) → BatchFault → Type 0
FailsBehindBlocks total bytes blocks fault =
    ((blocks ≡ []) × (block_head_at blocks_magic bytes ≡ Err fault))
    ⊎ ((behind : List ℕ) × (left : List ℕ) × (block_head_at blocks_magic bytes ≡ Ok (total, behind))
    × AreBlocks behind blocks left × FailsBehind total (length blocks) left fault)

-- no block is answered, and of the head there is nothing or a beginning
abbrev pub IsBegunHead : ℕ → List (List Frame) → List ℕ → Type 0
IsBegunHead total blocks held = (blocks ≡ []) × (rest : List ℕ) × (head_text block_replies_magic total ≡ held ++ rest)

-- The head, and the replies of these blocks, whole; behind them nothing, or, where writing failed, a beginning of the replies of one block
-- more, which is the file's next.
abbrev pub AreBegunReplies : ℕ → Rows → List (List Frame) → Type 0 → (List Frame → Type 0) → List ℕ → Type 0
AreBegunReplies total rows blocks failed is_next held =
    (begun : List ℕ) × (held ≡ head_text block_replies_magic total ++ blocks_text (replies_to_blocks rows blocks) ++ begun)
    × ((begun ≡ []) ⊎ (failed × (next : List Frame) × is_next next × (rest : List ℕ)
    × (block_text (replies_to (rows_after_blocks rows blocks) next) ≡ begun ++ rest)))

-- behind these blocks of the file that was held, where its bytes are known, stands this one
abbrev pub IsNextOf : Holding → List ℕ → ℕ → List (List Frame) → List Frame → Type 0
IsNextOf old batch total blocks next =
    (bytes : List ℕ) → old batch bytes → (behind : List ℕ) × (left : List ℕ) × (rest : List ℕ)
    × (block_head_at blocks_magic bytes ≡ Ok (total, behind)) × AreBlocks behind blocks left × IsBlock left next rest

-- of the replies of these blocks there is nothing or a beginning of the head, where no block is answered; else all of them, and where
-- writing failed, a beginning of those of the next block
abbrev pub AreRepliesSoFar : Holding → List ℕ → ℕ → Rows → List (List Frame) → Type 0 → List ℕ → Type 0
AreRepliesSoFar old batch total rows blocks failed held =
    IsBegunHead total blocks held ⊎ AreBegunReplies total rows blocks failed (IsNextOf old batch total blocks) held

-- The blocks that the file of this name held were decided on these rows, all of them, and come to these other rows. Their replies are such
-- as a file can have, and where it is known what files hold, they were written.
pub record AreBlocksAnswered (known : Type 0) (old : Holding) (batch : List ℕ) (rows after : Rows) (count : ℕ) (messages : BodyCount) (written : List ℕ) : Type 0 where
  pub blocks : List (List Frame)
  pub number : count ≡ length blocks
  pub all : messages ≡ count_of (all_messages blocks)
  pub book : after ≡ rows_after_blocks rows blocks
  pub bodies : AreBlocksOfReplies (replies_to_blocks rows blocks)
  pub read : (bytes : List ℕ) → old batch bytes → IsBlockFileOf bytes blocks
  pub replied : known → written ≡ block_replies_text (replies_to_blocks rows blocks)

-- The same of some first blocks, so many. Behind them reading stopped with the fault, or memory or a device failed.
pub record AreFirstAnswered (known : Type 0) (old : Holding) (batch : List ℕ) (rows after : Rows) (fault : BatchFault) (count : ℕ) (failed : Type 0) (written : List ℕ) : Type 0 where
  pub blocks : List (List Frame)
  pub number : count ≡ length blocks
  pub total : ℕ
  pub book : after ≡ rows_after_blocks rows blocks
  pub read : (bytes : List ℕ) → old batch bytes → (blocks ≡ []) ⊎ BeginsWithBlocks total bytes blocks
  pub fails : (bytes : List ℕ) → old batch bytes → IsTrue (is_of_bytes fault) → FailsBehindBlocks total bytes blocks fault
  pub replied : known → AreRepliesSoFar old batch total rows blocks failed written

-- Some blocks are kept, so many: the first ones of the block file that was held, each decided on the book after those before it.
-- Behind them reading stopped with the fault, or memory or a device failed. Where it is known what files hold, the file of the new
-- book holds the text of the book after them, and that of the replies, where it is another, theirs.
pub record AreBlocksKept (known : Type 0) (old new : Holding) (names : Names) (failed : Type 0) (fault : BatchFault) (count : ℕ) : Type 0 where
  pub rows : Rows
  pub blocks : List (List Frame)
  pub number : count ≡ length blocks
  pub total : ℕ
  pub book_there : known → IsThere old names.book
  pub blocks_there : known → IsThere old names.batch
  pub opening : IsBookOf old names.book rows
  pub read : (bytes : List ℕ) → old names.batch bytes → (blocks ≡ []) ⊎ BeginsWithBlocks total bytes blocks
  pub fails : (bytes : List ℕ) → old names.batch bytes → IsTrue (is_of_bytes fault) → FailsBehindBlocks total bytes blocks fault
  pub after : known → new names.new_book (book_text (rows_after_blocks rows blocks))
  pub answered : known → names.replies ≢ names.new_book → (held : List ℕ) × new names.replies held
      × AreRepliesSoFar old names.batch total rows blocks failed held
