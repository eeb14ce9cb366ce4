-- Block files that are read whole.
use Rattle.std.specs.Prelude.{◌≡◌, ◌⊎◌, ℕ, List, length, map, Result, Ok, Err, IsTrue}
use Rattle.std.specs.Global.{Vec}
use Rattle.issuer_words.specs.Words.{Frame, ReplyBody}
use Rattle.file_batch.specs.Words.{AreBlocks, AreReplyBlocks, BatchFault, FailsAmongReplies, FailsAsBlockReplies, FailsBehind, FailsInReplyBlock, IsBlockFileOf, IsBlockReplyFileOf, IsReplyBlock, block_head_at, blocks_magic, is_of_bytes}

-- the frames of each block
abbrev pub frames_of : List (Vec Frame) → List (List Frame)
frames_of blocks = map (λ block. block.items) blocks

-- some of so many blocks are read, and then reading stops with this fault
abbrev pub FailsAmong : ℕ → List ℕ → BatchFault → Type 0
FailsAmong count bytes fault = (blocks : List (List Frame)) × (left : List ℕ) × AreBlocks bytes blocks left × FailsBehind count (length blocks) left fault

-- so many blocks, with these bytes left, or the first fault
abbrev pub GivesBlocks : ℕ → List ℕ → Result (Vec (Vec Frame)) BatchFault → List ℕ → Type 0
GivesBlocks count bytes (Ok blocks) left = AreBlocks bytes (frames_of blocks.items) left × (length blocks.items ≡ count)
GivesBlocks count bytes (Err e) left = IsTrue (is_of_bytes e) → FailsAmong count bytes e

-- the blocks of a block file, or its first fault: in the head, in a block, or behind the last one
abbrev pub GivesBlockFile : List ℕ → Result (Vec (Vec Frame)) BatchFault → Type 0
GivesBlockFile bytes (Ok blocks) = IsBlockFileOf bytes (frames_of blocks.items)
GivesBlockFile bytes (Err e) = IsTrue (is_of_bytes e) → (block_head_at blocks_magic bytes ≡ Err e)
    ⊎ ((count : ℕ) × (behind : List ℕ) × (block_head_at blocks_magic bytes ≡ Ok (count, behind)) × FailsAmong count behind e)

-- the replies of each block
abbrev pub replies_of : List (Vec ReplyBody) → List (List ReplyBody)
replies_of blocks = map (λ block. block.items) blocks

-- the replies of a block, with these bytes left, or the first fault; its bodies are counted from one on
abbrev pub GivesReplyBlock : ℕ → List ℕ → Result (Vec ReplyBody) BatchFault → List ℕ → Type 0
GivesReplyBlock from bytes (Ok block) left = IsReplyBlock bytes block.items left
GivesReplyBlock from bytes (Err e) left = IsTrue (is_of_bytes e) → FailsInReplyBlock from bytes e

-- the replies of so many blocks, with these bytes left, or the first fault
abbrev pub GivesReplyBlocks : ℕ → List ℕ → Result (Vec (Vec ReplyBody)) BatchFault → List ℕ → Type 0
GivesReplyBlocks count bytes (Ok blocks) left = AreReplyBlocks bytes (replies_of blocks.items) left × (length blocks.items ≡ count)
GivesReplyBlocks count bytes (Err e) left = IsTrue (is_of_bytes e) → FailsAmongReplies count bytes e

-- the replies of each block of a block file's reply file, or its first fault
abbrev pub GivesBlockReplyFile : List ℕ → Result (Vec (Vec ReplyBody)) BatchFault → Type 0
GivesBlockReplyFile bytes (Ok blocks) = IsBlockReplyFileOf bytes (replies_of blocks.items)
GivesBlockReplyFile bytes (Err e) = IsTrue (is_of_bytes e) → FailsAsBlockReplies bytes e
