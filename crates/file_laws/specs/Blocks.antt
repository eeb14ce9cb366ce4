-- Block files: lists of blocks, each read as a batch is, decided on the book after those before it, and answered by itself.
use Rattle.std.specs.Prelude.{◌≡◌, ◌⊎◌, ◌<◌, ◌≤◌, ℕ, ◌+◌, List, [], ◌∷◌, ◌++◌, length, Result, Ok, Err, nat_lt, if◌then◌else◌, codes}
use Rattle.std.specs.List.{flat_map, AllZip, AllByRecursion}
use Rattle.byteorder.specs.Endian.{big_bytes}
use Rattle.issuer_words.specs.Words.{Frame, ReplyBody, Rows, replies_to, rows_after}
use Rattle.file_laws.specs.Files.{framed, head_text, reply_text}
use Rattle.file_laws.specs.Frames.{AreFramesOf}
use Rattle.file_laws.specs.Reading.{◌>>=◌, magic_at, version_at, number_at, count_at, bodies_at, ended}
use Rattle.file_laws.specs.Replies.{AreRepliesOf, AreReplyBodies, FailsAt}
use Rattle.file_laws.specs.declared.batch_fault.BatchFault.{BatchFault}
use Rattle.file_laws.specs.declared.batch_fault.BatchFault.TheVariants.{Blocks}

-- the letters of a block file, and of its reply file
abbrev pub blocks_magic : List ℕ
blocks_magic = codes "I83M"

abbrev pub block_replies_magic : List ℕ
block_replies_magic = codes "I83T"

-- how many blocks follow: at most 1,000
unfoldable pub block_count_at : List ℕ → Result (ℕ × List ℕ) BatchFault
block_count_at bytes = do
  count ← number_at 4 bytes
  if nat_lt 1000 count.0 then Err Blocks else Ok count

-- the letters, version 1, and the number of blocks
unfoldable pub block_head_at : List ℕ → List ℕ → Result (ℕ × List ℕ) BatchFault
block_head_at magic bytes = do
  letters ← magic_at magic bytes
  version ← version_at letters.1
  block_count_at version.1

-- a count, and so many bodies
unfoldable pub block_at : List ℕ → Result (List (List ℕ) × List ℕ) BatchFault
block_at bytes = do
  count ← count_at bytes
  bodies_at count.0 count.1

-- these stand one after another, each as it is read, and these bytes are left
abbrev pub InTurn : {A : Type 0} → (List ℕ → A → List ℕ → Type 0) → List ℕ → List A → List ℕ → Type 0
InTurn is bytes [] left = bytes ≡ left
InTurn is bytes (block ∷ blocks) left = (next : List ℕ) × is bytes block next × InTurn is next blocks left

-- the bytes are a file that begins with these letters, and these are its blocks
abbrev pub IsFileInTurn : {A : Type 0} → List ℕ → (List ℕ → A → List ℕ → Type 0) → List ℕ → List A → Type 0
IsFileInTurn magic is bytes blocks = (behind : List ℕ) × (block_head_at magic bytes ≡ Ok (length blocks, behind)) × InTurn is behind blocks []

-- the next block has these frames, and these bytes are left
abbrev pub IsBlock : List ℕ → List Frame → List ℕ → Type 0
IsBlock bytes block left = (bodies : List (List ℕ)) × (block_at bytes ≡ Ok (bodies, left)) × AreFramesOf bodies block

-- the next blocks have these frames, one block after another, and these bytes are left
abbrev pub AreBlocks : List ℕ → List (List Frame) → List ℕ → Type 0
AreBlocks bytes blocks left = InTurn IsBlock bytes blocks left

-- the bytes are a block file, and these are its blocks
abbrev pub IsBlockFileOf : List ℕ → List (List Frame) → Type 0
IsBlockFileOf bytes blocks = IsFileInTurn blocks_magic IsBlock bytes blocks

-- behind some of so many blocks, reading stops with this fault: in the next block, or behind the last one
abbrev pub FailsBehind : ℕ → ℕ → List ℕ → BatchFault → Type 0
FailsBehind count read left fault = ((read < count) × (block_at left ≡ Err fault)) ⊎ ((read ≡ count) × (ended left ≡ Err fault))

-- all replies, in order
abbrev pub all_replies : List (List ReplyBody) → List ReplyBody
all_replies replies = flat_map (λ block. block) replies

-- the next block has these replies, and these bytes are left
abbrev pub IsReplyBlock : List ℕ → List ReplyBody → List ℕ → Type 0
IsReplyBlock bytes block left = (bodies : List (List ℕ)) × (block_at bytes ≡ Ok (bodies, left)) × AreRepliesOf bodies block

-- the next blocks have these replies, one block after another, and these bytes are left
abbrev pub AreReplyBlocks : List ℕ → List (List ReplyBody) → List ℕ → Type 0
AreReplyBlocks bytes blocks left = InTurn IsReplyBlock bytes blocks left

-- the bytes are the reply file of a block file, and these are the replies of each block
abbrev pub IsBlockReplyFileOf : List ℕ → List (List ReplyBody) → Type 0
IsBlockReplyFileOf bytes blocks = IsFileInTurn block_replies_magic IsReplyBlock bytes blocks

-- the next block of replies has this fault: in its count, or in a body; its bodies are counted from one on
abbrev pub FailsInReplyBlock : ℕ → List ℕ → BatchFault → Type 0
FailsInReplyBlock from bytes fault =
    (count_at bytes ≡ Err fault) ⊎ ((count : ℕ) × (behind : List ℕ) × (count_at bytes ≡ Ok (count, behind)) × FailsAt from count behind fault)

-- behind some of so many blocks of replies, reading stops with this fault: in the next block, or behind the last one;
-- bodies are counted over the whole file
abbrev pub FailsBehindReplies : ℕ → List (List ReplyBody) → List ℕ → BatchFault → Type 0
FailsBehindReplies count read left fault =
    ((length read < count) × FailsInReplyBlock (length (all_replies read)) left fault) ⊎ ((length read ≡ count) × (ended left ≡ Err fault))

-- some of so many blocks of replies are read, and then reading stops with this fault
abbrev pub FailsAmongReplies : ℕ → List ℕ → BatchFault → Type 0
FailsAmongReplies count bytes fault = (blocks : List (List ReplyBody)) × (left : List ℕ) × AreReplyBlocks bytes blocks left × FailsBehindReplies count blocks left fault

-- the first fault of the reply file of a block file: in the head, in a block, or behind the last one
abbrev pub FailsAsBlockReplies : List ℕ → BatchFault → Type 0
FailsAsBlockReplies bytes fault =
    (block_head_at block_replies_magic bytes ≡ Err fault)
    ⊎ ((count : ℕ) × (behind : List ℕ) × (block_head_at block_replies_magic bytes ≡ Ok (count, behind)) × FailsAmongReplies count behind fault)

-- how many replies, and the replies
abbrev pub block_text : List ReplyBody → List ℕ
block_text replies = big_bytes 4 (length replies) ++ flat_map (λ reply. framed (reply_text reply)) replies

-- the rows after all blocks, each decided on the rows after those before it
abbrev pub rows_after_blocks : Rows → List (List Frame) → Rows
rows_after_blocks rows [] = rows
rows_after_blocks rows (block ∷ blocks) = rows_after_blocks (rows_after rows block) blocks

-- the replies of each block
abbrev pub replies_to_blocks : Rows → List (List Frame) → List (List ReplyBody)
replies_to_blocks rows [] = []
replies_to_blocks rows (block ∷ blocks) = replies_to rows block ∷ replies_to_blocks (rows_after rows block) blocks

-- their texts, one after another
abbrev pub blocks_text : List (List ReplyBody) → List ℕ
blocks_text replies = flat_map block_text replies

-- all messages, in order
abbrev pub all_messages : List (List Frame) → List Frame
all_messages blocks = flat_map (λ block. block) blocks

-- the reply file of a block file whose blocks have these replies
abbrev pub block_replies_text : List (List ReplyBody) → List ℕ
block_replies_text replies = head_text block_replies_magic (length replies) ++ blocks_text replies

-- the replies of blocks that a file can have
abbrev pub AreBlocksOfReplies : List (List ReplyBody) → Type 0
AreBlocksOfReplies blocks = (length blocks ≤ 1000) × AllByRecursion AreReplyBodies blocks

-- the replies are cut as the blocks are: as many in each as it has messages
abbrev pub AreCutAs : List (List ReplyBody) → List (List Frame) → Type 0
AreCutAs replies blocks = AllZip (λ mine block. length mine ≡ length block) replies blocks
