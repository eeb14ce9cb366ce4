-- Where the first fault of a file stands. Bytes are counted from 0 at the beginning of the file, bodies and blocks from 0.
use Rattle.std.specs.Prelude.{◌≡◌, ◌<◌, ◌≤◌, ◌+◌, ℕ, List, drop, length, Ok, Err, ⊤}
use Rattle.std.specs.List.{AllByRecursion}
use Rattle.issuer_words.specs.Words.{Message, ReplyBody}
use Rattle.iso_laws.specs.Messages.{Spells}
use Rattle.iso_laws.specs.Reading.{reading}
use Rattle.iso_laws.specs.Types.{taken_in}
use Rattle.file_laws.specs.Blocks.{InTurn, block_at, block_head_at}
use Rattle.file_laws.specs.Reading.{batch_magic, field_at, number_at, magic_at, version_at, count_at, head_at, body_at, bodies_at}
use Rattle.file_laws.specs.Replies.{IsReplyText}
use Rattle.file_laws.specs.declared.batch_fault.BatchFault.{BatchFault}
use Rattle.file_laws.specs.declared.batch_fault.BatchFault.TheVariants as fault
use Rattle.file_listing.specs.declared.batch_place.BatchPlace.{BatchPlace}
use Rattle.file_listing.specs.declared.batch_place.BatchPlace.TheVariants as batch
use Rattle.file_listing.specs.declared.block_place.BlockPlace.{BlockPlace}
use Rattle.file_listing.specs.declared.blocks_place.BlocksPlace.{BlocksPlace}
use Rattle.file_listing.specs.declared.blocks_place.BlocksPlace.TheVariants as blocks
use Rattle.file_listing.specs.declared.body_kind.BodyKind.{BodyKind}
use Rattle.file_listing.specs.declared.body_kind.BodyKind.TheVariants as body_kind
use Rattle.file_listing.specs.declared.body_place.BodyPlace.{BodyPlace}
use Rattle.file_listing.specs.declared.head_fault.HeadFault.{HeadFault}
use Rattle.file_listing.specs.declared.head_fault.HeadFault.TheVariants as head
use Rattle.file_listing.specs.declared.unread_body.UnreadBody.{UnreadBody}
use Rattle.file_listing.specs.declared.wrong_block.WrongBlock.{WrongBlock}
use Rattle.file_listing.specs.declared.wrong_block.WrongBlock.TheVariants as wrong_block
use Rattle.file_listing.specs.declared.wrong_body.WrongBody.{WrongBody}
use Rattle.file_listing.specs.declared.wrong_body.WrongBody.TheVariants as wrong

-- these bytes, so many, stand at this byte of the file
abbrev pub IsFieldAt : List ℕ → ℕ → ℕ → List ℕ → Type 0
IsFieldAt file at size bytes = (at + size ≤ length file) × (field_at size (drop at file) ≡ Ok (bytes, drop (at + size) file))

-- this number of so many bytes stands at this byte of the file
abbrev pub IsNumberAt : List ℕ → ℕ → ℕ → ℕ → Type 0
IsNumberAt file at size number = (at + size ≤ length file) × (number_at size (drop at file) ≡ Ok (number, drop (at + size) file))

-- the body spells a message
abbrev pub IsMessageText : List ℕ → Type 0
IsMessageText body = (message : Message) × Spells body message

-- ---- the head, which has 10 bytes

-- the file begins with these letters and version 1
abbrev pub HasLetters : List ℕ → List ℕ → Type 0
HasLetters magic file = (6 ≤ length file) × (magic_at magic file ≡ Ok (magic, drop 4 file)) × (version_at (drop 4 file) ≡ Ok (1, drop 6 file))

-- the head of a file of bodies announces so many
abbrev pub IsHead : List ℕ → List ℕ → ℕ → Type 0
IsHead magic file count = (10 ≤ length file) × (head_at magic file ≡ Ok (count, drop 10 file))

-- the head of a file of blocks announces so many
abbrev pub IsBlockHead : List ℕ → List ℕ → ℕ → Type 0
IsBlockHead magic file count = (10 ≤ length file) × (block_head_at magic file ≡ Ok (count, drop 10 file))

-- the fault of a head; more than are allowed of what it announces is this one
abbrev pub fault_of_head : BatchFault → HeadFault → BatchFault
fault_of_head many head.Letters = fault.Magic
fault_of_head many (head.Version version) = fault.Version
fault_of_head many (head.TooMany count) = many
fault_of_head many head.Ends = fault.Ended

-- the version stands at byte 4, what is announced at byte 6
abbrev pub StandsInHead : List ℕ → HeadFault → Type 0
StandsInHead file head.Letters = ⊤
StandsInHead file (head.Version version) = IsNumberAt file 4 2 version
StandsInHead file (head.TooMany count) = IsNumberAt file 6 4 count
StandsInHead file head.Ends = ⊤

-- the first fault of the head of a file of bodies
abbrev pub IsHeadFault : List ℕ → List ℕ → HeadFault → Type 0
IsHeadFault magic file wrong = (head_at magic file ≡ Err (fault_of_head fault.Count wrong)) × StandsInHead file wrong

-- the same of a file of blocks
abbrev pub IsBlockHeadFault : List ℕ → List ℕ → HeadFault → Type 0
IsBlockHeadFault magic file wrong = (block_head_at magic file ≡ Err (fault_of_head fault.Blocks wrong)) × StandsInHead file wrong

-- ---- bodies

-- any bytes may be sent as a message; a reply is the text of one, or of a fault
abbrev pub IsBodyOf : BodyKind → List ℕ → Type 0
IsBodyOf body_kind.Message body = ⊤
IsBodyOf body_kind.Reply body = (reply : ReplyBody) × IsReplyText body reply

-- this body stands behind its length, which begins at this byte of the file
abbrev pub IsFramedAt : List ℕ → ℕ → List ℕ → Type 0
IsFramedAt file at body =
    (at + 2 + length body ≤ length file) × (body_at (drop at file) ≡ Ok (body, drop (at + 2 + length body) file))

-- a body of this kind stands between these two bytes of the file
abbrev pub IsBodyAt : BodyKind → List ℕ → ℕ → ℕ → Type 0
IsBodyAt kind file at end =
    (end ≤ length file) × ((body : List ℕ) × (body_at (drop at file) ≡ Ok (body, drop end file)) × IsBodyOf kind body)

-- so many bodies of this kind stand between these two bytes of the file
pub record AreBodies (kind : BodyKind) (file : List ℕ) (from count end : ℕ) : Type 0 where
  pub inside : end ≤ length file
  pub bodies : List (List ℕ)
  pub read : bodies_at count (drop from file) ≡ Ok (bodies, drop end file)
  pub are : AllByRecursion (IsBodyOf kind) bodies

-- why no body of this kind begins at this byte of the file
abbrev pub IsWrongBody : BodyKind → List ℕ → ℕ → WrongBody → Type 0
IsWrongBody kind file at (wrong.Length size) = (body_at (drop at file) ≡ Err fault.Length) × IsNumberAt file at 2 size
IsWrongBody kind file at wrong.Ends = body_at (drop at file) ≡ Err fault.Ended
IsWrongBody kind file at wrong.NoReply =
    (body : List ℕ) × (left : List ℕ) × (body_at (drop at file) ≡ Ok (body, left)) × ¬ IsBodyOf kind body

-- of the bodies from this byte on, this one is the first that is wrong
pub record IsBodyPlace (kind : BodyKind) (file : List ℕ) (from : ℕ) (place : BodyPlace) : Type 0 where
  pub within : place.number < place.of
  pub whole : AreBodies kind file from place.number place.at
  pub wrong : IsWrongBody kind file place.at place.wrong

-- the fault of a body that is wrong, which has this number
abbrev pub fault_of_body : ℕ → WrongBody → BatchFault
fault_of_body number (wrong.Length size) = fault.Length
fault_of_body number wrong.Ends = fault.Ended
fault_of_body number wrong.NoReply = fault.Body number

-- ---- files of bodies

-- the file begins with these letters, and has the bodies that it announces and no more
abbrev pub IsWholeFile : List ℕ → BodyKind → List ℕ → Type 0
IsWholeFile magic kind file = (count : ℕ) × IsHead magic file count × AreBodies kind file 10 count (length file)

-- this is the first fault of the file: in its head, in a body, or behind the last one
abbrev pub IsBatchPlace : List ℕ → BodyKind → List ℕ → BatchPlace → Type 0
IsBatchPlace magic kind file (batch.Head wrong) = IsHeadFault magic file wrong
IsBatchPlace magic kind file (batch.Body place) = IsHead magic file place.of × IsBodyPlace kind file 10 place
IsBatchPlace magic kind file (batch.Behind end more) =
    (0 < more) × (end + more ≡ length file) × ((count : ℕ) × IsHead magic file count × AreBodies kind file 10 count end)

-- which fault stands there
abbrev pub fault_of_batch : BatchPlace → BatchFault
fault_of_batch (batch.Head wrong) = fault_of_head fault.Count wrong
fault_of_batch (batch.Body place) = fault_of_body place.number place.wrong
fault_of_batch (batch.Behind end more) = fault.Trailing

-- the body of this number of the batch is the first that is no message; it has this fault, and its length begins at this byte
pub record IsUnread (file : List ℕ) (unread : UnreadBody) (body : List ℕ) : Type 0 where
  pub count : ℕ
  pub head : IsHead batch_magic file count
  pub within : unread.number < count
  pub before : AreBodies body_kind.Message file 10 unread.number unread.at
  pub are : AllByRecursion IsMessageText before.bodies
  pub framed : IsFramedAt file unread.at body
  pub fault : reading taken_in body ≡ Err unread.fault

-- ---- blocks

-- this block stands at the beginning of the bytes: its count and its bodies, each of this kind; and these bytes are left
abbrev pub IsBlockOf : BodyKind → List ℕ → List (List ℕ) → List ℕ → Type 0
IsBlockOf kind bytes bodies left = (block_at bytes ≡ Ok (bodies, left)) × AllByRecursion (IsBodyOf kind) bodies

-- so many blocks stand between these two bytes of the file
pub record AreBlocks (kind : BodyKind) (file : List ℕ) (from count end : ℕ) : Type 0 where
  pub inside : end ≤ length file
  pub blocks : List (List (List ℕ))
  pub number : length blocks ≡ count
  pub read : InTurn (IsBlockOf kind) (drop from file) blocks (drop end file)

-- a block of this kind stands between these two bytes of the file
abbrev pub IsBlockAt : BodyKind → List ℕ → ℕ → ℕ → Type 0
IsBlockAt kind file at end =
    (end ≤ length file) × ((bodies : List (List ℕ)) × IsBlockOf kind (drop at file) bodies (drop end file))

-- why no block of this kind begins at this byte of the file
abbrev pub IsWrongBlock : BodyKind → List ℕ → ℕ → WrongBlock → Type 0
IsWrongBlock kind file at (wrong_block.TooMany count) = (count_at (drop at file) ≡ Err fault.Count) × IsNumberAt file at 4 count
IsWrongBlock kind file at wrong_block.Ends = count_at (drop at file) ≡ Err fault.Ended
IsWrongBlock kind file at (wrong_block.Body place) =
    (count_at (drop at file) ≡ Ok (place.of, drop (at + 4) file)) × IsBodyPlace kind file (at + 4) place

-- of the blocks this one is the first that is wrong
pub record IsBlockPlace (kind : BodyKind) (file : List ℕ) (place : BlockPlace) : Type 0 where
  pub within : place.number < place.of
  pub whole : AreBlocks kind file 10 place.number place.at
  pub wrong : IsWrongBlock kind file place.at place.wrong

-- the file begins with these letters, and has the blocks that it announces and no more
abbrev pub IsWholeBlockFile : List ℕ → BodyKind → List ℕ → Type 0
IsWholeBlockFile magic kind file = (count : ℕ) × IsBlockHead magic file count × AreBlocks kind file 10 count (length file)

-- which fault of a block it is; the number of a body is the one that it has in its block
abbrev pub fault_of_block : WrongBlock → BatchFault
fault_of_block (wrong_block.TooMany count) = fault.Count
fault_of_block wrong_block.Ends = fault.Ended
fault_of_block (wrong_block.Body place) = fault_of_body place.number place.wrong

-- which fault stands there
abbrev pub fault_of_blocks : BlocksPlace → BatchFault
fault_of_blocks (blocks.Head wrong) = fault_of_head fault.Blocks wrong
fault_of_blocks (blocks.Block place) = fault_of_block place.wrong
fault_of_blocks (blocks.Behind end more) = fault.Trailing

-- this is the first fault of the file: in its head, in a block, or behind the last one
abbrev pub IsBlocksPlace : List ℕ → BodyKind → List ℕ → BlocksPlace → Type 0
IsBlocksPlace magic kind file (blocks.Head wrong) = IsBlockHeadFault magic file wrong
IsBlocksPlace magic kind file (blocks.Block place) = IsBlockHead magic file place.of × IsBlockPlace kind file place
IsBlocksPlace magic kind file (blocks.Behind end more) =
    (0 < more) × (end + more ≡ length file) × ((count : ℕ) × IsBlockHead magic file count × AreBlocks kind file 10 count end)
