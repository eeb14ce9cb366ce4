-- The texts of a block file: of each block the text of its bodies.
use Rattle.std.specs.Prelude.{◌≡◌, ◌⊎◌, ℕ, List, length, map, Ok, Err}
use Rattle.std.specs.List.{AllZip}
use Rattle.file_laws.specs.Blocks.{FailsBehind, InTurn, IsFileInTurn, block_at, block_head_at, blocks_magic}
use Rattle.file_laws.specs.declared.batch_fault.BatchFault.{BatchFault}
use Rattle.file_listing.specs.Bodies.{bodies_of}
use Rattle.file_listing.specs.BlockText.{block_file_text}
use Rattle.file_listing.specs.BodyLines.{body_lines}

-- the next block has these bodies, and these bytes are left
abbrev pub HasBlock : List ℕ → List (List ℕ) → List ℕ → Type 0
HasBlock bytes bodies left = block_at bytes ≡ Ok (bodies, left)

-- the bytes are read as a block file, and these are the bodies of its blocks
abbrev pub HasBlocks : List ℕ → List (List (List ℕ)) → Type 0
HasBlocks bytes blocks = IsFileInTurn blocks_magic HasBlock bytes blocks

-- the next block is read, this is the text of its bodies, and these bytes are left
abbrev pub HasTextOf : List ℕ → List ℕ → List ℕ → Type 0
HasTextOf bytes text left = (bodies : List (List ℕ)) × HasBlock bytes bodies left × (text ≡ body_lines bodies)

-- so many blocks are read, these are their texts, in order, and these bytes are left
abbrev pub HaveTextsOf : ℕ → List ℕ → List (List ℕ) → List ℕ → Type 0
HaveTextsOf count bytes texts left =
    (blocks : List (List (List ℕ))) × (length blocks ≡ count) × InTurn HasBlock bytes blocks left × (texts ≡ map body_lines blocks)

-- the bytes are read as a block file, and these are the texts of its blocks, in order
abbrev pub AreTextsOf : List ℕ → List (List ℕ) → Type 0
AreTextsOf bytes texts = (blocks : List (List (List ℕ))) × HasBlocks bytes blocks × (texts ≡ map body_lines blocks)

-- some of so many blocks are read, and then reading stops with this fault: in the next block, or behind the last one
abbrev pub FailsAmongBlocks : ℕ → List ℕ → BatchFault → Type 0
FailsAmongBlocks count bytes fault =
    (blocks : List (List (List ℕ))) × (left : List ℕ) × InTurn HasBlock bytes blocks left × FailsBehind count (length blocks) left fault

-- the first fault of a block file: in the head, or behind it
abbrev pub FailsAsBlockFile : List ℕ → BatchFault → Type 0
FailsAsBlockFile bytes fault =
    (block_head_at blocks_magic bytes ≡ Err fault)
    ⊎ ((count : ℕ) × (behind : List ℕ) × (block_head_at blocks_magic bytes ≡ Ok (count, behind)) × FailsAmongBlocks count behind fault)

-- each text has the bodies of a block, in order, and this is the block file of these
abbrev pub ArePackedFrom : List (List ℕ) → List ℕ → Type 0
ArePackedFrom texts bytes =
    (blocks : List (List (List ℕ))) × AllZip (λ text bodies. bodies_of text ≡ Ok bodies) texts blocks × (bytes ≡ block_file_text blocks)
