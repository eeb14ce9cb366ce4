-- The bytes of a block file of bodies.
use Rattle.std.specs.Prelude.{◌≤◌, ℕ, List, ◌++◌, length}
use Rattle.std.specs.List.{AllByRecursion, flat_map}
use Rattle.byteorder.specs.Endian.{big_bytes}
use Rattle.file_laws.specs.Blocks.{blocks_magic}
use Rattle.file_laws.specs.Files.{AreBodies, framed, head_text}
pub use Rattle.file_laws.specs.Files.{all_bodies}

-- how many bodies, and the bodies
abbrev pub block_text : List (List ℕ) → List ℕ
block_text bodies = big_bytes 4 (length bodies) ++ flat_map framed bodies

-- a block file of these blocks
abbrev pub block_file_text : List (List (List ℕ)) → List ℕ
block_file_text blocks = head_text blocks_magic (length blocks) ++ flat_map block_text blocks

-- the blocks that a file can have
abbrev pub AreBlocksOfBodies : List (List (List ℕ)) → Type 0
AreBlocksOfBodies blocks = (length blocks ≤ 1000) × AllByRecursion AreBodies blocks
