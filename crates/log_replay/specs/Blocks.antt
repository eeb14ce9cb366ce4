-- Messages cut into blocks.
use Rattle.std.specs.Prelude.{◌≡◌, ◌≤◌, ⊤, List, [], ◌∷◌, length}
use Rattle.issuer_rows.specs.declared.frame.Frame.{Frame}
use Rattle.file_laws.specs.Blocks.{all_messages}

-- each block has 65,536 messages, and the last one has 1 to 65,536
abbrev pub AreCut : List (List Frame) → Type 0
AreCut [] = ⊤
AreCut (block ∷ []) = (1 ≤ length block) × (length block ≤ 65536)
AreCut (block ∷ next ∷ blocks) = (length block ≡ 65536) × AreCut (next ∷ blocks)

-- The messages in order, cut into blocks of 65,536, of which the last one may be shorter. No message gives no block.
pub record AreBlocksOf (messages : List Frame) (blocks : List (List Frame)) : Type 0 where
  pub all : all_messages blocks ≡ messages
  pub cut : AreCut blocks
