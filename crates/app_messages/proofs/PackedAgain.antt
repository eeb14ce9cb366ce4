-- Blocks that are packed are read as these blocks.
use Rattle.std.proofs.Common.{◌≡◌, ℕ, ◌≤◌, List, [], ◌∷◌, ◌++◌, length, Ok, refl, sym, ap, subst, ◌∙◌, append_assoc, arith}
use Rattle.std.specs.List.{flat_map, AllByRecursion, AllZip}
use Rattle.std.proofs.lemmas.List.{append-nil}
use Rattle.byteorder.specs.Endian.{big_bytes}
use Rattle.issuer_rows.specs.declared.frame.Frame.{Frame}
use Rattle.file_batch.specs.Words.{AreBlocks, AreBodies, AreFramesOf, IsBlock, IsBlockFileOf, block_at, block_head_at, blocks_magic, framed, head_text}
use Rattle.file_laws.proofs.Again.{bodies_again, count_again, magic_again, version_again}
use Rattle.file_listing.specs.BlockText.{AreBlocksOfBodies, block_file_text, block_text}
use Rattle.file_laws.proofs.ReadBackBlocks.{block_count_again}

head_is_read : (n : ℕ) (rest : List ℕ) → n ≤ 1000 → block_head_at blocks_magic (head_text blocks_magic n ++ rest) ≡ Ok (n, rest)
unfolding block_head_at head_text
head_is_read n rest le =
    let regrouped : (blocks_magic ++ big_bytes 2 1 ++ big_bytes 4 n) ++ rest ≡ blocks_magic ++ (big_bytes 2 1 ++ (big_bytes 4 n ++ rest)) =
    append_assoc (blocks_magic ++ big_bytes 2 1) (big_bytes 4 n) rest ∙ append_assoc blocks_magic (big_bytes 2 1) (big_bytes 4 n ++ rest) in
    ap (block_head_at blocks_magic) regrouped
    ∙ rw (magic_again blocks_magic (big_bytes 2 1 ++ (big_bytes 4 n ++ rest)) refl refl, version_again (big_bytes 4 n ++ rest), block_count_again n rest le) refl

-- a block is its count and its bodies
block_is_read : (bodies : List (List ℕ)) (rest : List ℕ) → AreBodies bodies → block_at (block_text bodies ++ rest) ≡ Ok (bodies, rest)
unfolding block_at
block_is_read bodies rest are =
    ap block_at (append_assoc (big_bytes 4 (length bodies)) (flat_map framed bodies) rest)
    ∙ rw (count_again (length bodies) (flat_map framed bodies ++ rest) are.0) (bodies_again bodies rest are.1)

blocks_are_read : (blocks : List (List (List ℕ))) (messages : List (List Frame)) (rest : List ℕ) → AllByRecursion AreBodies blocks → AllZip AreFramesOf blocks messages
    → AreBlocks (flat_map block_text blocks ++ rest) messages rest
blocks_are_read [] [] rest are frames = refl
blocks_are_read [] (own ∷ messages) rest are frames = absurd frames
blocks_are_read (block ∷ blocks) [] rest are frames = absurd frames
blocks_are_read (block ∷ blocks) (own ∷ messages) rest are frames =
    let next = flat_map block_text blocks ++ rest in
    let here : IsBlock (block_text block ++ next) own next = (block, block_is_read block next are.0, frames.0) in (
      next,
      subst (λ (bytes : List ℕ). IsBlock bytes own next) (sym (append_assoc (block_text block) (flat_map block_text blocks) rest)) here,
      blocks_are_read blocks messages rest are.1 frames.1,
    )

same_count : (blocks : List (List (List ℕ))) (messages : List (List Frame)) → AllZip AreFramesOf blocks messages → length blocks ≡ length messages
same_count [] [] frames = refl
same_count [] (own ∷ messages) frames = absurd frames
same_count (block ∷ blocks) [] frames = absurd frames
same_count (block ∷ blocks) (own ∷ messages) frames = omega (arith, same_count blocks messages frames.1)

pub packed_are_read : (blocks : List (List (List ℕ))) (messages : List (List Frame)) → AreBlocksOfBodies blocks → AllZip AreFramesOf blocks messages
    → IsBlockFileOf (block_file_text blocks) messages
packed_are_read blocks messages are frames = (
  flat_map block_text blocks,
  subst (λ (n : ℕ). block_head_at blocks_magic (block_file_text blocks) ≡ Ok (n, flat_map block_text blocks)) (same_count blocks messages frames)
      (head_is_read (length blocks) (flat_map block_text blocks) are.0),
  subst (λ (bytes : List ℕ). AreBlocks bytes messages []) (append-nil (flat_map block_text blocks)) (blocks_are_read blocks messages [] are.1 frames),
)
