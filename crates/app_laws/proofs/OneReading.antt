-- A batch file is read as one list of frames, a block file as one list of blocks, and a book's text as one book.
use Rattle.std.proofs.Common.{◌≡◌, ◌∙◌, ℕ, List, [], ◌∷◌, length, Result, Ok, ap, refl, sym, subst, arith}
use Rattle.issuer_words.specs.Words.{Frame, Rows}
use Rattle.file_batch.specs.Words.{AreBlocks, BatchFault, IsBatchOf, IsBlock, IsBlockFileOf, block_at, block_head_at, blocks_magic}
use Rattle.book_laws.specs.Reading.{IsAnswer, reading as reading_of_book}
use Rattle.app_laws.proofs.NoFault.{one_value}
use Rattle.app_laws.proofs.Once.{same_ok}
use Rattle.file_laws.proofs.FrameLaws.{same_frames}

same_bodies : (bodies others : List (List ℕ)) → (let read : Result (List (List ℕ)) BatchFault = Ok bodies in read ≡ Ok others) → bodies ≡ others
same_bodies bodies others e = cc

-- these bytes are one batch at most
pub same_batch : (bytes : List ℕ) (frames others : List Frame) → IsBatchOf bytes frames → IsBatchOf bytes others → frames ≡ others
same_batch bytes frames others a b = same_frames b.0 frames others (rw (same_bodies a.0 b.0 (sym a.1 ∙ b.1)) at a.2) b.2

-- a block is one list of frames at most, and leaves the same bytes
same_block : (bytes : List ℕ) (block other : List Frame) (left rest : List ℕ) → IsBlock bytes block left → IsBlock bytes other rest → (block ≡ other) × (left ≡ rest)
same_block bytes block other left rest a b =
    let both = one_value (block_at bytes) (a.0, left) (b.0, rest) a.1 b.1 in
    let bodies : a.0 ≡ b.0 = ap (λ (p : List (List ℕ) × List ℕ). p.0) both in
    (same_frames b.0 block other (rw bodies at a.2) b.2, ap (λ (p : List (List ℕ) × List ℕ). p.1) both)

same_blocks : (blocks others : List (List Frame)) (bytes left rest : List ℕ) → length blocks ≡ length others → AreBlocks bytes blocks left
    → AreBlocks bytes others rest → blocks ≡ others
same_blocks [] [] bytes left rest same a b = refl
same_blocks [] (other ∷ others) bytes left rest same a b = absurd (omega (arith, same))
same_blocks (block ∷ blocks) [] bytes left rest same a b = absurd (omega (arith, same))
same_blocks (block ∷ blocks) (other ∷ others) bytes left rest same a b =
    let here = same_block bytes block other a.0 b.0 a.1 b.1 in
    let more : AreBlocks b.0 blocks left = subst (λ (bs : List ℕ). AreBlocks bs blocks left) here.1 a.2 in
    let behind : blocks ≡ others = same_blocks blocks others b.0 left rest (omega (arith, same)) more b.2 in
    rw (here.0, behind) refl

-- these bytes are one list of blocks at most
pub same_block_file : (bytes : List ℕ) (blocks others : List (List Frame)) → IsBlockFileOf bytes blocks → IsBlockFileOf bytes others → blocks ≡ others
same_block_file bytes blocks others a b =
    let both = one_value (block_head_at blocks_magic bytes) (length blocks, a.0) (length others, b.0) a.1 b.1 in
    let number : length blocks ≡ length others = ap (λ (p : ℕ × List ℕ). p.0) both in
    let behind : a.0 ≡ b.0 = ap (λ (p : ℕ × List ℕ). p.1) both in
    same_blocks blocks others b.0 [] [] number (subst (λ (bs : List ℕ). AreBlocks bs blocks []) behind a.2) b.2

-- and one book
pub same_rows : (bytes : List ℕ) (rows others : Rows) → IsAnswer (reading_of_book bytes) (Ok rows) → IsAnswer (reading_of_book bytes) (Ok others) → rows ≡ others
same_rows bytes rows others a b = same_ok rows others (sym a.0 ∙ b.0)
