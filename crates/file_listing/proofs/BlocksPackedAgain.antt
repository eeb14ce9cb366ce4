-- The texts of blocks are read as these blocks.
use Rattle.std.proofs.Common.{◌≡◌, ℕ, zero, suc, ◌<◌, ◌≤◌, false, cond, ltb, List, [], ◌∷◌, ◌++◌, length, map, drop, Result, Ok, Err, refl, sym, ap, subst, ◌∙◌, append_assoc, arith}
use Rattle.std.specs.List.{flat_map, All, AllByRecursion, AllZip}
use Rattle.std.specs.Str.{bytes_eq}
use Rattle.std.proofs.lemmas.Bool.{ltb-false, le-ltb}
use Rattle.std.proofs.lemmas.List.{append-nil, append_cancel_right}
use Rattle.std.proofs.lemmas.List.Elements.{All-from_recursion, recursion_from_All}
use Rattle.std.proofs.lemmas.Slice.Eq.{bytes_eq-Decides}
use Rattle.byteorder.specs.Endian.{big_bytes}
use Rattle.file_laws.specs.Blocks.{InTurn, block_at, block_count_at, block_head_at, blocks_magic}
use Rattle.file_laws.specs.Files.{AreBodies, IsBatch, IsBody, batch_text, framed, head_text}
use Rattle.file_laws.specs.Reading.{◌>>=◌, batch_magic, bodies_at, bodies_of, count_at, field_at, head_at, magic_at, number_at, version_at}
use Rattle.file_laws.specs.declared.batch_fault.BatchFault.{BatchFault}
use Rattle.file_laws.specs.declared.batch_fault.BatchFault.TheVariants.{Blocks, Magic}
use Rattle.file_laws.proofs.Again.{bodies_again, magic_again, version_again}
use Rattle.file_laws.proofs.Once.{batch_taken, AreBytes, front_of, rest_of}
use Rattle.file_listing.specs.Bodies as listing
use Rattle.file_listing.specs.BlockLines.{ArePackedFrom, AreTextsOf, HasBlock}
use Rattle.file_listing.specs.BlockText.{block_text}
use Rattle.file_listing.specs.BodyLines.{body_lines}
use Rattle.file_listing.proofs.Fronts.{block_front, counted_at, counted_front, field_taken}
use Rattle.file_listing.proofs.PackedAgain.{bodies_are_bytes, read_lines}
use Rattle.file_laws.proofs.Steps.{bind_ok, fault_not_found, test_passed}

abbrev Block : Type 0
Block = List (List ℕ)

-- ---- a block

-- the letters and the version of a batch
abbrev letters : List ℕ
letters = batch_magic ++ big_bytes 2 1

-- a block behind these is read as a batch
read_as_batch : (block : List ℕ) (bodies : Block) → block_at block ≡ Ok (bodies, []) → bodies_of batch_magic (letters ++ block) ≡ Ok bodies
unfolding block_at bodies_of head_at
read_as_batch block bodies read =
    let a = bind_ok (count_at block) (λ count. bodies_at count.0 count.1) (bodies, []) read in
    ap (bodies_of batch_magic) (append_assoc batch_magic (big_bytes 2 1) block)
    ∙ rw (magic_again batch_magic (big_bytes 2 1 ++ block) refl refl, version_again block, a.1, a.2) refl

alone_taken : (block : List ℕ) (bodies : Block) → AreBytes block → block_at block ≡ Ok (bodies, []) → AreBodies bodies × (block ≡ block_text bodies)
unfolding head_text
alone_taken block bodies all read =
    let bytes : AreBytes (letters ++ block) = (omega arith, (omega arith, (omega arith, (omega arith, (omega arith, (omega arith, all)))))) in
    let batch : IsBatch (letters ++ block) bodies =
    batch_taken (letters ++ block) bodies (All-from_recursion (λ byte. byte < 256) (letters ++ block) bytes) (read_as_batch block bodies read) in
    let text : batch_text bodies ≡ letters ++ block_text bodies = append_assoc letters (big_bytes 4 (length bodies)) (flat_map framed bodies) in
    (batch.0, ap (drop 6) (batch.1 ∙ text))

-- a block that is read is the text of its bodies
block_taken : (bytes : List ℕ) (bodies : Block) (left : List ℕ) → AreBytes bytes → block_at bytes ≡ Ok (bodies, left) → AreBodies bodies × (bytes ≡ block_text bodies ++ left)
block_taken bytes bodies left all read =
    let t = block_front bytes bodies left read in
    let front = front_of t.front left (subst AreBytes t.is all) in
    let alone = alone_taken t.front bodies front (ap block_at (sym (append-nil t.front)) ∙ t.again []) in
    (alone.0, t.is ∙ ap (λ (x : List ℕ). x ++ left) alone.1)

-- ---- the head

both_bytes : (xs ys : List ℕ) → AreBytes xs → AreBytes ys → AreBytes (xs ++ ys)
both_bytes [] ys all more = more
both_bytes (x ∷ xs) ys all more = (all.0, both_bytes xs ys all.1 more)

-- so many bodies of one byte, 0
abbrev zeros : ℕ → Block
zeros zero = []
zeros (suc n) = (0 ∷ []) ∷ zeros n

length-zeros : (n : ℕ) → length (zeros n) ≡ n
length-zeros zero = refl
length-zeros (suc n) = ap suc (length-zeros n)

zero_bodies : (n : ℕ) → AllByRecursion IsBody (zeros n)
zero_bodies zero = tt
zero_bodies (suc n) = ((omega arith, omega arith), zero_bodies n)

zero_bytes : (n : ℕ) → AreBytes (flat_map framed (zeros n))
zero_bytes zero = tt
zero_bytes (suc n) = (omega arith, (omega arith, (omega arith, zero_bytes n)))

-- a version and a count behind the letters of a batch are those of a batch
head_is_read : (head : List ℕ) (n : ℕ) (more : List ℕ) → counted_at (head ++ more) ≡ Ok (n, more) → head_at batch_magic (batch_magic ++ (head ++ more)) ≡ Ok (n, more)
unfolding head_at
head_is_read head n more read =
    ap (λ (r : Result (List ℕ × List ℕ) BatchFault). r >>= λ x. version_at x.1 >>= λ y. count_at y.1) (magic_again batch_magic (head ++ more) refl refl) ∙ read

zeros_are_read : (head : List ℕ) (n : ℕ) → counted_at (head ++ flat_map framed (zeros n)) ≡ Ok (n, flat_map framed (zeros n))
    → bodies_of batch_magic (batch_magic ++ (head ++ flat_map framed (zeros n))) ≡ Ok (zeros n)
unfolding bodies_of
zeros_are_read head n read =
    let text = flat_map framed (zeros n) in
    let bodies : bodies_at n text ≡ Ok (zeros n, []) =
    ap (λ (k : ℕ). bodies_at k text) (sym (length-zeros n)) ∙ ap (bodies_at (length (zeros n))) (sym (append-nil text)) ∙ bodies_again (zeros n) [] (zero_bodies n) in
    rw (head_is_read head n text read, bodies) refl

-- the only version and count that are read as this number
counted_taken : (head : List ℕ) (n : ℕ) → AreBytes head → ((more : List ℕ) → counted_at (head ++ more) ≡ Ok (n, more)) → head ≡ big_bytes 2 1 ++ big_bytes 4 n
unfolding head_text
counted_taken head n all again =
    let text = flat_map framed (zeros n) in
    let file = batch_magic ++ (head ++ text) in
    let bytes : AreBytes file = (omega arith, (omega arith, (omega arith, (omega arith, both_bytes head text all (zero_bytes n))))) in
    let batch : IsBatch file (zeros n) = batch_taken file (zeros n) (All-from_recursion (λ byte. byte < 256) file bytes) (zeros_are_read head n (again text)) in
    let behind : head ++ text ≡ (big_bytes 2 1 ++ big_bytes 4 (length (zeros n))) ++ text = ap (drop 4) batch.1 in
    append_cancel_right head (big_bytes 2 1 ++ big_bytes 4 (length (zeros n))) text behind ∙ ap (λ (k : ℕ). big_bytes 2 1 ++ big_bytes 4 k) (length-zeros n)

letters_taken : (bytes found rest : List ℕ) → magic_at blocks_magic bytes ≡ Ok (found, rest) → bytes ≡ blocks_magic ++ rest
unfolding magic_at
letters_taken bytes found rest read =
    let a = bind_ok (field_at 4 bytes) (λ x. let r : Result (List ℕ × List ℕ) BatchFault = cond (bytes_eq x.0 blocks_magic) (Ok x) (Err Magic) in r) (found, rest) read in
    let b = test_passed (bytes_eq a.0.0 blocks_magic) Magic a.0 (found, rest) a.2 in
    let same : a.0.0 ≡ blocks_magic = (bytes_eq-Decides a.0.0 blocks_magic).0 b.0 in
    let left : a.0.1 ≡ rest = ap (λ (p : List ℕ × List ℕ). p.1) b.1 in
    (field_taken 4 bytes a.0.0 a.0.1 a.1).0 ∙ rw (same, left) refl

-- a number of blocks is small enough for one of bodies
count_is_read : (bytes : List ℕ) (n : ℕ) (rest : List ℕ) → block_count_at bytes ≡ Ok (n, rest) → count_at bytes ≡ Ok (n, rest)
unfolding block_count_at count_at
count_is_read bytes n rest read =
    let a = bind_ok (number_at 4 bytes) (λ x. let r : Result (ℕ × List ℕ) BatchFault = cond (ltb 1000 x.0) (Err Blocks) (Ok x) in r) (n, rest) read in
    let b = fault_not_found (ltb 1000 a.0.0) Blocks a.0 (n, rest) a.2 in
    let number : a.0.0 ≡ n = ap (λ (p : ℕ × List ℕ). p.0) b.1 in
    let few : n ≤ 1000 = subst (λ (k : ℕ). k ≤ 1000) number (ltb-false 1000 a.0.0 b.0) in
    let fits : ltb 65536 n ≡ false = le-ltb 65536 n (omega (arith, few)) in
    let there : number_at 4 bytes ≡ Ok (n, rest) = a.1 ∙ ap Ok b.1 in
    rw (there, fits) refl

head_taken : (bytes : List ℕ) (n : ℕ) (behind : List ℕ) → AreBytes bytes → block_head_at blocks_magic bytes ≡ Ok (n, behind) → bytes ≡ head_text blocks_magic n ++ behind
unfolding block_head_at head_text
head_taken bytes n behind all read =
    let a = bind_ok (magic_at blocks_magic bytes) (λ x. version_at x.1 >>= λ y. block_count_at y.1) (n, behind) read in
    let b = bind_ok (version_at a.0.1) (λ y. block_count_at y.1) (n, behind) a.2 in
    let start = letters_taken bytes a.0.0 a.0.1 a.1 in
    let counted : counted_at a.0.1 ≡ Ok (n, behind) =
    ap (λ (r : Result (ℕ × List ℕ) BatchFault). r >>= λ y. count_at y.1) b.1 ∙ count_is_read b.0.1 n behind b.2 in
    let t = counted_front a.0.1 n behind counted in
    let front = front_of t.front behind (subst AreBytes t.is (rest_of blocks_magic a.0.1 (subst AreBytes start all))) in
    start ∙ ap (λ (x : List ℕ). blocks_magic ++ x) (t.is ∙ ap (λ (x : List ℕ). x ++ behind) (counted_taken t.front n front t.again))

-- ---- the file

-- the text of each block is read as its bodies, and the bytes are those of the blocks
each_is_read : (bytes left : List ℕ) (blocks : List Block) → AreBytes bytes → InTurn HasBlock bytes blocks left
    → AllZip (λ text bodies. listing.bodies_of text ≡ Ok bodies) (map body_lines blocks) blocks × (bytes ≡ flat_map block_text blocks ++ left)
each_is_read bytes left [] all are = (tt, are)
each_is_read bytes left (block ∷ blocks) all are =
    let here = block_taken bytes block are.0 all are.1 in
    let both : AreBytes (block_text block ++ are.0) = subst AreBytes here.1 all in
    let text = front_of (block_text block) are.0 both in
    let bodies = bodies_are_bytes block (rest_of (big_bytes 4 (length block)) (flat_map framed block) text) in
    let others = each_is_read are.0 left blocks (rest_of (block_text block) are.0 both) are.2 in (
      (read_lines 1 block here.0.1 bodies, others.0),
      here.1 ∙ ap (λ (x : List ℕ). block_text block ++ x) others.1 ∙ sym (append_assoc (block_text block) (flat_map block_text blocks) left),
    )

pub packed_again : (file : List ℕ) (texts : List (List ℕ)) → All (λ byte. byte < 256) file → AreTextsOf file texts → ArePackedFrom texts file
packed_again file texts all are =
    let blocks = are.0 in
    let behind = are.1.0 in
    let bytes = recursion_from_All (λ byte. byte < 256) file all in
    let head = head_taken file (length blocks) behind bytes are.1.1 in
    let each = each_is_read behind [] blocks (rest_of (head_text blocks_magic (length blocks)) behind (subst AreBytes head bytes)) are.1.2 in (
      blocks,
      subst (λ (ts : List (List ℕ)). AllZip (λ text bodies. listing.bodies_of text ≡ Ok bodies) ts blocks) (sym are.2) each.0,
      head ∙ ap (λ (x : List ℕ). head_text blocks_magic (length blocks) ++ x) (each.1 ∙ append-nil (flat_map block_text blocks)),
    )
