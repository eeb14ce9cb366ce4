-- Replies of blocks that were written are read back.
use Rattle.std.proofs.Common.{◌≡◌, ℕ, ◌≤◌, ltb, List, [], ◌∷◌, ◌++◌, length, Ok, refl, sym, ap, subst, ◌∙◌, append_assoc, arith, true, false}
use Rattle.std.specs.List.{flat_map, AllByRecursion}
use Rattle.std.specs.Str.{bytes_eq}
use Rattle.std.proofs.lemmas.Bool.{le-ltb}
use Rattle.std.proofs.lemmas.List.{length-map, append-nil}
use Rattle.byteorder.specs.Endian.{big_bytes}
use Rattle.issuer_rows.specs.declared.reply_body.ReplyBody.{ReplyBody}
use Rattle.file_laws.specs.Blocks.{block_count_at, block_head_at, block_at, block_replies_magic, block_text, blocks_text, block_replies_text, IsReplyBlock, AreReplyBlocks, IsBlockReplyFileOf, AreBlocksOfReplies}
use Rattle.file_laws.specs.Files.{framed, head_text, reply_text}
use Rattle.file_laws.specs.Reading.{bodies_at}
use Rattle.file_laws.specs.Replies.{AreReplyBodies, AreRepliesOf}
use Rattle.file_laws.proofs.Again.{number_4, magic_again, version_again, count_again, bodies_again}
use Rattle.file_laws.proofs.ReadBack.{texts_of, all_bodies, are_texts, framed_texts, same_replies}
use Rattle.file_laws.proofs.Steps.{ok_injective}

pub block_count_again : (n : ℕ) (rest : List ℕ) → n ≤ 1000 → block_count_at (big_bytes 4 n ++ rest) ≡ Ok (n, rest)
unfolding block_count_at
block_count_again n rest le =
    let few : ltb 1000 n ≡ false = le-ltb 1000 n le in
    rw (number_4 n rest (omega arith), few) refl

block_head_again : (magic : List ℕ) (n : ℕ) (rest : List ℕ) → length magic ≡ 4 → bytes_eq magic magic ≡ true → n ≤ 1000 → block_head_at magic (head_text magic n ++ rest) ≡ Ok (n, rest)
unfolding block_head_at head_text
block_head_again magic n rest len same le =
    let regrouped : (magic ++ big_bytes 2 1 ++ big_bytes 4 n) ++ rest ≡ magic ++ (big_bytes 2 1 ++ (big_bytes 4 n ++ rest)) = append_assoc (magic ++ big_bytes 2 1) (big_bytes 4 n) rest ∙ append_assoc magic (big_bytes 2 1) (big_bytes 4 n ++ rest) in
    ap (block_head_at magic) regrouped ∙ rw (magic_again magic (big_bytes 2 1 ++ (big_bytes 4 n ++ rest)) len same, version_again (big_bytes 4 n ++ rest), block_count_again n rest le) refl

-- a block's text is its count and its bodies
block_again : (replies : List ReplyBody) (rest : List ℕ) → AreReplyBodies replies → block_at (block_text replies ++ rest) ≡ Ok (texts_of replies, rest)
unfolding block_at
block_again replies rest are =
    let count = big_bytes 4 (length replies) in
    let texts = flat_map framed (texts_of replies) in
    let number : length (texts_of replies) ≡ length replies = length-map replies reply_text in
    let regrouped : block_text replies ++ rest ≡ count ++ (texts ++ rest) =
    append_assoc count (flat_map (λ reply. framed (reply_text reply)) replies) rest ∙ ap (λ (x : List ℕ). count ++ (x ++ rest)) (sym (framed_texts replies)) in
    let bodies : bodies_at (length replies) (texts ++ rest) ≡ Ok (texts_of replies, rest) =
    ap (λ (n : ℕ). bodies_at n (texts ++ rest)) (sym number) ∙ bodies_again (texts_of replies) rest (all_bodies replies are.1) in
    ap block_at regrouped ∙ rw (count_again (length replies) (texts ++ rest) are.0) bodies

all_again : (blocks : List (List ReplyBody)) (rest : List ℕ) → AllByRecursion AreReplyBodies blocks → AreReplyBlocks (blocks_text blocks ++ rest) blocks rest
all_again [] rest all = refl
all_again (block ∷ blocks) rest all =
    let next = blocks_text blocks ++ rest in
    let here : IsReplyBlock (block_text block ++ next) block next = (texts_of block, block_again block next all.0, are_texts block all.0.1) in
    (next, subst (λ (bytes : List ℕ). IsReplyBlock bytes block next) (sym (append_assoc (block_text block) (blocks_text blocks) rest)) here, all_again blocks rest all.1)

pub blocks_again : (blocks : List (List ReplyBody)) → AreBlocksOfReplies blocks → IsBlockReplyFileOf (block_replies_text blocks) blocks
blocks_again blocks are = (
  blocks_text blocks,
  block_head_again block_replies_magic (length blocks) (blocks_text blocks) refl refl are.0,
  subst (λ (bytes : List ℕ). AreReplyBlocks bytes blocks []) (append-nil (blocks_text blocks)) (all_again blocks [] are.1),
)

all_alone : (blocks others : List (List ReplyBody)) (bytes left : List ℕ) → AllByRecursion AreReplyBodies blocks → length others ≡ length blocks → bytes ≡ blocks_text blocks → AreReplyBlocks bytes others left → others ≡ blocks
all_alone [] [] bytes left all same text are = refl
all_alone [] (o ∷ others) bytes left all same text are = absurd (omega (arith, same))
all_alone (b ∷ blocks) [] bytes left all same text are = absurd (omega (arith, same))
all_alone (b ∷ blocks) (o ∷ others) bytes left all same text are =
    let here = are.1 in
    let both = ok_injective (here.0, are.0) (texts_of b, blocks_text blocks) (sym here.1 ∙ ap block_at text ∙ block_again b (blocks_text blocks) all.0) in
    let bodies : here.0 ≡ texts_of b = ap (λ (p : List (List ℕ) × List ℕ). p.0) both in
    let next : are.0 ≡ blocks_text blocks = ap (λ (p : List (List ℕ) × List ℕ). p.1) both in
    let first : o ≡ b = same_replies b o all.0.1 (subst (λ (bs : List (List ℕ)). AreRepliesOf bs o) bodies here.2) in
    let rest : others ≡ blocks = all_alone blocks others are.0 left all.1 (omega (arith, same)) next are.2 in
    rw (first, rest) refl

pub blocks_alone : (blocks others : List (List ReplyBody)) → AreBlocksOfReplies blocks → IsBlockReplyFileOf (block_replies_text blocks) others → others ≡ blocks
blocks_alone blocks others are file =
    let head = block_head_again block_replies_magic (length blocks) (blocks_text blocks) refl refl are.0 in
    let both = ok_injective (length others, file.0) (length blocks, blocks_text blocks) (sym file.1 ∙ head) in
    let number : length others ≡ length blocks = ap (λ (p : ℕ × List ℕ). p.0) both in
    let behind : file.0 ≡ blocks_text blocks = ap (λ (p : ℕ × List ℕ). p.1) both in
    all_alone blocks others file.0 [] are.1 number behind file.2
