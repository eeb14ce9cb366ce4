-- Blocks that are decided one after another are one list of messages.
use Rattle.std.proofs.Common.{◌≡◌, ℕ, suc, List, [], ◌∷◌, ◌++◌, length, refl, sym, ap, ◌∙◌, append_assoc}
use Rattle.std.specs.List.{AllByRecursion}
use Rattle.std.proofs.lemmas.List.{append-nil}
use Rattle.std.proofs.lemmas.List.Concat.{flat_map-append}
use Rattle.issuer_words.specs.Words.{Frame, ReplyBody, Rows, replies_to, reply_of, rows_after, rows_after_one}
use Rattle.file_laws.specs.Blocks.{rows_after_blocks, replies_to_blocks, all_messages, all_replies, AreCutAs, block_text, blocks_text}
use Rattle.file_laws.specs.Replies.{AreReplyBodies}

rows_after-append : (rows : Rows) (front back : List Frame) → rows_after rows (front ++ back) ≡ rows_after (rows_after rows front) back
rows_after-append rows [] back = refl
rows_after-append rows (frame ∷ front) back = rows_after-append (rows_after_one rows frame) front back

replies_to-append : (rows : Rows) (front back : List Frame) → replies_to rows (front ++ back) ≡ replies_to rows front ++ replies_to (rows_after rows front) back
replies_to-append rows [] back = refl
replies_to-append rows (frame ∷ front) back = ap (λ (replies : List ReplyBody). reply_of rows frame ∷ replies) (replies_to-append (rows_after_one rows frame) front back)

pub one_book : (rows : Rows) (blocks : List (List Frame)) → rows_after_blocks rows blocks ≡ rows_after rows (all_messages blocks)
one_book rows [] = refl
one_book rows (block ∷ blocks) = one_book (rows_after rows block) blocks ∙ sym (rows_after-append rows block (all_messages blocks))

pub one_list : (rows : Rows) (blocks : List (List Frame)) → all_replies (replies_to_blocks rows blocks) ≡ replies_to rows (all_messages blocks)
one_list rows [] = refl
one_list rows (block ∷ blocks) =
    ap (λ (replies : List ReplyBody). replies_to rows block ++ replies) (one_list (rows_after rows block) blocks) ∙ sym (replies_to-append rows block (all_messages blocks))

as_many : (rows : Rows) (frames : List Frame) → length (replies_to rows frames) ≡ length frames
as_many rows [] = refl
as_many rows (frame ∷ frames) = ap suc (as_many (rows_after_one rows frame) frames)

pub cut_alike : (rows : Rows) (blocks : List (List Frame)) → AreCutAs (replies_to_blocks rows blocks) blocks
cut_alike rows [] = tt
cut_alike rows (block ∷ blocks) = (as_many rows block, cut_alike (rows_after rows block) blocks)

-- ---- one block more

pub one_more_rows : (rows : Rows) (blocks : List (List Frame)) (block : List Frame) → rows_after_blocks rows (blocks ++ block ∷ []) ≡ rows_after (rows_after_blocks rows blocks) block
one_more_rows rows [] block = refl
one_more_rows rows (b ∷ blocks) block = one_more_rows (rows_after rows b) blocks block

pub one_more_text : (rows : Rows) (blocks : List (List Frame)) (block : List Frame)
    → blocks_text (replies_to_blocks rows (blocks ++ block ∷ [])) ≡ blocks_text (replies_to_blocks rows blocks) ++ block_text (replies_to (rows_after_blocks rows blocks) block)
one_more_text rows [] block = append-nil (block_text (replies_to rows block))
one_more_text rows (b ∷ blocks) block =
    ap (λ (x : List ℕ). block_text (replies_to rows b) ++ x) (one_more_text (rows_after rows b) blocks block)
    ∙ sym (append_assoc (block_text (replies_to rows b)) (blocks_text (replies_to_blocks (rows_after rows b) blocks)) (block_text (replies_to (rows_after_blocks (rows_after rows b) blocks) block)))

pub one_more_holds : (rows : Rows) (blocks : List (List Frame)) (block : List Frame) → AllByRecursion AreReplyBodies (replies_to_blocks rows blocks)
    → AreReplyBodies (replies_to (rows_after_blocks rows blocks) block) → AllByRecursion AreReplyBodies (replies_to_blocks rows (blocks ++ block ∷ []))
one_more_holds rows [] block h k = (k, tt)
one_more_holds rows (b ∷ blocks) block h k = (h.0, one_more_holds (rows_after rows b) blocks block h.1 k)

pub one_more_list : (blocks : List (List Frame)) (block : List Frame) → all_messages (blocks ++ block ∷ []) ≡ all_messages blocks ++ block
one_more_list blocks block = flat_map-append (λ (b : List Frame). b) blocks (block ∷ []) ∙ ap (λ (x : List Frame). all_messages blocks ++ x) (append-nil block)

-- as many blocks of replies as of messages
pub blocks_replied : (rows : Rows) (blocks : List (List Frame)) → length (replies_to_blocks rows blocks) ≡ length blocks
blocks_replied rows [] = refl
blocks_replied rows (block ∷ blocks) = ap suc (blocks_replied (rows_after rows block) blocks)
