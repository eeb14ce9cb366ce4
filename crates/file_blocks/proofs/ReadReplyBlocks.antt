-- A block of replies, and how many replies blocks have.
use Rattle.std.proofs.Common.{◌≡◌, ℕ, ◌+◌, List, [], ◌∷◌, ◌++◌, length, Result, Ok, Err, ap, ◌∙◌, inr}
use Rattle.std.specs.Global.{Vec}
use Rattle.std.proofs.lemmas.List.{append-nil, length-append, map-append}
use Rattle.std.proofs.lemmas.List.Concat.{flat_map-append}
use Rattle.issuer_rows.specs.declared.reply_body.ReplyBody.{ReplyBody}
use Rattle.file_batch.specs.Words.{BatchFault, GivesReplies, all_replies, block_at, count_at}
use Rattle.file_blocks.specs.BlockFiles.{replies_of, GivesReplyBlock}

-- a block of replies is its count and so many replies
pub gives_block : (from : ℕ) (bytes : List ℕ) (count : ℕ) (behind : List ℕ) (read : Result (Vec ReplyBody) BatchFault) (left : List ℕ) → count_at bytes ≡ Ok (count, behind) → GivesReplies from count behind read left
    → GivesReplyBlock from bytes read left
unfolding block_at
gives_block from bytes count behind (Ok replies) left head gives = (gives.0, rw head gives.1, gives.2)
gives_block from bytes count behind (Err e) left head gives = λ of_bytes. inr (count, behind, head, gives of_bytes)

one_more_counted : (blocks : List (List ReplyBody)) (block : List ReplyBody) → length (all_replies (blocks ++ block ∷ [])) ≡ length (all_replies blocks) + length block
one_more_counted blocks block =
    ap length (flat_map-append (λ (b : List ReplyBody). b) blocks (block ∷ []))
    ∙ length-append (all_replies blocks) (block ++ [])
    ∙ ap (λ (b : List ReplyBody). length (all_replies blocks) + length b) (append-nil block)

pub counts_on : (blocks : List (Vec ReplyBody)) (block : Vec ReplyBody) → length (all_replies (replies_of (blocks ++ block ∷ []))) ≡ length (all_replies (replies_of blocks)) + length block.items
counts_on blocks block = rw map-append (one_more_counted (replies_of blocks) block.items)
