-- Blocks one after another.
use Rattle.std.proofs.Common.{◌≡◌, ◌⊎◌, ℕ, ◌+◌, ◌<◌, ◌≤◌, List, [], ◌∷◌, ◌++◌, length, Ok, Err, refl, sym, ap, subst, ◌∙◌, append_assoc, arith, inl, inr}
use Rattle.std.specs.Prelude.{IsTrue}
use Rattle.std.proofs.lemmas.List.{append-nil, length-append}
use Rattle.issuer_words.specs.Words.{Frame, Rows, replies_to, rows_after}
use Rattle.file_batch.specs.Words.{AreBlocks, AreReplyBodies, BatchFault, IsBlock, block_at, block_head_at, block_replies_magic, block_text, blocks_magic, blocks_text, ended, head_text, is_of_bytes, replies_to_blocks}
use Rattle.file_blocks.specs.Blocks.{AreDecided, AreAllDecided, BeginsBlock, StopsBehind, StopsBefore, StopsInHead, StopsInBlocks, IsAnswered}
use Rattle.file_batch.specs.Counting.{count_of, plus}
use Rattle.file_batch.specs.Writing.{AppendsPart}
use Rattle.file_batch.specs.declared.body_count.BodyCount.{BodyCount}
use Rattle.file_blocks.specs.declared.kept_blocks.KeptBlocks.{KeptBlocks}
use Rattle.file_laws.proofs.Steps.{nothing_left}
use Rattle.file_laws.proofs.FoldedBlocks.{one_more_rows, one_more_text, one_more_holds, blocks_replied}
use Rattle.file_batch.proofs.Counting.{one_more_count}
use Rattle.file_laws.proofs.InTurn.{one_more}

pub starts : (opening : Rows) (reads : Type 0) (bytes : List ℕ) (puts : Type 0) (old : List ℕ) → AreDecided opening opening 0 (count_of []) reads bytes bytes puts old old
starts opening reads bytes puts old =
    record { blocks = []; number = refl; all = refl; book = refl; bodies = tt; read = λ known. refl; put = λ known. sym (append-nil old) }

pub goes_on : (opening : Rows) (before after : KeptBlocks) (reads reads' : Type 0) (bytes left left' : List ℕ) (puts puts' : Type 0) (old mid new : List ℕ)
    → AreDecided opening before.book before.blocks before.messages reads bytes left puts old mid → IsAnswered before after reads' left left' puts' mid new → (reads → reads') → (puts → puts')
    → AreDecided opening after.book after.blocks after.messages reads bytes left' puts old new
goes_on opening before after reads reads' bytes left left' puts puts' old mid new so_far next still_read still_put =
    let blocks = so_far.blocks in
    let block = next.block in
    record {
      blocks = blocks ++ block ∷ [];
      number = omega (arith, length-append blocks (block ∷ []), so_far.number, next.number);
      all = one_more_count blocks block ∙ ap (λ (c : BodyCount). plus c (count_of block)) so_far.all ∙ sym next.all;
      book = next.book ∙ ap (λ (r : Rows). rows_after r block) so_far.book ∙ sym (one_more_rows opening blocks block);
      bodies = one_more_holds opening blocks block so_far.bodies (subst (λ (r : Rows). AreReplyBodies (replies_to r block)) so_far.book next.bodies);
      read = λ known. one_more IsBlock bytes blocks left block left' (so_far.read known) (next.read (still_read known));
      put = λ known. rw (next.put (still_put known), so_far.put known, one_more_text opening blocks block, ← so_far.book) (append_assoc old (blocks_text (replies_to_blocks opening blocks)) (block_text (replies_to before.book block)));
    }

-- a block's replies were not written, or a beginning of them was
pub begun : (rows : Rows) (reads : Type 0) (bytes left : List ℕ) (puts : Type 0) (old new : List ℕ) (failed same : Type 0) (block : List Frame) → (reads → IsBlock bytes block left)
    → same ⊎ (failed × (puts → AppendsPart old new (block_text (replies_to rows block)))) → same ⊎ BeginsBlock rows reads bytes puts old new failed
begun rows reads bytes left puts old new failed same block read (inl s) = inl s
begun rows reads bytes left puts old new failed same block read (inr p) = inr (p.0, block, left, read, p.1)

as_begun : (rows : Rows) (reads reads' : Type 0) (left : List ℕ) (puts puts' : Type 0) (mid new : List ℕ) (failed failed' same : Type 0) → (reads → reads') → (puts → puts') → (failed' → failed)
    → (same → new ≡ mid) → same ⊎ BeginsBlock rows reads' left puts' mid new failed' → (puts → new ≡ mid) ⊎ BeginsBlock rows reads left puts mid new failed
as_begun rows reads reads' left puts puts' mid new failed failed' same r p f eq (inl s) = inl (λ known. eq s)
as_begun rows reads reads' left puts puts' mid new failed failed' same r p f eq (inr b) = inr (f b.0, b.1, b.2, λ known. b.3 (r known), λ known. b.4 (p known))

pub halts : (total : ℕ) (opening : Rows) (before after : KeptBlocks) (reads reads' : Type 0) (bytes left : List ℕ) (puts puts' : Type 0) (old mid new : List ℕ) (e : BatchFault) (failed failed' same : Type 0)
    → AreDecided opening before.book before.blocks before.messages reads bytes left puts old mid → after ≡ before → before.blocks < total → (reads → reads') → (puts → puts') → (failed' → failed)
    → (reads' → IsTrue (is_of_bytes e) → block_at left ≡ Err e) → same ⊎ BeginsBlock before.book reads' left puts' mid new failed' → (same → new ≡ mid)
    → StopsBehind total opening after.book after.blocks reads bytes puts old new e failed
halts total opening before after reads reads' bytes left puts puts' old mid new e failed failed' same so_far is lt r p f fault next eq =
    subst (λ (k : KeptBlocks). StopsBehind total opening k.book k.blocks reads bytes puts old new e failed) (sym is) (record {
      messages = before.messages;
      left = left;
      mid = mid;
      kept = so_far;
      fails = λ known of_bytes. inl (lt, fault (r known) of_bytes);
      begun = as_begun before.book reads reads' left puts puts' mid new failed failed' same r p f eq next;
    })

-- all blocks are kept, and something stands behind them, or it can't be seen
pub halts_behind : (total : ℕ) (opening rows : Rows) (count : ℕ) (messages : BodyCount) (reads reads' : Type 0) (bytes left : List ℕ) (puts : Type 0) (old new : List ℕ) (e : BatchFault) (failed : Type 0)
    → AreDecided opening rows count messages reads bytes left puts old new → count ≡ total → (reads → reads') → (reads' → IsTrue (is_of_bytes e) → ended left ≡ Err e)
    → StopsBehind total opening rows count reads bytes puts old new e failed
halts_behind total opening rows count messages reads reads' bytes left puts old new e failed so_far same r fault = record {
  messages = messages;
  left = left;
  mid = new;
  kept = so_far;
  fails = λ known of_bytes. inr (same, fault (r known) of_bytes);
  begun = inl (λ known. refl);
}

pub finishes : (opening rows : Rows) (count : ℕ) (messages : BodyCount) (total : ℕ) (reads : Type 0) (bytes behind left : List ℕ) (puts : Type 0) (old mid new : List ℕ)
    → AreDecided opening rows count messages reads behind left puts mid new → count ≡ total → total ≤ 1000 → (reads → block_head_at blocks_magic bytes ≡ Ok (total, behind)) → (reads → ended left ≡ Ok tt)
    → (puts → mid ≡ old ++ head_text block_replies_magic total) → AreAllDecided opening rows count messages reads bytes puts old new
finishes opening rows count messages total reads bytes behind left puts old mid new so_far same few head end heading =
    let blocks = so_far.blocks in
    let number : total ≡ length blocks = sym same ∙ sym so_far.number in
    let replies : length (replies_to_blocks opening blocks) ≡ total = blocks_replied opening blocks ∙ sym number in
    record {
      blocks = blocks;
      number = sym so_far.number;
      all = sym so_far.all;
      book = so_far.book;
      bodies = (rw replies few, so_far.bodies);
      read = λ known. (behind, subst (λ (n : ℕ). block_head_at blocks_magic bytes ≡ Ok (n, behind)) number (head known), subst (λ (l : List ℕ). AreBlocks behind blocks l) (nothing_left left (end known)) (so_far.read known));
      put = λ known. rw (so_far.put known, heading known, replies) (append_assoc old (head_text block_replies_magic total) (blocks_text (replies_to_blocks opening blocks)));
    }

-- the same, seen from before the own head
pub moved : (opening rows : Rows) (count : ℕ) (messages : BodyCount) (reads reads' : Type 0) (bytes left : List ℕ) (puts puts' : Type 0) (old old' new : List ℕ) → AreDecided opening rows count messages reads' bytes left puts' old' new
    → (reads → reads') → (puts → puts') → (puts → old' ≡ old) → AreDecided opening rows count messages reads bytes left puts old new
moved opening rows count messages reads reads' bytes left puts puts' old old' new so_far r p eq = record {
  blocks = so_far.blocks;
  number = so_far.number;
  all = so_far.all;
  book = so_far.book;
  bodies = so_far.bodies;
  read = λ known. so_far.read (r known);
  put = λ known. so_far.put (p known) ∙ ap (λ (x : List ℕ). x ++ blocks_text (replies_to_blocks opening so_far.blocks)) (eq known);
}

moved_begun : (rows : Rows) (reads reads' : Type 0) (left : List ℕ) (puts puts' : Type 0) (mid new : List ℕ) (failed failed' : Type 0) → (reads → reads') → (puts → puts') → (failed' → failed)
    → (puts' → new ≡ mid) ⊎ BeginsBlock rows reads' left puts' mid new failed' → (puts → new ≡ mid) ⊎ BeginsBlock rows reads left puts mid new failed
moved_begun rows reads reads' left puts puts' mid new failed failed' r p f (inl same) = inl (λ known. same (p known))
moved_begun rows reads reads' left puts puts' mid new failed failed' r p f (inr b) = inr (f b.0, b.1, b.2, λ known. b.3 (r known), λ known. b.4 (p known))

pub halts_moved : (total : ℕ) (opening rows : Rows) (count : ℕ) (reads reads' : Type 0) (bytes : List ℕ) (puts puts' : Type 0) (old old' new : List ℕ) (e : BatchFault) (failed failed' : Type 0)
    → StopsBehind total opening rows count reads' bytes puts' old' new e failed' → (reads → reads') → (puts → puts') → (failed' → failed) → (puts → old' ≡ old)
    → StopsBehind total opening rows count reads bytes puts old new e failed
halts_moved total opening rows count reads reads' bytes puts puts' old old' new e failed failed' stops r p f eq = record {
  messages = stops.messages;
  left = stops.left;
  mid = stops.mid;
  kept = moved opening rows count stops.messages reads reads' bytes stops.left puts puts' old old' stops.mid stops.kept r p eq;
  fails = λ known. stops.fails (r known);
  begun = moved_begun rows reads reads' stops.left puts puts' stops.mid new failed failed' r p f stops.begun;
}

pub halts_in_head : (opening : Rows) (count : ℕ) (reads : Type 0) (bytes : List ℕ) (total : ℕ) (behind : List ℕ) (puts : Type 0) (old new : List ℕ) (e : BatchFault) (failed same : Type 0)
    → count ≡ 0 → (reads → block_head_at blocks_magic bytes ≡ Ok (total, behind)) → ¬ IsTrue (is_of_bytes e) → same ⊎ (failed × (puts → AppendsPart old new (head_text block_replies_magic total)))
    → StopsBefore opening opening count reads bytes e same ⊎ (StopsInHead opening opening count reads bytes puts old new failed ⊎ StopsInBlocks opening opening count reads bytes puts old new e failed)
halts_in_head opening count reads bytes total behind puts old new e failed same none head other (inl s) = inl (none, refl, s, λ known of_bytes. absurd (other of_bytes))
halts_in_head opening count reads bytes total behind puts old new e failed same none head other (inr p) = inr (inl (none, refl, p.0, total, behind, head, p.1))
