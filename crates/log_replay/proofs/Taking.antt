-- Messages that are taken one after another, and blocks that are answered.
use Rattle.std.proofs.Common.{◌≡◌, ℕ, zero, suc, false, Result, Ok, Err, ◌≤◌, List, [], ◌∷◌, ◌++◌, length, refl, ap, sym, subst, ◌∙◌, append_assoc, arith}
use Rattle.std.specs.Prelude.{OnOk, ◌==◌}
use Rattle.std.proofs.lemmas.List.{append-nil, length-append}
use Rattle.issuer_words.specs.Words.{Frame, Rows, replies_to, rows_after}
use Rattle.file_batch.specs.Counting.{count_of, plus}
use Rattle.file_batch.specs.declared.body_count.BodyCount.{BodyCount}
use Rattle.file_batch.specs.Words.{AreReplyBodies, all_messages, block_text, blocks_text, replies_to_blocks, rows_after_blocks}
use Rattle.log_replay.specs.Answering.{AnswersBlock, Finishes, HasTaken, Takes, taken}
use Rattle.log_replay.specs.declared.answering.Answering.{Answering}
use Rattle.log_replay.proofs.Cutting.{full_cut, last_cut, one_more_full}
use Rattle.file_batch.proofs.Counting.{one_more_count}
use Rattle.file_laws.proofs.FoldedBlocks.{one_more_holds, one_more_list, one_more_rows, one_more_text}

-- what follows from a result that is none of a fault
pub on_ok : {X E P Q : Type 0} → (P → Q) → (result : Result X E) → OnOk result P → OnOk result Q
on_ok then (Ok x) is = then is
on_ok then (Err e) is = tt

pub not_zero : (n : ℕ) → (n == 0) ≡ false → 1 ≤ n
not_zero zero e = absurd cc
not_zero (suc n) e = omega arith

-- nothing was taken yet
pub none_taken : (rows : Rows) (answering : Answering) → answering.prefix.book ≡ rows → answering.block.items ≡ [] → answering.count ≡ count_of [] → HasTaken rows [] [] answering
none_taken rows answering book none count = record {
  blocks = [];
  full = tt;
  are = sym none;
  book = book;
  count = count;
  replied = refl;
  bodies = tt;
}

-- one message waits more
one_waits : (rows : Rows) (messages : List Frame) (text : List ℕ) (old new : Answering) (frame : Frame) → HasTaken rows messages text old
    → new.prefix.book ≡ old.prefix.book → new.count ≡ old.count → new.block.items ≡ old.block.items ++ frame ∷ []
    → HasTaken rows (messages ++ frame ∷ []) text new
one_waits rows messages text old new frame has book count block = record {
  blocks = has.blocks;
  full = has.full;
  are = ap (λ (x : List Frame). x ++ frame ∷ []) has.are ∙ append_assoc (all_messages has.blocks) old.block.items (frame ∷ []) ∙ ap (λ (x : List Frame). all_messages has.blocks ++ x) (sym block);
  book = book ∙ has.book;
  count = count ∙ has.count;
  replied = has.replied;
  bodies = has.bodies;
}

-- what is written behind blocks and one more
written_more : (rows : Rows) (text : List ℕ) (blocks : List (List Frame)) (block : List Frame) (book : Rows) → book ≡ rows_after_blocks rows blocks
    → text ≡ blocks_text (replies_to_blocks rows blocks) → text ++ block_text (replies_to book block) ≡ blocks_text (replies_to_blocks rows (blocks ++ block ∷ []))
written_more rows text blocks block book is so_far =
    ap (λ (x : List ℕ). x ++ block_text (replies_to book block)) so_far
    ∙ ap (λ (b : Rows). blocks_text (replies_to_blocks rows blocks) ++ block_text (replies_to b block)) is
    ∙ sym (one_more_text rows blocks block)

-- what is written of a block
abbrev pub written_of : Answering → List ℕ
written_of answering = block_text (replies_to answering.prefix.book answering.block.items)

-- a block that is full is answered
full_answered : (rows : Rows) (messages : List Frame) (puts : Type 0) (text had has : List ℕ) (old new : Answering) → HasTaken rows messages text old
    → length old.block.items ≡ 65536 → AnswersBlock old new puts had has → HasTaken rows messages (text ++ written_of old) new
full_answered rows messages puts text had has old new so_far full next =
    let blocks = so_far.blocks in
    let block = old.block.items in
    record {
      blocks = blocks ++ block ∷ [];
      full = one_more_full blocks block so_far.full full;
      are = so_far.are ∙ sym (one_more_list blocks block) ∙ sym (append-nil (all_messages (blocks ++ block ∷ []))) ∙ ap (λ (x : List Frame). all_messages (blocks ++ block ∷ []) ++ x) (sym next.empty);
      book = next.book ∙ ap (λ (r : Rows). rows_after r block) so_far.book ∙ sym (one_more_rows rows blocks block);
      count = next.count ∙ ap (λ (c : BodyCount). plus c (count_of block)) so_far.count ∙ sym (one_more_count blocks block);
      replied = written_more rows text blocks block old.prefix.book so_far.book so_far.replied;
      bodies = one_more_holds rows blocks block so_far.bodies (subst (λ (r : Rows). AreReplyBodies (replies_to r block)) so_far.book next.bodies);
    }

-- one message more waits for its block to be full
pub waits : (old new : Answering) (frame : Frame) (puts : Type 0) (had : List ℕ) → new.prefix.book ≡ old.prefix.book → new.count ≡ old.count
    → new.block.items ≡ old.block.items ++ frame ∷ [] → Takes old new (frame ∷ []) puts had had
waits old new frame puts had book count block rows messages text has = (
  [],
  subst (λ (t : List ℕ). HasTaken rows (messages ++ frame ∷ []) t new) (sym (append-nil text)) (one_waits rows messages text old new frame has book count block),
  λ known. sym (append-nil had),
)

-- one message more makes its block full, which is answered
pub fills : (old middle new : Answering) (frame : Frame) (puts : Type 0) (had has : List ℕ) → middle.prefix.book ≡ old.prefix.book → middle.count ≡ old.count
    → middle.block.items ≡ old.block.items ++ frame ∷ [] → length middle.block.items ≡ 65536 → AnswersBlock middle new puts had has → Takes old new (frame ∷ []) puts had has
fills old middle new frame puts had has book count block full next rows messages text taken = (
  written_of middle,
  full_answered rows (messages ++ frame ∷ []) puts text had has middle new (one_waits rows messages text old middle frame taken book count block) full next,
  next.replied,
)

-- none more is taken
pub nothing : (answering : Answering) (puts : Type 0) (had : List ℕ) → Takes answering answering [] puts had had
nothing answering puts had rows messages text has = (
  [],
  subst (λ (t : List ℕ). HasTaken rows (messages ++ []) t answering) (sym (append-nil text)) (subst (λ (m : List Frame). HasTaken rows m text answering) (sym (append-nil messages)) has),
  λ known. sym (append-nil had),
)

-- some more are taken, and others behind them
pub joined : (old middle new : Answering) (some more : List Frame) (puts later : Type 0) (had between has : List ℕ) → (puts → later) → Takes old middle some puts had between
    → Takes middle new more later between has → Takes old new (some ++ more) puts had has
joined old middle new some more puts later had between has still first then rows messages text taken =
    let one = first rows messages text taken in
    let two = then rows (messages ++ some) (text ++ one.0) one.1 in (
      one.0 ++ two.0,
      subst (λ (t : List ℕ). HasTaken rows (messages ++ (some ++ more)) t new) (append_assoc text one.0 two.0)
          (subst (λ (m : List Frame). HasTaken rows m ((text ++ one.0) ++ two.0) new) (append_assoc messages some more) two.1),
      λ known. two.2 (still known) ∙ ap (λ (x : List ℕ). x ++ two.0) (one.2 known) ∙ append_assoc had one.0 two.0,
    )

-- the last block has no message
pub none_left : (answering : Answering) (puts : Type 0) (had : List ℕ) → answering.block.items ≡ [] → Finishes answering answering puts had had
none_left answering puts had none rows messages text has =
    let all : all_messages has.blocks ≡ messages = sym (has.are ∙ ap (λ (x : List Frame). all_messages has.blocks ++ x) none ∙ append-nil (all_messages has.blocks)) in (
      [],
      record {
        blocks = has.blocks;
        cut = record { all = all; cut = full_cut has.blocks has.full };
        book = has.book;
        count = has.count ∙ ap count_of all;
        replied = append-nil text ∙ has.replied;
        bodies = has.bodies;
      },
      λ known. sym (append-nil had),
    )

-- the last block is answered
pub last_answered : (old new : Answering) (puts : Type 0) (had has : List ℕ) → 1 ≤ length old.block.items → length old.block.items ≤ 65536
    → AnswersBlock old new puts had has → Finishes old new puts had has
last_answered old new puts had has some few next rows messages text so_far =
    let blocks = so_far.blocks in
    let block = old.block.items in
    let all : all_messages (blocks ++ block ∷ []) ≡ messages = one_more_list blocks block ∙ sym so_far.are in (
      written_of old,
      record {
        blocks = blocks ++ block ∷ [];
        cut = record { all = all; cut = last_cut blocks block so_far.full some few };
        book = next.book ∙ ap (λ (r : Rows). rows_after r block) so_far.book ∙ sym (one_more_rows rows blocks block);
        count = next.count ∙ ap (λ (c : BodyCount). plus c (count_of block)) so_far.count ∙ sym (one_more_count blocks block) ∙ ap count_of all;
        replied = written_more rows text blocks block old.prefix.book so_far.book so_far.replied;
        bodies = one_more_holds rows blocks block so_far.bodies (subst (λ (r : Rows). AreReplyBodies (replies_to r block)) so_far.book next.bodies);
      },
      next.replied,
    )

-- how many were taken
pub taken_all : (rows : Rows) (messages : List Frame) (text : List ℕ) (answering : Answering) → HasTaken rows messages text answering → taken answering ≡ length messages
taken_all rows messages text answering has =
    omega (arith, ap (λ (c : BodyCount). c.bodies) has.count, ap length has.are, length-append (all_messages has.blocks) answering.block.items)

-- a head was written, and two texts behind it
pub all_written : (had first second has head one two : List ℕ) → first ≡ had ++ head → second ≡ first ++ one → has ≡ second ++ two → has ≡ had ++ (head ++ (one ++ two))
all_written had first second has head one two h k l =
    l ∙ ap (λ (x : List ℕ). x ++ two) (k ∙ ap (λ (x : List ℕ). x ++ one) h) ∙ append_assoc (had ++ head) one two ∙ append_assoc had head (one ++ two)
