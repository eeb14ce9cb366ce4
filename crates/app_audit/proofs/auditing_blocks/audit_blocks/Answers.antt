use Rattle.std.proofs.Common.{◌≡◌, ◌≤◌, ◌<◌, ℕ, List, IfOk, length, map, refl, sym, ap, subst, ◌∙◌, arith}
use Rattle.std.proofs.lemmas.Bool.{false≢true}
use Rattle.std.proofs.lemmas.Result.{IfOk-weaker}
use Rattle.file_laws.specs.Blocks.{replies_to_blocks}
use Rattle.issuer_words.specs.Words.{ReplyBody, Rows, replies_to}
use Rattle.app_audit.specs.Blocks.{FindsInBlocks}
use Rattle.app_audit.specs.Difference.{IsFirstDifference}
use Rattle.app_audit.proofs.BlockSteps.{goes_on, ends, differs, counts_of_replies, same_lengths, same_count}
use Rattle.app_audit.proofs.auditing_blocks.audit_blocks.Goals as goal

pub returns-then-not-have_same_counts : goal.returns-then-not-have_same_counts
returns-then-not-have_same_counts c =
    λ same. false≢true (sym c.if-not-have_same_counts.true ∙ c.have_same_counts.ensures.1 (sym (same ∙ counts_of_replies c.args.book.now (map (λ b. b.items) c.args.blocks.now))))

pub bounds-replies-block : goal.bounds-replies-block
bounds-replies-block c =
    subst (λ (n : ℕ). c.loop-block.block < n)
    (same_lengths (λ b. b.items) (λ b. b.items) c.args.blocks.now c.args.replies.now (c.have_same_counts.ensures.0 c.if-not-have_same_counts.false)) c.loop-block-test.true

pub decided_block-requires-clause-few : goal.decided_block-requires-clause-few
decided_block-requires-clause-few c =
    let v = c.index-blocks-block.result in
    let few : length v.items ≤ 65536 = subst (λ b. length b.items ≤ 65536) (sym c.index-blocks-block.is) (c.requires.frames c.loop-block.block v c.loop-block-test.true) in
    subst (λ (n : ℕ). n ≤ 65536) (sym (ap length c.deref.ensures.value)) few

pub decided_block-requires-clause-count : goal.decided_block-requires-clause-count
decided_block-requires-clause-count c =
    let v = c.index-blocks-block.result in
    let w = c.index-replies-block.result in
    let counted = c.have_same_counts.ensures.0 c.if-not-have_same_counts.false in
    let within : c.loop-block.block < length c.args.replies.now = subst (λ (n : ℕ). c.loop-block.block < n) (same_lengths (λ b. b.items) (λ b. b.items) c.args.blocks.now c.args.replies.now counted) c.loop-block-test.true in
    ap length c.deref-in-loop-block.ensures.value
    ∙ same_count (λ b. b.items) (λ b. b.items) c.args.blocks.now c.args.replies.now c.loop-block.block v w counted c.loop-block-test.true within c.index-blocks-block.is c.index-replies-block.is
    ∙ sym (ap length c.deref.ensures.value)

pub returns-in-Some : goal.returns-in-Some
returns-in-Some c =
    let v = c.index-blocks-block.result in
    let w = c.index-replies-block.result in
    let counted = c.have_same_counts.ensures.0 c.if-not-have_same_counts.false in
    let within : c.loop-block.block < length c.args.replies.now = subst (λ (n : ℕ). c.loop-block.block < n) (same_lengths (λ b. b.items) (λ b. b.items) c.args.blocks.now c.args.replies.now counted) c.loop-block-test.true in
    let here : IsFirstDifference w.items (replies_to c.loop-block.right v.items) c.in-Some.index =
    rw c.in-Some.is at (rw (c.deref.ensures.value, c.deref-in-loop-block.ensures.value) at c.in_ok-decided.ensures.some) in (
      sym counted ∙ sym (counts_of_replies c.args.book.now (map (λ b. b.items) c.args.blocks.now)),
      differs (λ b. b.items) (λ b. b.items) c.args.blocks.now c.args.replies.now c.args.book.now c.loop-block.right c.loop-block.block v w (replies_to c.loop-block.right v.items) c.in-Some.index
          c.loop-block.invariant c.loop-block-test.true within c.index-blocks-block.is c.index-replies-block.is refl here,
    )

pub loop-block-preserved : goal.loop-block-preserved
loop-block-preserved c =
    let v = c.index-blocks-block.result in
    let w = c.index-replies-block.result in
    let counted = c.have_same_counts.ensures.0 c.if-not-have_same_counts.false in
    let within : c.loop-block.block < length c.args.replies.now = subst (λ (n : ℕ). c.loop-block.block < n) (same_lengths (λ b. b.items) (λ b. b.items) c.args.blocks.now c.args.replies.now counted) c.loop-block-test.true in
    let same : w.items ≡ replies_to c.loop-block.right v.items =
    rw c.in_default.is at (rw (c.deref.ensures.value, c.deref-in-loop-block.ensures.value) at c.in_ok-decided.ensures.none) in
    goes_on (λ b. b.items) (λ b. b.items) c.args.blocks.now c.args.replies.now c.args.book.now c.loop-block.right c.in_ok-decided.decided c.loop-block.block v w
    c.loop-block.invariant c.loop-block-test.true within c.index-blocks-block.is c.index-replies-block.is same (rw c.deref.ensures.value at c.in_ok-decided.ensures.book)

pub returns : goal.returns
returns c =
    let counted = c.have_same_counts.ensures.0 c.if-not-have_same_counts.false in
    let end : length c.args.blocks.now ≡ c.loop-block.block = omega (arith, c.loop-block-test.false) in
    let replies = map (λ b. b.items) c.args.replies.now in
    let done = ends (λ b. b.items) (λ b. b.items) c.args.blocks.now c.args.replies.now c.args.book.now c.loop-block.right c.loop-block.block
    c.loop-block.invariant end (sym (same_lengths (λ b. b.items) (λ b. b.items) c.args.blocks.now c.args.replies.now counted) ∙ end) in
    let finds = IfOk-weaker c.compared_after.result _ _ (λ found h. h replies) c.compared_after.ensures in
    subst (λ (rows : Rows). IfOk c.compared_after.result (FindsInBlocks replies c.args.after.now (replies_to_blocks c.args.book.now (map (λ b. b.items) c.args.blocks.now)) rows)) done.1
    (subst (λ (right : List (List ReplyBody)). IfOk c.compared_after.result (FindsInBlocks replies c.args.after.now right c.loop-block.right)) done.0 finds)
