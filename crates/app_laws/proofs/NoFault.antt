-- A file that is read has no fault.
use Rattle.std.proofs.Common.{◌≡◌, ◌<◌, ℕ, zero, suc, List, [], ◌∷◌, length, Result, Ok, Err, sym, ap, ◌∙◌, subst, arith, inl, inr}
use Rattle.issuer_words.specs.Words.{Frame, ReplyBody}
use Rattle.file_batch.specs.Words.{AreBlocks, AreRepliesOf, AreReplyBlocks, BatchFault, FailsAsBlockReplies, FailsAsReplies, FailsAt, FailsInReplyBlock, InTurn, IsBlock, IsBlockFileOf, IsBlockReplyFileOf, IsReplyBlock, IsReplyFileOf, IsReplyText, all_replies, block_at, block_head_at, block_replies_magic, blocks_magic, bodies_at, bodies_of, body_at, count_at, ended, head_at, replies_magic, ◌>>=◌}
use Rattle.app_jobs.specs.BlockFaults.{FailsAsBlocks}
use Rattle.file_laws.proofs.Steps.{bind_ok, ok_injective}

-- ---- one answer

ok_or_err : {A : Type 0} (x : A) (fault : BatchFault) → Path (Result A BatchFault) (Ok x) (Err fault) → ⊥
ok_or_err x fault e = cc

pub one_value : {A : Type 0} (r : Result A BatchFault) (x y : A) → r ≡ Ok x → r ≡ Ok y → x ≡ y
one_value r x y a b = ok_injective x y (sym a ∙ b)

pub no_both : {A : Type 0} (r : Result A BatchFault) (x : A) (fault : BatchFault) → r ≡ Ok x → r ≡ Err fault → ⊥
no_both r x fault a b = ok_or_err x fault (sym a ∙ b)

-- ---- replies

-- the next body is the text of a reply
record IsNextReply (left : List ℕ) : Type 0 where
  body : List ℕ
  more : List ℕ
  read : body_at left ≡ Ok (body, more)
  reply : ReplyBody
  is : IsReplyText body reply

first_reply : (body : List ℕ) (others : List (List ℕ)) (replies : List ReplyBody) → AreRepliesOf (body ∷ others) replies
    → ((reply : ReplyBody) × IsReplyText body reply) × ((rest : List ReplyBody) × AreRepliesOf others rest)
first_reply body others [] are = absurd are
first_reply body others (reply ∷ replies) are = ((reply, are.0), (replies, are.1))

-- behind some of the bodies that were read stands the next one
next_reply : (count number : ℕ) (bytes : List ℕ) (front bodies : List (List ℕ)) (left rest : List ℕ) (replies : List ReplyBody) → number < count
    → bodies_at number bytes ≡ Ok (front, left) → bodies_at count bytes ≡ Ok (bodies, rest) → AreRepliesOf bodies replies → IsNextReply left
unfolding bodies_at
next_reply zero number bytes front bodies left rest replies lt some all are = absurd (omega (arith, lt))
next_reply (suc n) zero bytes front bodies left rest replies lt some all are =
    let a = bind_ok (body_at bytes) (λ b. bodies_at n b.1 >>= λ others. Ok (b.0 ∷ others.0, others.1)) (bodies, rest) all in
    let b = bind_ok (bodies_at n a.0.1) (λ others. Ok (a.0.0 ∷ others.0, others.1)) (bodies, rest) a.2 in
    let whole : a.0.0 ∷ b.0.0 ≡ bodies = ap (λ (p : List (List ℕ) × List ℕ). p.0) (ok_injective (a.0.0 ∷ b.0.0, b.0.1) (bodies, rest) b.2) in
    let here : bytes ≡ left = ap (λ (p : List (List ℕ) × List ℕ). p.1) (ok_injective ([], bytes) (front, left) some) in
    let first = first_reply a.0.0 b.0.0 replies (subst (λ (bs : List (List ℕ)). AreRepliesOf bs replies) (sym whole) are) in
    subst IsNextReply here (record { body = a.0.0; more = a.0.1; read = a.1; reply = first.0.0; is = first.0.1 })
next_reply (suc n) (suc m) bytes front bodies left rest replies lt some all are =
    let a = bind_ok (body_at bytes) (λ b. bodies_at n b.1 >>= λ others. Ok (b.0 ∷ others.0, others.1)) (bodies, rest) all in
    let b = bind_ok (bodies_at n a.0.1) (λ others. Ok (a.0.0 ∷ others.0, others.1)) (bodies, rest) a.2 in
    let whole : a.0.0 ∷ b.0.0 ≡ bodies = ap (λ (p : List (List ℕ) × List ℕ). p.0) (ok_injective (a.0.0 ∷ b.0.0, b.0.1) (bodies, rest) b.2) in
    let c = bind_ok (body_at bytes) (λ b. bodies_at m b.1 >>= λ others. Ok (b.0 ∷ others.0, others.1)) (front, left) some in
    let d = bind_ok (bodies_at m c.0.1) (λ others. Ok (c.0.0 ∷ others.0, others.1)) (front, left) c.2 in
    let same : c.0.1 ≡ a.0.1 = ap (λ (p : List ℕ × List ℕ). p.1) (one_value (body_at bytes) c.0 a.0 c.1 a.1) in
    let end : d.0.1 ≡ left = ap (λ (p : List (List ℕ) × List ℕ). p.1) (ok_injective (c.0.0 ∷ d.0.0, d.0.1) (front, left) d.2) in
    let read : bodies_at m a.0.1 ≡ Ok (d.0.0, d.0.1) = ap (bodies_at m) (sym same) ∙ d.1 in
    let first = first_reply a.0.0 b.0.0 replies (subst (λ (bs : List (List ℕ)). AreRepliesOf bs replies) (sym whole) are) in
    subst IsNextReply end (next_reply n m a.0.1 d.0.0 b.0.0 d.0.1 b.0.1 first.1.0 (omega (arith, lt)) read b.1 first.1.1)

-- among bodies that are read as replies none fails
none_fails : (from count : ℕ) (bytes : List ℕ) (bodies : List (List ℕ)) (rest : List ℕ) (replies : List ReplyBody) (fault : BatchFault)
    → bodies_at count bytes ≡ Ok (bodies, rest) → AreRepliesOf bodies replies → FailsAt from count bytes fault → ⊥
none_fails from count bytes bodies rest replies fault all are fails =
    let next = next_reply count fails.number bytes fails.read.0 bodies fails.left rest replies fails.within fails.read.1 all are in
    elim fails.next [
      | inl wrong ↦ no_both (body_at fails.left) (next.body, next.more) fault next.read wrong
      | inr none ↦
          let same : next.body ≡ none.0 = ap (λ (p : List ℕ × List ℕ). p.0) (one_value (body_at fails.left) (next.body, next.more) (none.0, none.1) next.read none.2) in
          none.3 next.reply (subst (λ (body : List ℕ). IsReplyText body next.reply) same next.is)
    ]

-- how a file's bodies were read
record AreReadFrom (magic bytes : List ℕ) (bodies : List (List ℕ)) : Type 0 where
  count : ℕ
  behind : List ℕ
  left : List ℕ
  head : head_at magic bytes ≡ Ok (count, behind)
  all : bodies_at count behind ≡ Ok (bodies, left)
  end : (u : Unit {0}) × (ended left ≡ Ok u)

read_from : (magic bytes : List ℕ) (bodies : List (List ℕ)) → bodies_of magic bytes ≡ Ok bodies → AreReadFrom magic bytes bodies
unfolding bodies_of
read_from magic bytes bodies read =
    let a = bind_ok (head_at magic bytes) (λ count. bodies_at count.0 count.1 >>= λ bodies. ended bodies.1 >>= λ _. Ok bodies.0) bodies read in
    let b = bind_ok (bodies_at a.0.0 a.0.1) (λ bodies. ended bodies.1 >>= λ _. Ok bodies.0) bodies a.2 in
    let c = bind_ok (ended b.0.1) (λ _. let r : Result (List (List ℕ)) BatchFault = Ok b.0.0 in r) bodies b.2 in
    let whole : b.0.0 ≡ bodies = ok_injective b.0.0 bodies c.2 in
    record {
      count = a.0.0;
      behind = a.0.1;
      left = b.0.1;
      head = a.1;
      all = b.1 ∙ ap (λ (bs : List (List ℕ)). let r : Result (List (List ℕ) × List ℕ) BatchFault = Ok (bs, b.0.1) in r) whole;
      end = (c.0, c.1);
    }

-- a reply file that is read has no fault
pub no_reply_fault : (bytes : List ℕ) (replies : List ReplyBody) (fault : BatchFault) → IsReplyFileOf bytes replies → FailsAsReplies bytes fault → ⊥
no_reply_fault bytes replies fault file (inl head) =
    let read = read_from replies_magic bytes file.0 file.1 in
    no_both (head_at replies_magic bytes) (read.count, read.behind) fault read.head head
no_reply_fault bytes replies fault file (inr h) =
    let read = read_from replies_magic bytes file.0 file.1 in
    let head = one_value (head_at replies_magic bytes) (read.count, read.behind) (h.0, h.1) read.head h.2 in
    let count : read.count ≡ h.0 = ap (λ (p : ℕ × List ℕ). p.0) head in
    let behind : read.behind ≡ h.1 = ap (λ (p : ℕ × List ℕ). p.1) head in
    let all : bodies_at h.0 h.1 ≡ Ok (file.0, read.left) = rw (← count, ← behind) read.all in
    elim h.3 [
      | inl fails ↦ none_fails 0 h.0 h.1 file.0 read.left replies fault all file.2 fails
      | inr more ↦
          let left : read.left ≡ more.1 = ap (λ (p : List (List ℕ) × List ℕ). p.1) (one_value (bodies_at h.0 h.1) (file.0, read.left) (more.2.0, more.1) all more.2.1) in
          no_both (ended read.left) read.end.0 fault read.end.1 (rw left more.3)
    ]

-- ---- blocks

-- whatever stands in turn is a block of bodies
abbrev AreOfBodies : {A : Type 0} → (List ℕ → A → List ℕ → Type 0) → Type 0
AreOfBodies {A} is = (bytes : List ℕ) (x : A) (left : List ℕ) → is bytes x left → (bodies : List (List ℕ)) × (block_at bytes ≡ Ok (bodies, left))

same_left : {A : Type 0} (is : List ℕ → A → List ℕ → Type 0) (of : AreOfBodies is) (bytes : List ℕ) (x y : A) (left next : List ℕ)
    → is bytes x left → is bytes y next → left ≡ next
same_left is of bytes x y left next a b =
    let first = of bytes x left a in
    let second = of bytes y next b in
    ap (λ (p : List (List ℕ) × List ℕ). p.1) (one_value (block_at bytes) (first.0, left) (second.0, next) first.1 second.1)

-- as many blocks leave the same bytes
turn_left : {A : Type 0} (is : List ℕ → A → List ℕ → Type 0) (of : AreOfBodies is) (some all : List A) (bytes left rest : List ℕ)
    → length some ≡ length all → InTurn is bytes some left → InTurn is bytes all rest → left ≡ rest
turn_left is of [] [] bytes left rest same a b = sym a ∙ b
turn_left is of [] (y ∷ ys) bytes left rest same a b = absurd (omega (arith, same))
turn_left is of (x ∷ xs) [] bytes left rest same a b = absurd (omega (arith, same))
turn_left is of (x ∷ xs) (y ∷ ys) bytes left rest same a b =
    let next = same_left is of bytes x y a.0 b.0 a.1 b.1 in
    turn_left is of xs ys b.0 left rest (omega (arith, same)) (subst (λ (bs : List ℕ). InTurn is bs xs left) next a.2) b.2

-- behind fewer blocks stands the next one
turn_next : {A : Type 0} (is : List ℕ → A → List ℕ → Type 0) (of : AreOfBodies is) (some all : List A) (bytes left rest : List ℕ)
    → length some < length all → InTurn is bytes some left → InTurn is bytes all rest → (x : A) × (next : List ℕ) × is left x next
turn_next is of some [] bytes left rest lt a b = absurd (omega (arith, lt))
turn_next is of [] (y ∷ ys) bytes left rest lt a b = (y, b.0, subst (λ (bs : List ℕ). is bs y b.0) a b.1)
turn_next is of (x ∷ xs) (y ∷ ys) bytes left rest lt a b =
    let next = same_left is of bytes x y a.0 b.0 a.1 b.1 in
    turn_next is of xs ys b.0 left rest (omega (arith, lt)) (subst (λ (bs : List ℕ). InTurn is bs xs left) next a.2) b.2

blocks_of_bodies : AreOfBodies IsBlock
blocks_of_bodies bytes block left is = (is.0, is.1)

replies_of_bodies : AreOfBodies IsReplyBlock
replies_of_bodies bytes block left is = (is.0, is.1)

no_end : (left : List ℕ) (fault : BatchFault) → left ≡ [] → ended left ≡ Err fault → ⊥
no_end left fault none e = ok_or_err tt fault (ap ended (sym none) ∙ e)

-- a block file that is read has no fault
pub no_block_fault : (bytes : List ℕ) (blocks : List (List Frame)) (fault : BatchFault) → IsBlockFileOf bytes blocks → FailsAsBlocks bytes fault → ⊥
no_block_fault bytes blocks fault file (inl head) = no_both (block_head_at blocks_magic bytes) (length blocks, file.0) fault file.1 head
no_block_fault bytes blocks fault file (inr h) =
    let head = one_value (block_head_at blocks_magic bytes) (length blocks, file.0) (h.0, h.1) file.1 h.2 in
    let count : length blocks ≡ h.0 = ap (λ (p : ℕ × List ℕ). p.0) head in
    let behind : file.0 ≡ h.1 = ap (λ (p : ℕ × List ℕ). p.1) head in
    let all : AreBlocks h.1 blocks [] = rw (← behind) file.2 in
    let some = h.3 in
    elim some.3 [
      | inl wrong ↦
          let next = turn_next IsBlock blocks_of_bodies some.0 blocks h.1 some.1 [] (omega (arith, wrong.0, count)) some.2 all in
          no_both (block_at some.1) (next.2.0, next.1) fault next.2.1 wrong.1
      | inr more ↦ no_end some.1 fault (turn_left IsBlock blocks_of_bodies some.0 blocks h.1 some.1 [] (more.0 ∙ sym count) some.2 all) more.1
    ]

-- how a block's bodies were read
block_parts : (bytes : List ℕ) (bodies : List (List ℕ)) (left : List ℕ) → block_at bytes ≡ Ok (bodies, left)
    → (count : ℕ × List ℕ) × (count_at bytes ≡ Ok count) × (bodies_at count.0 count.1 ≡ Ok (bodies, left))
unfolding block_at
block_parts bytes bodies left read = bind_ok (count_at bytes) (λ count. bodies_at count.0 count.1) (bodies, left) read

-- a block of replies that is read has no fault
no_fault_in_block : (from : ℕ) (bytes : List ℕ) (block : List ReplyBody) (left : List ℕ) (fault : BatchFault) → IsReplyBlock bytes block left
    → FailsInReplyBlock from bytes fault → ⊥
no_fault_in_block from bytes block left fault is (inl wrong) =
    let parts = block_parts bytes is.0 left is.1 in
    no_both (count_at bytes) parts.0 fault parts.1 wrong
no_fault_in_block from bytes block left fault is (inr h) =
    let parts = block_parts bytes is.0 left is.1 in
    let same = one_value (count_at bytes) parts.0 (h.0, h.1) parts.1 h.2 in
    let all : bodies_at h.0 h.1 ≡ Ok (is.0, left) = subst (λ (p : ℕ × List ℕ). bodies_at p.0 p.1 ≡ Ok (is.0, left)) same parts.2 in
    none_fails from h.0 h.1 is.0 left block fault all is.2 h.3

-- a file of replies of blocks that is read has no fault
pub no_block_reply_fault : (bytes : List ℕ) (replies : List (List ReplyBody)) (fault : BatchFault) → IsBlockReplyFileOf bytes replies
    → FailsAsBlockReplies bytes fault → ⊥
no_block_reply_fault bytes replies fault file (inl head) = no_both (block_head_at block_replies_magic bytes) (length replies, file.0) fault file.1 head
no_block_reply_fault bytes replies fault file (inr h) =
    let head = one_value (block_head_at block_replies_magic bytes) (length replies, file.0) (h.0, h.1) file.1 h.2 in
    let count : length replies ≡ h.0 = ap (λ (p : ℕ × List ℕ). p.0) head in
    let behind : file.0 ≡ h.1 = ap (λ (p : ℕ × List ℕ). p.1) head in
    let all : AreReplyBlocks h.1 replies [] = rw (← behind) file.2 in
    let some = h.3 in
    elim some.3 [
      | inl wrong ↦
          let next = turn_next IsReplyBlock replies_of_bodies some.0 replies h.1 some.1 [] (omega (arith, wrong.0, count)) some.2 all in
          no_fault_in_block (length (all_replies some.0)) some.1 next.0 next.1 fault next.2 wrong.1
      | inr more ↦ no_end some.1 fault (turn_left IsReplyBlock replies_of_bodies some.0 replies h.1 some.1 [] (more.0 ∙ sym count) some.2 all) more.1
    ]
