-- Going over blocks as long as their replies are right.
use Rattle.std.proofs.Common.{◌≡◌, ◌≤◌, ◌<◌, ◌+◌, ℕ, zero, suc, List, [], ◌∷◌, ◌++◌, length, map, take, drop, get_or, slice_index_or, refl, sym, ap, ◌∙◌, arith}
use Rattle.std.proofs.Math.Seq.{take-length}
use Rattle.std.proofs.lemmas.List.{append_assoc, append-nil, take-append-drop}
use Rattle.issuer_fold.proofs.FoldLaws.{length-replies_to}
use Rattle.issuer_words.specs.Words.{Frame, ReplyBody, Rows, replies_to, rows_after}
use Rattle.file_laws.specs.Blocks.{rows_after_blocks, replies_to_blocks}
use Rattle.app_audit.specs.Blocks.{counts, IsFirstDifferenceInBlocks}
use Rattle.app_audit.specs.Difference.{IsFirstDifference}

-- the first k blocks are right, and these are the rows after them
pub record AreRightSoFar (book : Rows) (blocks : List (List Frame)) (replies : List (List ReplyBody)) (right : Rows) (k : ℕ) : Type 0 where
  pub are : replies_to_blocks book blocks ≡ take k replies ++ replies_to_blocks right (drop k blocks)
  pub after : rows_after_blocks book blocks ≡ rows_after_blocks right (drop k blocks)

pub starts : (book : Rows) (blocks : List (List Frame)) (replies : List (List ReplyBody)) → AreRightSoFar book blocks replies book 0
starts book blocks replies = record { are = refl; after = refl }

one_more : (k : ℕ) → suc k ≡ k + 1
one_more k = omega arith

-- the block at this place, and those behind it
dropped : {V X : Type 0} (f : V → List X) (vs : List V) (k : ℕ) (v : V) → k < length vs → v ≡ get_or vs k v → drop k (map f vs) ≡ f v ∷ drop (suc k) (map f vs)
dropped f [] k v within is = absurd (omega arith)
dropped f (w ∷ ws) zero v within is = λ i. f (sym is i) ∷ map f ws
dropped f (w ∷ ws) (suc k) v within is = dropped f ws k v (omega arith) is

dropped_at : {V X : Type 0} (f : V → List X) (vs : List V) (k : ℕ) (v : V) → k < length vs → v ≡ get_or vs k v → drop k (map f vs) ≡ f v ∷ drop (k + 1) (map f vs)
dropped_at f vs k v within is = dropped f vs k v within is ∙ ap (λ (n : ℕ). f v ∷ drop n (map f vs)) (one_more k)

-- the blocks up to this place
taken : {V X : Type 0} (f : V → List X) (vs : List V) (k : ℕ) (v : V) → k < length vs → v ≡ get_or vs k v → take (suc k) (map f vs) ≡ take k (map f vs) ++ f v ∷ []
taken f [] k v within is = absurd (omega arith)
taken f (w ∷ ws) zero v within is = λ i. f (sym is i) ∷ []
taken f (w ∷ ws) (suc k) v within is = λ i. f w ∷ taken f ws k v (omega arith) is i

taken_at : {V X : Type 0} (f : V → List X) (vs : List V) (k : ℕ) (v : V) → k < length vs → v ≡ get_or vs k v → take (k + 1) (map f vs) ≡ take k (map f vs) ++ f v ∷ []
taken_at f vs k v within is = ap (λ (n : ℕ). take n (map f vs)) (sym (one_more k)) ∙ taken f vs k v within is

pub goes_on : {V W : Type 0} (f : V → List Frame) (g : W → List ReplyBody) (vs : List V) (ws : List W) (book right new : Rows) (k : ℕ) (v : V) (w : W)
    → AreRightSoFar book (map f vs) (map g ws) right k → k < length vs → k < length ws → v ≡ get_or vs k v → w ≡ get_or ws k w
    → g w ≡ replies_to right (f v) → new ≡ rows_after right (f v) → AreRightSoFar book (map f vs) (map g ws) new (k + 1)
goes_on f g vs ws book right new k v w so l m is too same rows =
    let rest = drop (k + 1) (map f vs) in
    let front = take k (map g ws) in
    record {
      are = so.are ∙ ap (λ (bs : List (List Frame)). front ++ replies_to_blocks right bs) (dropped_at f vs k v l is)
          ∙ (λ i. front ++ sym same i ∷ replies_to_blocks (sym rows i) rest)
          ∙ sym (append_assoc front (g w ∷ []) (replies_to_blocks new rest))
          ∙ ap (λ (rs : List (List ReplyBody)). rs ++ replies_to_blocks new rest) (sym (taken_at g ws k w m too));
      after = so.after ∙ ap (rows_after_blocks right) (dropped_at f vs k v l is) ∙ ap (λ (r : Rows). rows_after_blocks r rest) (sym rows);
    }

length-map : {V X : Type 0} (f : V → List X) (vs : List V) → length (map f vs) ≡ length vs
length-map f [] = refl
length-map f (v ∷ vs) = ap suc (length-map f vs)

all_dropped : {X : Type 0} (xs : List X) (k : ℕ) → length xs ≡ k → drop k xs ≡ []
all_dropped [] zero e = refl
all_dropped [] (suc k) e = refl
all_dropped (x ∷ xs) zero e = absurd (omega arith)
all_dropped (x ∷ xs) (suc k) e = all_dropped xs k (omega arith)

-- all blocks are right
pub ends : {V W : Type 0} (f : V → List Frame) (g : W → List ReplyBody) (vs : List V) (ws : List W) (book right : Rows) (k : ℕ)
    → AreRightSoFar book (map f vs) (map g ws) right k → length vs ≡ k → length ws ≡ k → (map g ws ≡ replies_to_blocks book (map f vs)) × (right ≡ rows_after_blocks book (map f vs))
ends f g vs ws book right k so l m =
    let none : drop k (map f vs) ≡ [] = all_dropped (map f vs) k (length-map f vs ∙ l) in
    let all : take k (map g ws) ≡ map g ws = ap (λ (n : ℕ). take n (map g ws)) (sym (length-map g ws ∙ m)) ∙ take-length (map g ws) in (
      sym (so.are ∙ ap (λ (bs : List (List Frame)). take k (map g ws) ++ replies_to_blocks right bs) none ∙ append-nil (take k (map g ws)) ∙ all),
      sym (so.after ∙ ap (rows_after_blocks right) none),
    )

length-taken : {X : Type 0} (xs : List X) (k : ℕ) → k ≤ length xs → k ≡ length (take k xs)
length-taken xs zero l = refl
length-taken [] (suc k) l = absurd (omega arith)
length-taken (x ∷ xs) (suc k) l = ap suc (length-taken xs k (omega arith))

-- this block isn't right
pub differs : {V W : Type 0} (f : V → List Frame) (g : W → List ReplyBody) (vs : List V) (ws : List W) (book right : Rows) (k : ℕ) (v : V) (w : W) (theirs : List ReplyBody) (index : ℕ)
    → AreRightSoFar book (map f vs) (map g ws) right k → k < length vs → k < length ws → v ≡ get_or vs k v → w ≡ get_or ws k w
    → theirs ≡ replies_to right (f v) → IsFirstDifference (g w) theirs index → IsFirstDifferenceInBlocks (map g ws) (replies_to_blocks book (map f vs)) k index
differs f g vs ws book right k v w theirs index so l m is too same here =
    record {
      front = take k (map g ws);
      mine = g w;
      theirs = theirs;
      my_rest = drop (k + 1) (map g ws);
      their_rest = replies_to_blocks (rows_after right (f v)) (drop (k + 1) (map f vs));
      are = sym (take-append-drop k (map g ws)) ∙ ap (λ (rs : List (List ReplyBody)). take k (map g ws) ++ rs) (dropped_at g ws k w m too);
      are_right = so.are ∙ ap (λ (bs : List (List Frame)). take k (map g ws) ++ replies_to_blocks right bs) (dropped_at f vs k v l is)
          ∙ (λ i. take k (map g ws) ++ sym same i ∷ replies_to_blocks (rows_after right (f v)) (drop (k + 1) (map f vs)));
      place = length-taken (map g ws) k (rw (length-map g ws) (omega (arith, m)));
      here = here;
    }

-- as many replies as bodies in each block
pub counts_of_replies : (rows : Rows) (blocks : List (List Frame)) → counts (replies_to_blocks rows blocks) ≡ counts blocks
counts_of_replies rows [] = refl
counts_of_replies rows (block ∷ blocks) = λ i. length-replies_to rows block i ∷ counts_of_replies (rows_after rows block) blocks i

pub same_lengths : {V W : Type 0} (f : V → List Frame) (g : W → List ReplyBody) (vs : List V) (ws : List W) → counts (map f vs) ≡ counts (map g ws) → length vs ≡ length ws
same_lengths f g vs ws e = sym (length-counts f vs) ∙ ap length e ∙ length-counts g ws
  where
    length-counts : {U X : Type 0} (h : U → List X) (us : List U) → length (counts (map h us)) ≡ length us
    length-counts h [] = refl
    length-counts h (u ∷ us) = ap suc (length-counts h us)

-- the blocks at one place have one length
pub same_count : {V W : Type 0} (f : V → List Frame) (g : W → List ReplyBody) (vs : List V) (ws : List W) (k : ℕ) (v : V) (w : W) → counts (map f vs) ≡ counts (map g ws)
    → k < length vs → k < length ws → v ≡ get_or vs k v → w ≡ get_or ws k w → length (g w) ≡ length (f v)
same_count f g [] ws k v w e l m is too = absurd (omega arith)
same_count f g (x ∷ vs) [] k v w e l m is too = absurd (omega arith)
same_count f g (x ∷ vs) (y ∷ ws) zero v w e l m is too = ap (λ u. length (g u)) too ∙ sym (ap (λ (ns : List ℕ). slice_index_or ns 0 0) e) ∙ sym (ap (λ u. length (f u)) is)
same_count f g (x ∷ vs) (y ∷ ws) (suc k) v w e l m is too = same_count f g vs ws k v w (ap (drop 1) e) (omega arith) (omega arith) is too
