-- Replies of parts that are read in turn, in the order of arrival.
use Rattle.std.proofs.Common.{◌≡◌, ◌≢◌, Vec, Global, ℕ, zero, suc, ◌+◌, ◌<◌, ◌≤◌, ◌==◌, true, false, if◌then◌else◌, List, [], ◌∷◌, ◌++◌, length, take, drop, map, zip, Some, slice_get, slice_index, refl, sym, ap, ◌∙◌, subst, arith, add-one, append_assoc, append-nil, get_or-set_other, get_or-set_same, length-set}
use Rattle.std.proofs.Math.ListN.{set}
use Rattle.std.proofs.lemmas.Bool.Decides.{nat_tests}
use Rattle.std.proofs.lemmas.Option.{none-some, same_Some}
use Rattle.issuer_rows.specs.declared.reply_body.ReplyBody.{ReplyBody}
use Rattle.issuer_laws.specs.Parts.{of_part}
use Rattle.engine_parts.proofs.OrderLaws.{part_other, part_own}
use Rattle.engine_parts.specs.Decided.{list_at}
use Rattle.parts_books.specs.PartBooks.{AreInArrivalOrder}
use Rattle.parts_books.specs.Together.{IsOneOrder}

-- the list of a part that has one, and of one that hasn't
pub list_there : (vecs : List (Vec ReplyBody Global)) (p : ℕ) (v : Vec ReplyBody Global) → slice_get vecs p ≡ Some v → list_at (map (λ (list : Vec ReplyBody Global). list.items) vecs) p ≡ v.items
list_there [] p v at = absurd (none-some v at)
list_there (x ∷ vecs) zero v at = ap (λ (list : Vec ReplyBody Global). list.items) (same_Some x v at)
list_there (x ∷ vecs) (suc p) v at = list_there vecs p v at

pub unread : {A : Type 0} (xs : List A) (n : ℕ) → n < length xs → drop n xs ≡ [] → ⊥
unread [] n h none = absurd (omega (arith, h))
unread (x ∷ xs) zero h none = absurd (cc)
unread (x ∷ xs) (suc n) h none = unread xs n (omega (arith, h)) none

pub no_list : {A : Type 0} (lists : List (List A)) (p : ℕ) → length lists ≤ p → list_at lists p ≡ []
no_list [] p h = refl
no_list (x ∷ lists) zero h = absurd (omega (arith, h))
no_list (x ∷ lists) (suc p) h = no_list lists p (omega (arith, h))

all_taken : (xs : List ℕ) (n : ℕ) → length xs ≡ n → take n xs ≡ xs
all_taken [] zero e = refl
all_taken [] (suc n) e = refl
all_taken (x ∷ xs) zero e = absurd (omega (arith, e))
all_taken (x ∷ xs) (suc n) e = ap (λ (ys : List ℕ). x ∷ ys) (all_taken xs n (omega (arith, e)))

module _ {A : Type 0} where
  cons_same : (x y : A) (xs ys : List A) → x ∷ xs ≡ y ∷ ys → (x ≡ y) × (xs ≡ ys)
  cons_same x y xs ys e = (cc, cc)

  -- ---- one order

  tails_same : (q : ℕ) (x y : A) (ms ns : List (ℕ × A)) → ((p : ℕ) → of_part p ((q, x) ∷ ms) ≡ of_part p ((q, y) ∷ ns)) → (p : ℕ) → of_part p ms ≡ of_part p ns
  tails_same q x y ms ns same p =
      elim (q == p) as (λ b. (q == p) ≡ b → of_part p ms ≡ of_part p ns) [
        | true ↦ λ e.
            let is : q ≡ p = grind (arith, nat_tests) in
            (cons_same x y (of_part p ms) (of_part p ns) (sym (part_own p q x ms is) ∙ same p ∙ part_own p q y ns is)).1
        | false ↦ λ e.
            let apart : q ≢ p = grind (arith, nat_tests) in
            sym (part_other p q x ms apart) ∙ same p ∙ part_other p q y ns apart
      ] refl

  same_lists : (parts : List ℕ) (xs ys : List A) → length xs ≡ length parts → length ys ≡ length parts → ((p : ℕ) → of_part p (zip parts xs) ≡ of_part p (zip parts ys)) → xs ≡ ys
  same_lists [] [] [] h g same = refl
  same_lists [] [] (y ∷ ys) h g same = absurd (omega (arith, g))
  same_lists [] (x ∷ xs) ys h g same = absurd (omega (arith, h))
  same_lists (q ∷ parts) [] ys h g same = absurd (omega (arith, h))
  same_lists (q ∷ parts) (x ∷ xs) [] h g same = absurd (omega (arith, g))
  same_lists (q ∷ parts) (x ∷ xs) (y ∷ ys) h g same =
      let ms = zip parts xs in
      let ns = zip parts ys in
      let first = (cons_same x y (of_part q ms) (of_part q ns) (sym (part_own q q x ms refl) ∙ same q ∙ part_own q q y ns refl)).0 in
      let rest = same_lists parts xs ys (omega (arith, h)) (omega (arith, g)) (tails_same q x y ms ns same) in
      λ i. first i ∷ rest i

  pub one_order : (parts : List ℕ) (lists : List (List A)) (one other : List A) → IsOneOrder parts lists one other
  one_order parts lists one other a b = same_lists parts one other a.each b.each (λ p. sym (a.own p) ∙ b.own p)

  -- ---- how many

  counted : (p : ℕ) (parts marks : List ℕ) (xs : List A) → length marks ≡ length parts → length xs ≡ length parts → length (of_part p (zip parts xs)) ≡ length (of_part p (zip parts marks))
  counted p [] marks xs g h = refl
  counted p (q ∷ parts) [] xs g h = absurd (omega (arith, g))
  counted p (q ∷ parts) (n ∷ marks) [] g h = absurd (omega (arith, h))
  counted p (q ∷ parts) (n ∷ marks) (x ∷ xs) g h =
      let rest = counted p parts marks xs (omega (arith, g)) (omega (arith, h)) in
      elim (q == p) as (λ b. length (if b then x ∷ of_part p (zip parts xs) else of_part p (zip parts xs)) ≡ length (if b then n ∷ of_part p (zip parts marks) else of_part p (zip parts marks))) [
        | true ↦ ap suc rest
        | false ↦ rest
      ]

  -- the messages before one of the part are fewer
  fewer : (p : ℕ) (parts : List ℕ) (xs ys : List A) (i : ℕ) → slice_get parts i ≡ Some p → length xs ≡ i → length ys ≡ length parts → length (of_part p (zip (take i parts) xs)) < length (of_part p (zip parts ys))
  fewer p [] xs ys i at h g = absurd (none-some p at)
  fewer p (q ∷ parts) xs [] i at h g = absurd (omega (arith, g))
  fewer p (q ∷ parts) xs (y ∷ ys) zero at h g =
      let own = ap length (part_own p q y (zip parts ys) (same_Some q p at)) in
      omega (arith, own)
  fewer p (q ∷ parts) [] (y ∷ ys) (suc i) at h g = absurd (omega (arith, h))
  fewer p (q ∷ parts) (x ∷ xs) (y ∷ ys) (suc i) at h g =
      let rest = fewer p parts xs ys i at (omega (arith, h)) (omega (arith, g)) in
      elim (q == p) as (λ b. length (if b then x ∷ of_part p (zip (take i parts) xs) else of_part p (zip (take i parts) xs)) < length (if b then y ∷ of_part p (zip parts ys) else of_part p (zip parts ys))) [
        | true ↦ omega (arith, rest)
        | false ↦ rest
      ]

  -- ---- in turn

  -- Of each list so much is read as belongs to the part of the messages before this one, and the rest is left.
  pub record IsReadTo (parts : List ℕ) (lists : List (List A)) (i : ℕ) (next : List ℕ) (ordered : List A) : Type 0 where
    pub long : length next ≡ length lists
    pub many : length ordered ≡ i
    pub read : (p : ℕ) → list_at lists p ≡ of_part p (zip (take i parts) ordered) ++ drop (slice_index next p) (list_at lists p)

  pub none_read : (parts : List ℕ) (lists : List (List A)) (next : List ℕ) → length next ≡ length lists → ((p : ℕ) → slice_index next p ≡ 0) → IsReadTo parts lists 0 next []
  none_read parts lists next long zeros = record { long = long; many = refl; read = λ p. sym (ap (λ (n : ℕ). drop n (list_at lists p)) (zeros p)) }

  of_part_append : (p : ℕ) (ms ns : List (ℕ × A)) → of_part p (ms ++ ns) ≡ of_part p ms ++ of_part p ns
  of_part_append p [] ns = refl
  of_part_append p (m ∷ ms) ns =
      elim (m.0 == p) as (λ b. (if b then m.1 ∷ of_part p (ms ++ ns) else of_part p (ms ++ ns)) ≡ (if b then m.1 ∷ of_part p ms else of_part p ms) ++ of_part p ns) [
        | true ↦ ap (λ (xs : List A). m.1 ∷ xs) (of_part_append p ms ns)
        | false ↦ of_part_append p ms ns
      ]

  zip_next : (parts : List ℕ) (xs : List A) (i q : ℕ) (x : A) → slice_get parts i ≡ Some q → length xs ≡ i → zip (take (suc i) parts) (xs ++ x ∷ []) ≡ zip (take i parts) xs ++ (q, x) ∷ []
  zip_next [] xs i q x at h = absurd (none-some q at)
  zip_next (n ∷ parts) [] zero q x at h = ap (λ (k : ℕ). (k, x) ∷ []) (same_Some n q at)
  zip_next (n ∷ parts) (y ∷ xs) zero q x at h = absurd (omega (arith, h))
  zip_next (n ∷ parts) [] (suc i) q x at h = absurd (omega (arith, h))
  zip_next (n ∷ parts) (y ∷ xs) (suc i) q x at h = ap (λ (ms : List (ℕ × A)). (n, y) ∷ ms) (zip_next parts xs i q x at (omega (arith, h)))

  drop_at : (xs : List A) (n : ℕ) (x : A) → slice_get xs n ≡ Some x → drop n xs ≡ x ∷ drop (suc n) xs
  drop_at [] n x at = absurd (none-some x at)
  drop_at (y ∷ xs) zero x at = ap (λ (z : A). z ∷ xs) (same_Some y x at)
  drop_at (y ∷ xs) (suc n) x at = drop_at xs n x at

  length_last : (xs : List A) (x : A) → length (xs ++ x ∷ []) ≡ suc (length xs)
  length_last [] x = refl
  length_last (y ∷ xs) x = ap suc (length_last xs x)

  read_next_of : (parts : List ℕ) (lists : List (List A)) (i q : ℕ) (next : List ℕ) (ordered : List A) (x : A) → slice_get parts i ≡ Some q → q < length next → IsReadTo parts lists i next ordered → slice_get (list_at lists q) (slice_index next q) ≡ Some x
      → (p : ℕ) → list_at lists p ≡ of_part p (zip (take (suc i) parts) (ordered ++ x ∷ [])) ++ drop (slice_index (set next q (slice_index next q + 1)) p) (list_at lists p)
  read_next_of parts lists i q next ordered x at within so here p =
      let ms = zip (take i parts) ordered in
      let grown : of_part p (zip (take (suc i) parts) (ordered ++ x ∷ [])) ≡ of_part p ms ++ of_part p ((q, x) ∷ [])
      = ap (of_part p) (zip_next parts ordered i q x at so.many) ∙ of_part_append p ms ((q, x) ∷ []) in
      elim (q == p) as (λ b. (q == p) ≡ b → list_at lists p ≡ of_part p (zip (take (suc i) parts) (ordered ++ x ∷ [])) ++ drop (slice_index (set next q (slice_index next q + 1)) p) (list_at lists p)) [
        | true ↦ λ e.
            let is : q ≡ p = grind (arith, nat_tests) in
            let moved : slice_index (set next q (slice_index next q + 1)) p ≡ suc (slice_index next q)
            = ap (slice_index (set next q (slice_index next q + 1))) (sym is) ∙ get_or-set_same next q (slice_index next q + 1) 0 within ∙ add-one (slice_index next q) in
            let left : drop (slice_index next p) (list_at lists p) ≡ x ∷ drop (suc (slice_index next q)) (list_at lists p)
            = ap (λ (n : ℕ). drop (slice_index next n) (list_at lists p)) (sym is) ∙ drop_at (list_at lists p) (slice_index next q) x (ap (λ (n : ℕ). slice_get (list_at lists n) (slice_index next q)) (sym is) ∙ here) in
            so.read p ∙ ap (λ (xs : List A). of_part p ms ++ xs) left
            ∙ sym (append_assoc (of_part p ms) (x ∷ []) (drop (suc (slice_index next q)) (list_at lists p)))
            ∙ (λ j. (of_part p ms ++ sym (part_own p q x [] is) j) ++ drop (sym moved j) (list_at lists p))
            ∙ ap (λ (xs : List A). xs ++ drop (slice_index (set next q (slice_index next q + 1)) p) (list_at lists p)) (sym grown)
        | false ↦ λ e.
            let other : p ≢ q = grind (arith, nat_tests) in
            let apart : q ≢ p = grind (arith, nat_tests) in
            let stays : slice_index (set next q (slice_index next q + 1)) p ≡ slice_index next p = get_or-set_other next q p (slice_index next q + 1) 0 other in
            so.read p
            ∙ (λ j. sym (append-nil (of_part p ms)) j ++ drop (sym stays j) (list_at lists p))
            ∙ ap (λ (xs : List A). (of_part p ms ++ xs) ++ drop (slice_index (set next q (slice_index next q + 1)) p) (list_at lists p)) (sym (part_other p q x [] apart))
            ∙ ap (λ (xs : List A). xs ++ drop (slice_index (set next q (slice_index next q + 1)) p) (list_at lists p)) (sym grown)
      ] refl

  -- one more reply is read
  pub read_next : (parts : List ℕ) (lists : List (List A)) (i q : ℕ) (next : List ℕ) (ordered : List A) (x : A) → slice_get parts i ≡ Some q → q < length next → IsReadTo parts lists i next ordered → slice_get (list_at lists q) (slice_index next q) ≡ Some x
      → IsReadTo parts lists (i + 1) (set next q (slice_index next q + 1)) (ordered ++ x ∷ [])
  read_next parts lists i q next ordered x at within so here =
      subst (λ (n : ℕ). IsReadTo parts lists n (set next q (slice_index next q + 1)) (ordered ++ x ∷ [])) (sym (add-one i))
      (record {
        long = length-set next q (slice_index next q + 1) ∙ so.long;
        many = length_last ordered x ∙ ap suc so.many;
        read = read_next_of parts lists i q next ordered x at within so here;
      })

  -- ---- a part has too few replies, or too many

  pub too_few : (parts : List ℕ) (lists : List (List A)) (i q : ℕ) (next : List ℕ) (ordered : List A) → slice_get parts i ≡ Some q → IsReadTo parts lists i next ordered → drop (slice_index next q) (list_at lists q) ≡ []
      → (all : List A) → AreInArrivalOrder parts lists all → ⊥
  too_few parts lists i q next ordered at so none all h =
      let read = so.read q ∙ ap (λ (xs : List A). of_part q (zip (take i parts) ordered) ++ xs) none ∙ append-nil (of_part q (zip (take i parts) ordered)) in
      let same = ap length (sym read ∙ h.own q) in
      let less = fewer q parts ordered all i at so.many h.each in
      omega (arith, same, less)

  append_none : (xs ys : List A) → length xs ≡ length (xs ++ ys) → ys ≡ []
  append_none [] [] e = refl
  append_none [] (y ∷ ys) e = absurd (omega (arith, e))
  append_none (x ∷ xs) ys e = append_none xs ys (omega (arith, e))

  whole_read : (parts : List ℕ) (lists : List (List A)) (i : ℕ) (next : List ℕ) (ordered : List A) → i ≡ length parts → IsReadTo parts lists i next ordered → (p : ℕ) → list_at lists p ≡ of_part p (zip parts ordered) ++ drop (slice_index next p) (list_at lists p)
  whole_read parts lists i next ordered done so p =
      so.read p ∙ ap (λ (ps : List ℕ). of_part p (zip ps ordered) ++ drop (slice_index next p) (list_at lists p)) (all_taken parts i (sym done))

  pub too_many : (parts : List ℕ) (lists : List (List A)) (i : ℕ) (next : List ℕ) (ordered : List A) → i ≡ length parts → IsReadTo parts lists i next ordered → (p : ℕ) → drop (slice_index next p) (list_at lists p) ≢ []
      → (all : List A) → AreInArrivalOrder parts lists all → ⊥
  too_many parts lists i next ordered done so p some all h =
      let read = whole_read parts lists i next ordered done so p in
      let marks = counted p parts parts ordered refl (so.many ∙ done) in
      let alls = counted p parts parts all refl h.each in
      some (append_none (of_part p (zip parts ordered)) (drop (slice_index next p) (list_at lists p)) (marks ∙ sym alls ∙ ap length (sym (h.own p)) ∙ ap length read))

  pub all_read : (parts : List ℕ) (lists : List (List A)) (i : ℕ) (next : List ℕ) (ordered : List A) → i ≡ length parts → IsReadTo parts lists i next ordered → ((p : ℕ) → drop (slice_index next p) (list_at lists p) ≡ []) → AreInArrivalOrder parts lists ordered
  all_read parts lists i next ordered done so none = record {
    each = so.many ∙ done;
    own = λ p. whole_read parts lists i next ordered done so p ∙ ap (λ (xs : List A). of_part p (zip parts ordered) ++ xs) (none p) ∙ append-nil (of_part p (zip parts ordered));
  }
