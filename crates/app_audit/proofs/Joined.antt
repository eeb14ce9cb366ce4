-- The rows of two lists joined by their keys, up to the first that isn't the same in both.
use Rattle.std.proofs.Common.{◌≡◌, ◌⊎◌, ℕ, zero, suc, ◌<◌, ◌+◌, List, [], ◌∷◌, ◌++◌, map, Option, Some, None, IfSome, IsSomeAnd, Ordering, Less, Equal, Greater, inl, inr, refl, ap, subst, ◌∙◌, arith, length, drop}
use Rattle.std.specs.Bool.{IsTrue}
use Rattle.std.specs.Fn.{Mut, Called}
use Rattle.std.specs.Iterator.Runs.{Run, AllItemsGive, CallKeepsClosure, IsFirstToGive}
use Rattle.std.specs.List.{slice_get}
use Rattle.std.specs.Option.{MatchOption}
use Rattle.std.proofs.iter.runs.Made.{at-is, each_of}
use Rattle.std.proofs.lemmas.Iterator.{YieldsList}
use Rattle.std.proofs.lemmas.List.{take-append-drop}
use Rattle.std.specs.Map.Iter.{deref_pair}
use Rattle.std.specs.Borrow.{Bor}
use Rattle.itertools.proofs.AdaptorLemmas.{items_from_run, items_from_whole_run, ref_to}
use Rattle.itertools.specs.EitherOrBoth.{map_any}
use Rattle.itertools.specs.List.{merge_join_by, by_ordering}
use Rattle.itertools.specs.declared.either_or_both.EitherOrBoth.{EitherOrBoth}
use Rattle.itertools.specs.declared.either_or_both.EitherOrBoth.TheVariants.{Both, Left, Right}
use Rattle.issuer_rows.proofs.KeyLaws.{key_cmp_antisymmetric}
use Rattle.issuer_words.specs.Words.{RowKey, RowVal, key_cmp}
use Rattle.app_audit.specs.JoinedRows.{AreSame, DifferAt}

abbrev pub Row : Type 0
Row = RowKey × RowVal

-- a row as an iterator over a book gives it
abbrev pub Lent : Type 0
Lent = Bor RowKey × Bor RowVal

-- references that read as this row
abbrev pub lent : Row → Lent
lent row = (ref_to row.0, ref_to row.1)

abbrev pub Joined : Type 0
Joined = EitherOrBoth Row Row

abbrev pub by_key : Row → Row → Ordering
by_key mine theirs = key_cmp mine.0 theirs.0

abbrev pub lent_by_key : Lent → Lent → Ordering
lent_by_key mine theirs = key_cmp mine.0.now theirs.0.now

-- the rows of both books, joined
abbrev pub join : List Row → List Row → List Joined
join = merge_join_by by_key

abbrev pub row_of : EitherOrBoth Lent Lent → Joined
row_of = map_any deref_pair deref_pair

-- where one book alone has rows
lefts : (us : List Lent) → map row_of (map (λ u. Left u) us) ≡ map (λ x. Left x) (map deref_pair us)
lefts [] = refl
lefts (u ∷ us) = ap (λ (zs : List Joined). Left (deref_pair u) ∷ zs) (lefts us)

rights : (vs : List Lent) → map row_of (map (λ v. Right v) vs) ≡ map (λ y. Right y) (map deref_pair vs)
rights [] = refl
rights (v ∷ vs) = ap (λ (zs : List Joined). Right (deref_pair v) ∷ zs) (rights vs)

-- one more of each book, by which has the lesser key
joined_by : (u v : Lent) (o : Ordering) (a b c : List (EitherOrBoth Lent Lent)) (d e f : List Joined) → map row_of a ≡ d → map row_of b ≡ e → map row_of c ≡ f
    → map row_of (by_ordering o (Left u ∷ a) (Both u v ∷ b) (Right v ∷ c)) ≡ by_ordering o (Left (deref_pair u) ∷ d) (Both (deref_pair u) (deref_pair v) ∷ e) (Right (deref_pair v) ∷ f)
joined_by u v Less a b c d e f p q r = ap (λ (zs : List Joined). Left (deref_pair u) ∷ zs) p
joined_by u v Equal a b c d e f p q r = ap (λ (zs : List Joined). Both (deref_pair u) (deref_pair v) ∷ zs) q
joined_by u v Greater a b c d e f p q r = ap (λ (zs : List Joined). Right (deref_pair v) ∷ zs) r

-- one more of the left book
joined_from : (u : Lent) (us : List Lent) → ((vs : List Lent) → map row_of (merge_join_by lent_by_key us vs) ≡ join (map deref_pair us) (map deref_pair vs))
    → (vs : List Lent) → map row_of (merge_join_by lent_by_key (u ∷ us) vs) ≡ join (map deref_pair (u ∷ us)) (map deref_pair vs)
joined_from u us after [] = ap (λ (zs : List Joined). Left (deref_pair u) ∷ zs) (lefts us)
joined_from u us after (v ∷ vs) = joined_by u v (lent_by_key u v) _ _ _ _ _ _ (after (v ∷ vs)) (after vs) (joined_from u us after vs)

-- joining references joins what they point to
pub joined : (us vs : List Lent) → map row_of (merge_join_by lent_by_key us vs) ≡ join (map deref_pair us) (map deref_pair vs)
joined [] = rights
joined (u ∷ us) = joined_from u us (joined us)

-- the key of the first joined row that isn't the same in both books, or `None` where all are
abbrev pub FindsFirst : List Joined → Option RowKey → Type 0
FindsFirst [] r = r ≡ None
FindsFirst (row ∷ rows) r = IsSomeAnd r (DifferAt row) ⊎ (AreSame row × FindsFirst rows r)

module _ {A : Type 0} (v : A → Joined) where
  finds_none : (xs : List A) → ((k : ℕ) → IfSome (slice_get xs k) (λ x. AreSame (v x))) → FindsFirst (map v xs) None
  finds_none [] same = refl
  finds_none (x ∷ xs) same = inr (same 0, finds_none xs (λ k. same (suc k)))

  finds_some : (xs : List A) (rest : List Joined) (key : RowKey) (i : ℕ) → IsSomeAnd (slice_get xs i) (λ x. DifferAt (v x) key)
      → ((k : ℕ) → k < i → IsSomeAnd (slice_get xs k) (λ x. AreSame (v x))) → FindsFirst (map v xs ++ rest) (Some key)
  finds_some [] rest key i here before = absurd here
  finds_some (x ∷ xs) rest key zero here before = inl here
  finds_some (x ∷ xs) rest key (suc i) here before = inr (before 0 (omega arith), finds_some xs rest key i here (λ k below. before (suc k) (omega arith)))

on_some : {A : Type 0} (P Q : A → Type 0) (o : Option A) → ((x : A) → P x → Q x) → IsSomeAnd o P → IsSomeAnd o Q
on_some P Q None f h = h
on_some P Q (Some x) f h = f x h

if_some : {A : Type 0} (P Q : A → Type 0) (o : Option A) → ((x : A) → P x → Q x) → IfSome o P → IfSome o Q
if_some P Q None f h = h
if_some P Q (Some x) f h = f x h

-- what `find_map` finds, by a function that answers the key of a row that isn't the same in both books
module _ {S A F : Type 0} {steps : S → Option A → S → Type 0} {v : A → Joined} {s : S} {all : List Joined} (g : Mut F (A × Unit {0}) (Option RowKey)) (f : F) (p : Run steps) where
  pub found : (r : Option RowKey) → p.from ≡ s → YieldsList steps v s all → CallKeepsClosure g f → ((x : A) → Called g f (x, tt) None f → AreSame (v x)) → ((x : A) (key : RowKey) → Called g f (x, tt) (Some key) f → DifferAt (v x) key)
      → MatchOption r (IsTrue p.whole × AllItemsGive p g f None) (λ y. (i : ℕ) × (i < p.len) × (p.len ≡ i + 1) × IsFirstToGive p g f (Some y) None i) → FindsFirst all r
  found None at road keeps same differ h =
      subst (λ rows. FindsFirst rows None) (items_from_whole_run road p at h.0) (finds_none v p.items (λ k. if_some (λ x. Called g f (x, tt) None f) (λ x. AreSame (v x)) (slice_get p.items k) same (each_of p (λ x. Called g f (x, tt) None f) (h.1 keeps) k)))
  found (Some key) at road keeps same differ h =
      let first = h.3 keeps in
      let whole : map v p.items ++ drop (length p.items) all ≡ all = ap (λ (rows : List Joined). rows ++ drop (length p.items) all) (items_from_run road p at) ∙ take-append-drop (length p.items) all in
      subst (λ rows. FindsFirst rows (Some key)) whole
      (finds_some v p.items (drop (length p.items) all) key h.0
      (on_some (λ x. Called g f (x, tt) (Some key) f) (λ x. DifferAt (v x) key) (slice_get p.items h.0) (λ x. differ x key) (subst (λ o. IsSomeAnd o (λ x. Called g f (x, tt) (Some key) f)) (at-is p h.0) first.0))
      (λ k below. on_some (λ x. Called g f (x, tt) None f) (λ x. AreSame (v x)) (slice_get p.items k) same (subst (λ o. IsSomeAnd o (λ x. Called g f (x, tt) None f)) (at-is p k) (first.1 k below))))

-- one key and one value make one row
pub same_row : (x y : Row) → by_key x y ≡ Equal → x.1 ≡ y.1 → x ≡ y
same_row x y tie same = let keys : x.0 ≡ y.0 = key_cmp_antisymmetric x.0 y.0 tie in λ i. (keys i, same i)

-- what is joined of two lists that begin with these rows, by which has the lesser key
abbrev pub join_by : Ordering → Row → Row → List Row → List Row → List Joined
join_by o x y xs ys = by_ordering o (Left x ∷ join xs (y ∷ ys)) (Both x y ∷ join xs ys) (Right y ∷ join (x ∷ xs) ys)

-- nothing is found where the lists are the same alone
agree_by : (x y : Row) (xs ys : List Row) → (FindsFirst (join xs ys) None → xs ≡ ys) → (o : Ordering) → by_key x y ≡ o → FindsFirst (join_by o x y xs ys) None → x ∷ xs ≡ y ∷ ys
agree_by x y xs ys behind Less is (inl here) = absurd here
agree_by x y xs ys behind Less is (inr same) = absurd same.0
agree_by x y xs ys behind Equal is (inl here) = absurd here
agree_by x y xs ys behind Equal is (inr same) = λ i. same_row x y is same.0 i ∷ behind same.1 i
agree_by x y xs ys behind Greater is (inl here) = absurd here
agree_by x y xs ys behind Greater is (inr same) = absurd same.0

pub agree : (mine theirs : List Row) → FindsFirst (join mine theirs) None → mine ≡ theirs
agree [] [] h = refl
agree [] (y ∷ ys) (inl here) = absurd here
agree [] (y ∷ ys) (inr same) = absurd same.0
agree (x ∷ xs) [] (inl here) = absurd here
agree (x ∷ xs) [] (inr same) = absurd same.0
agree (x ∷ xs) (y ∷ ys) h = agree_by x y xs ys (agree xs ys) (by_key x y) refl h
