-- Files that are put in place, one after another.
use Rattle.std.proofs.Common.{◌≡◌, ◌≢◌, ◌⊎◌, ◌<◌, ℕ, List, [], ◌∷◌, length, slice_index_or, remove, string_bytes, refl, inl, inr, Bool, true, false, rules}
use Rattle.std.specs.Str.{bytes_eq}
use Rattle.std.proofs.lemmas.Slice.Eq.{bytes_eq-Decides}
use Rattle.std.proofs.lemmas.Bool.Decides.{not_from_Decides}
use Rattle.file_devices.specs.Holding.{ArePlaced, HasOneNamed, Holding, IsNoneNamed}
use Rattle.file_devices.specs.declared.written.Written.{Written}

-- what is taken from the front of a list, before the rest of it, is the list
pub front_and_rest : {A : Type 0} (xs : List A) (x : A) (rest : List A) → 0 < length xs → x ≡ slice_index_or xs 0 x → rest ≡ remove xs 0 → xs ≡ x ∷ rest
front_and_rest [] x rest some first removed = search rules
front_and_rest (y ∷ ys) x rest some first removed = search rules

-- none is named so: not the first, and none of the rest
pub none_named : {O : Type 0} (name : List ℕ) (files : List (Written O)) (file : Written O) (rest : List (Written O)) → files ≡ file ∷ rest
    → IsNoneNamed name files → (string_bytes file.name ≢ name) × IsNoneNamed name rest
unfolding IsNoneNamed
none_named name files file rest are none = rw are at none

-- the first is placed, and so is the rest
pub placed_first : {O : Type 0} (is_known : O → Type 0) (written : O → List ℕ) (new : Holding) (files : List (Written O)) (file : Written O) (rest : List (Written O))
    → files ≡ file ∷ rest → (is_known file.output → IsNoneNamed (string_bytes file.name) rest → new (string_bytes file.name) (written file.output))
    → ArePlaced is_known written new rest → ArePlaced is_known written new files
unfolding ArePlaced
placed_first is_known written new files file rest are first others = rw are (first, others)

-- where there is none, all are placed
pub none_placed : {O : Type 0} (is_known : O → Type 0) (written : O → List ℕ) (new : Holding) (files : List (Written O)) → files ≡ [] → ArePlaced is_known written new files
unfolding ArePlaced
none_placed is_known written new files are = rw are tt

-- where it holds of all names, one of some files has such a name
pub one_named : {O : Type 0} (is_such : List ℕ → Type 0) (files : List (Written O)) → 0 < length files → ((name : List ℕ) → is_such name) → HasOneNamed is_such files
unfolding HasOneNamed
one_named is_such [] some all = search rules
one_named is_such (file ∷ files) some all = inl (all (string_bytes file.name))

by_test : {P : Type 0} (xs ys : List ℕ) (same : Bool) → bytes_eq xs ys ≡ same → (xs ≡ ys → P) → (xs ≢ ys → P) → P
by_test xs ys true is alike apart = alike ((bytes_eq-Decides xs ys).0 is)
by_test xs ys false is alike apart = apart (not_from_Decides (bytes_eq xs ys) (bytes_eq-Decides xs ys) is)

-- two names are alike or apart
pub by_names : {P : Type 0} (xs ys : List ℕ) → (xs ≡ ys → P) → (xs ≢ ys → P) → P
by_names xs ys alike apart = by_test xs ys (bytes_eq xs ys) refl alike apart

-- ---- a few files

pub placed_one : {O : Type 0} (is_known : O → Type 0) (written : O → List ℕ) (new : Holding) (a : Written O) → ArePlaced is_known written new (a ∷ [])
    → is_known a.output → new (string_bytes a.name) (written a.output)
unfolding ArePlaced IsNoneNamed
placed_one is_known written new a placed known = placed.0 known tt

pub placed_two : {O : Type 0} (is_known : O → Type 0) (written : O → List ℕ) (new : Holding) (a b : Written O) → ArePlaced is_known written new (a ∷ b ∷ [])
    → (is_known a.output → string_bytes b.name ≢ string_bytes a.name → new (string_bytes a.name) (written a.output))
    × (is_known b.output → new (string_bytes b.name) (written b.output))
unfolding ArePlaced IsNoneNamed
placed_two is_known written new a b placed = (λ known apart. placed.0 known (apart, tt), λ known. placed.1.0 known tt)

pub placed_three : {O : Type 0} (is_known : O → Type 0) (written : O → List ℕ) (new : Holding) (a b c : Written O) → ArePlaced is_known written new (a ∷ b ∷ c ∷ [])
    → (is_known a.output → string_bytes b.name ≢ string_bytes a.name → string_bytes c.name ≢ string_bytes a.name → new (string_bytes a.name) (written a.output))
    × (is_known b.output → string_bytes c.name ≢ string_bytes b.name → new (string_bytes b.name) (written b.output))
    × (is_known c.output → new (string_bytes c.name) (written c.output))
unfolding ArePlaced IsNoneNamed
placed_three is_known written new a b c placed = (
  λ known apart further. placed.0 known (apart, (further, tt)),
  λ known apart. placed.1.0 known (apart, tt),
  λ known. placed.1.1.0 known tt,
)

pub none_of_one : {O : Type 0} (name : List ℕ) (a : Written O) → string_bytes a.name ≢ name → IsNoneNamed name (a ∷ [])
unfolding IsNoneNamed
none_of_one name a first = (first, tt)

pub none_of_two : {O : Type 0} (name : List ℕ) (a b : Written O) → string_bytes a.name ≢ name → string_bytes b.name ≢ name → IsNoneNamed name (a ∷ b ∷ [])
unfolding IsNoneNamed
none_of_two name a b first second = (first, (second, tt))

pub none_of_three : {O : Type 0} (name : List ℕ) (a b c : Written O) → string_bytes a.name ≢ name → string_bytes b.name ≢ name → string_bytes c.name ≢ name
    → IsNoneNamed name (a ∷ b ∷ c ∷ [])
unfolding IsNoneNamed
none_of_three name a b c first second third = (first, (second, (third, tt)))

pub one_of_one : {O : Type 0} (is_such : List ℕ → Type 0) (a : Written O) → HasOneNamed is_such (a ∷ []) → is_such (string_bytes a.name)
unfolding HasOneNamed
one_of_one is_such a (inl first) = first
one_of_one is_such a (inr none) = absurd none

pub one_of_two : {O : Type 0} (is_such : List ℕ → Type 0) (a b : Written O) → HasOneNamed is_such (a ∷ b ∷ []) → is_such (string_bytes a.name) ⊎ is_such (string_bytes b.name)
unfolding HasOneNamed
one_of_two is_such a b (inl first) = inl first
one_of_two is_such a b (inr (inl second)) = inr second
one_of_two is_such a b (inr (inr none)) = absurd none

pub one_of_three : {O : Type 0} (is_such : List ℕ → Type 0) (a b c : Written O) → HasOneNamed is_such (a ∷ b ∷ c ∷ [])
    → is_such (string_bytes a.name) ⊎ (is_such (string_bytes b.name) ⊎ is_such (string_bytes c.name))
unfolding HasOneNamed
one_of_three is_such a b c (inl first) = inl first
one_of_three is_such a b c (inr (inl second)) = inr (inl second)
one_of_three is_such a b c (inr (inr (inl third))) = inr (inr third)
one_of_three is_such a b c (inr (inr (inr none))) = absurd none
