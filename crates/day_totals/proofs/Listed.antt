-- A map's entries as totals.
use Rattle.std.proofs.Common.{◌≡◌, ℕ, List, [], ◌∷◌, map, refl, string_bytes}
use Rattle.std.proofs.lemmas.Map.Text.{is_eq-slice_cmp}
use Rattle.std.specs.Cmp.Lexicographic.{slice_cmp}
use Rattle.std.specs.List.{AllByRecursion}
use Rattle.std.specs.List.Sorted.{IsStrictlySortedBy}
use Rattle.std.specs.Map.{keys_of, lookup}
use Rattle.std.specs.Ordering.{is_eq, nat_cmp}
use Rattle.std.specs.Str.{bytes_eq}
use Rattle.std.specs.String.{string_cmp}
use Rattle.std.specs.declared.cmp.Ordering.TheVariants.{Less}
use Rattle.day_totals.specs.Day.{shown}
use Rattle.day_totals.specs.declared.total.Total.{Total}

-- a name is found among totals as it is among the entries
pub found_shown : (ts : List Total) (name : List ℕ) → lookup (bytes_eq name) (shown ts) ≡ lookup (λ k. is_eq (slice_cmp nat_cmp name (string_bytes k))) (map (λ t. (t.name, t.sum)) ts)
found_shown [] name = refl
found_shown (t ∷ ts) name = rw (is_eq-slice_cmp name (string_bytes t.name), found_shown ts name) refl

below_all : (t : Total) (ts : List Total) → AllByRecursion (λ k. string_cmp t.name k ≡ Less) (keys_of (map (λ u. (u.name, u.sum)) ts)) → AllByRecursion (λ k. slice_cmp nat_cmp (string_bytes t.name) k ≡ Less) (keys_of (shown ts))
below_all t [] h = tt
below_all t (u ∷ ts) h = (h.0, below_all t ts h.1)

-- names that rise as an entry's keys do
pub rising_shown : (ts : List Total) → IsStrictlySortedBy string_cmp (keys_of (map (λ t. (t.name, t.sum)) ts)) → IsStrictlySortedBy (slice_cmp nat_cmp) (keys_of (shown ts))
unfolding IsStrictlySortedBy
rising_shown [] h = tt
rising_shown (t ∷ ts) h = (below_all t ts h.0, rising_shown ts h.1)
