-- Keys that compare as equal are equal, and the test of equality decides it.
use Rattle.std.proofs.Common.{◌≡◌, ℕ, Bool, true, false, List, refl, sym, subst, Ordering, Less, Equal, Greater, rules}
use Rattle.std.specs.Cmp.{IsTotalOrder, Equal-is}
use Rattle.std.proofs.lemmas.Cmp.{tied_itself}
use Rattle.std.specs.BTreeMap.{is_at}
use Rattle.std.specs.Cmp.Rules.{comparing}
use Rattle.std.specs.FinMap as map
use Rattle.std.specs.Ordering.{ordering_then, nat_cmp}
use Rattle.issuer_rows.specs.RowKey.{kind_of, first_text, second_text, third_text, text_cmp, key_cmp, key_eq}
use Rattle.issuer_rows.specs.declared.row_key.RowKey.{RowKey}
pub use Rattle.issuer_rows.specs.SameKey.{same_texts, text_eq_decides, key_eq_decides}

pub key_cmp_total : IsTotalOrder key_cmp
key_cmp_total = search (comparing, rules)

-- two texts that aren't there decide nothing
pub then_nothing : (o : Ordering) → o ≡ ordering_then o Equal
then_nothing Less = refl
then_nothing Equal = refl
then_nothing Greater = refl

-- an order that is decided by two is Equal where both are
then_equal : (o p : Ordering) → ordering_then o p ≡ Equal → (o ≡ Equal) × (p ≡ Equal)
then_equal Less p e = (e, absurd (cc))
then_equal Equal p e = (refl, e)
then_equal Greater p e = (e, absurd (cc))

same_text : (s t : List ℕ) → text_cmp s t ≡ Equal → s ≡ t
same_text s t e = map.slice_cmp-IsAntisymmetric map.nat_cmp-IsAntisymmetric s t e

-- keys that compare as equal are equal
pub key_cmp_antisymmetric : map.IsAntisymmetric key_cmp
key_cmp_antisymmetric a b e =
    let kinds = then_equal (nat_cmp (kind_of a) (kind_of b)) _ e in
    let firsts = then_equal (text_cmp (first_text a) (first_text b)) _ kinds.1 in
    let seconds = then_equal (text_cmp (second_text a) (second_text b)) (text_cmp (third_text a) (third_text b)) firsts.1 in
    same_texts a b (map.nat_cmp-IsAntisymmetric (kind_of a) (kind_of b) kinds.0) (same_text _ _ firsts.0) (same_text _ _ seconds.0) (same_text _ _ seconds.1)

pub both_ways : (s t : Bool) → (s ≡ true → t ≡ true) → (t ≡ true → s ≡ true) → s ≡ t
both_ways true t f g = sym (f refl)
both_ways false true f g = g refl
both_ways false false f g = refl

-- keys that tie are those that test as equal
pub same_test : (a b : RowKey) → is_at (key_cmp a) b ≡ key_eq a b
same_test a b =
    both_ways _ _
    (λ tie. (key_eq_decides a b).1 (key_cmp_antisymmetric a b ((Equal-is (key_cmp a b)).0 tie)))
    (λ same. (Equal-is (key_cmp a b)).1 (subst (λ (k : RowKey). key_cmp a k ≡ Equal) ((key_eq_decides a b).0 same) (tied_itself key_cmp_total a)))
