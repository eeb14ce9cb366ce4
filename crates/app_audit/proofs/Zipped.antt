-- The first pair of two lists of one length that isn't twice the same.
use Rattle.std.proofs.Common.{◌≡◌, ◌≢◌, ℕ, zero, suc, ◌<◌, List, [], ◌∷◌, length, map, take, Bor, Iter, refl, ap, zip, arith}
use Rattle.std.proofs.iter.Yields.{fronts}
use Rattle.std.proofs.lemmas.Iterator.{YieldsList, YieldsList-from_slice}
use Rattle.std.proofs.lemmas.Option.{same_Some}
use Rattle.std.specs.List.{AllWithin, HoldsAt, slice_get}
use Rattle.std.specs.Slice.Iter.{iter_rest}
use Rattle.itertools.proofs.TwoLemmas.{YieldsList-from_gives_of_both_refs}
use Rattle.itertools.specs.Adaptor.{EachRunBehindBoth, GivesOfBoth}
use Rattle.itertools.specs.TwoSources.{zip_eq_steps}
use Rattle.itertools.specs.declared.zip_eq_impl.ZipEq.{ZipEq}
use Rattle.issuer_rows.specs.declared.reply_body.ReplyBody.{ReplyBody}
use Rattle.app_audit.specs.Difference.{IsFirstDifference}

abbrev pub AreSame : ReplyBody × ReplyBody → Type 0
AreSame pair = pair.0 ≡ pair.1

abbrev pub Differ : ReplyBody × ReplyBody → Type 0
Differ pair = pair.0 ≢ pair.1

one_less : (m n : ℕ) → suc m ≡ suc n → m ≡ n
one_less m n e = omega arith

-- no pair differs
pub all_same : (xs ys : List ReplyBody) → length xs ≡ length ys → AllWithin AreSame (zip xs ys) 0 (length (zip xs ys)) → xs ≡ ys
all_same [] [] e all = refl
all_same [] (y ∷ ys) e all = absurd (omega arith)
all_same (x ∷ xs) [] e all = absurd (omega arith)
all_same (x ∷ xs) (y ∷ ys) e all =
    let head : x ≡ y = all 0 (x, y) (omega arith) (omega arith) in
    let tail = all_same xs ys (one_less _ _ e) (λ k d low high. all (suc k) d (omega arith) (omega arith)) in
    λ i. head i ∷ tail i

-- the pairs before this place are the same
same_front : (xs ys : List ReplyBody) (n : ℕ) → length xs ≡ length ys → AllWithin AreSame (zip xs ys) 0 n → take n xs ≡ take n ys
same_front xs ys zero e all = refl
same_front [] [] (suc n) e all = refl
same_front [] (y ∷ ys) (suc n) e all = absurd (omega arith)
same_front (x ∷ xs) [] (suc n) e all = absurd (omega arith)
same_front (x ∷ xs) (y ∷ ys) (suc n) e all =
    let head : x ≡ y = all 0 (x, y) (omega arith) (omega arith) in
    let tail = same_front xs ys n (one_less _ _ e) (λ k d low high. all (suc k) d (omega arith) (omega arith)) in
    λ i. head i ∷ tail i

-- this pair isn't
differ_at : (xs ys : List ReplyBody) (n : ℕ) → length xs ≡ length ys → n < length (zip xs ys) → HoldsAt Differ (zip xs ys) n → (n < length ys) × (slice_get xs n ≢ slice_get ys n)
differ_at [] [] n e within at = absurd (omega arith)
differ_at [] (y ∷ ys) n e within at = absurd (omega arith)
differ_at (x ∷ xs) [] n e within at = absurd (omega arith)
differ_at (x ∷ xs) (y ∷ ys) zero e within at = (omega arith, λ same. at (x, y) (same_Some x y same))
differ_at (x ∷ xs) (y ∷ ys) (suc n) e within at =
    let rest = differ_at xs ys n (one_less _ _ e) (omega arith) (λ d. at d) in
    (omega arith, rest.1)

pub first_differing : (xs ys : List ReplyBody) (n : ℕ) → length xs ≡ length ys → (n < length (zip xs ys)) × HoldsAt Differ (zip xs ys) n × AllWithin AreSame (zip xs ys) 0 n → IsFirstDifference xs ys n
first_differing xs ys n e h =
    let at = differ_at xs ys n e h.0 h.1 in
    record { within = at.0; before = same_front xs ys n e h.2; here = at.1 }

abbrev pub pair_of : Bor ReplyBody × Bor ReplyBody → ReplyBody × ReplyBody
pair_of p = (p.0.now, p.1.now)

-- zipping references zips what they point to
zipped : (us vs : List (Bor ReplyBody)) → map pair_of (zip us vs) ≡ zip (map (λ u. u.now) us) (map (λ v. v.now) vs)
zipped [] vs = refl
zipped (u ∷ us) [] = refl
zipped (u ∷ us) (v ∷ vs) = ap (λ (pairs : List (ReplyBody × ReplyBody)). (u.now, v.now) ∷ pairs) (zipped us vs)

-- what `zip_eq` of two slices gives
pub paired : {pairs : ZipEq (Iter ReplyBody) (Iter ReplyBody)} {mine theirs : Iter ReplyBody} (xs ys : List ReplyBody)
    → EachRunBehindBoth (zip_eq_steps fronts fronts) pairs fronts mine fronts theirs (λ p a b. GivesOfBoth p a b zip) → iter_rest mine ≡ xs → iter_rest theirs ≡ ys
    → YieldsList (zip_eq_steps fronts fronts) pair_of pairs (zip xs ys)
paired xs ys runs mine theirs = YieldsList-from_gives_of_both_refs pair_of zip zip zipped runs (YieldsList-from_slice xs mine) (YieldsList-from_slice ys theirs)
