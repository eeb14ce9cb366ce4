-- Texts that begin alike.
use Rattle.std.proofs.Common.{◌≡◌, ◌<◌, ◌^◌, ◌*◌, ◌+◌, ℕ, List, [], ◌∷◌, ◌++◌, length, take, drop, refl, sym, ap, ◌∙◌, append_assoc, arith}
use Rattle.std.proofs.lemmas.List.{append-nil, take_at, drop_at, length-append}
use Rattle.std.proofs.lemmas.List.Concat.{flat_map-append}
use Rattle.std.proofs.lemmas.List.Elements.{recursion_from_All}
use Rattle.byteorder.specs.Endian.{big_bytes, big_number}
use Rattle.std.specs.List.{flat_map, All, AllByRecursion}
use Rattle.app_parts_folder.specs.PlanTexts.{AreDigests, IsPlan, Plan, digests_text, listed_text, plan_letters, plan_text}
use Rattle.app_parts_folder.specs.declared.part_digests.PartDigests.{PartDigests}

-- texts that begin with as many bytes have the same first ones, and the same behind them
pub same_front : (a b x y : List ℕ) → length a ≡ length b → a ++ x ≡ b ++ y → (a ≡ b) × (x ≡ y)
same_front a b x y same e = (
  sym (take_at a x (length a) refl) ∙ ap (take (length a)) e ∙ take_at b y (length a) (sym same),
  sym (drop_at a x (length a) refl) ∙ ap (drop (length a)) e ∙ drop_at b y (length a) (sym same),
)

-- the digests of one more part
pub one_more : (digests : List PartDigests) (one : PartDigests) (behind : List ℕ)
    → flat_map digests_text digests ++ (digests_text one ++ behind) ≡ flat_map digests_text (digests ++ one ∷ []) ++ behind
one_more digests one behind =
    sym (append_assoc (flat_map digests_text digests) (digests_text one) behind)
    ∙ ap (λ (x : List ℕ). x ++ behind) (ap (λ (x : List ℕ). flat_map digests_text digests ++ x) (sym (append-nil (digests_text one))) ∙ sym (flat_map-append digests_text digests (one ∷ [])))

long_by_recursion : (digests : List PartDigests) → AllByRecursion AreDigests digests → length (flat_map digests_text digests) ≡ 64 * length digests
long_by_recursion [] all = refl
long_by_recursion (one ∷ digests) all =
    let rest = long_by_recursion digests all.1 in
    omega (arith, all.0.0, all.0.1, length-append one.book one.batch, length-append (digests_text one) (flat_map digests_text digests), rest)

-- how long the digests of parts are
pub long : (digests : List PartDigests) → All AreDigests digests → length (flat_map digests_text digests) ≡ 64 * length digests
long digests all = long_by_recursion digests (recursion_from_All AreDigests digests all)

number_again : (n : ℕ) → n < 2 ^ 32 → big_number 4 (big_bytes 4 n) ≡ n
number_again n fits = omega (arith, fits)

-- numbers that have the same bytes
pub same_number : (m n : ℕ) → m < 2 ^ 32 → n < 2 ^ 32 → big_bytes 4 m ≡ big_bytes 4 n → m ≡ n
same_number m n fits fits' e = sym (number_again m fits) ∙ ap (big_number 4) e ∙ number_again n fits'

-- what a plan's text has behind its letters, behind the first number, behind the second, and behind the digest of the rest
abbrev pub numbered : Plan → List ℕ
numbered plan = big_bytes 4 (length plan.parts) ++ (plan.rest ++ listed_text plan.digests plan.parts)

abbrev pub counted : Plan → List ℕ
counted plan = big_bytes 4 (length plan.digests) ++ numbered plan

pub behind_letters : (bytes behind : List ℕ) (plan : Plan) → bytes ≡ plan_letters ++ behind → bytes ≡ plan_text plan → behind ≡ counted plan
behind_letters bytes behind plan is e = (same_front plan_letters plan_letters behind (counted plan) refl (sym is ∙ e)).1

pub behind_number : (number other : ℕ) (bytes behind behind' : List ℕ) → number < 2 ^ 32 → other < 2 ^ 32 → bytes ≡ big_bytes 4 number ++ behind → bytes ≡ big_bytes 4 other ++ behind'
    → (number ≡ other) × (behind ≡ behind')
behind_number number other bytes behind behind' fits fits' is e =
    let same = same_front (big_bytes 4 number) (big_bytes 4 other) behind behind' refl (sym is ∙ e) in
    (same_number number other fits fits' same.0, same.1)

-- ---- digests that have the same text

same_digests : (one other : PartDigests) → one.book ≡ other.book → one.batch ≡ other.batch → one ≡ other
same_digests one other book batch = rw (book, batch) refl

one_digests : (one other : PartDigests) (x y : List ℕ) → AreDigests one → AreDigests other → digests_text one ++ x ≡ digests_text other ++ y → (one ≡ other) × (x ≡ y)
one_digests one other x y are are' e =
    let split : one.book ++ (one.batch ++ x) ≡ other.book ++ (other.batch ++ y) = sym (append_assoc one.book one.batch x) ∙ e ∙ append_assoc other.book other.batch y in
    let first = same_front one.book other.book (one.batch ++ x) (other.batch ++ y) (are.0 ∙ sym are'.0) split in
    let second = same_front one.batch other.batch x y (are.1 ∙ sym are'.1) first.1 in
    (same_digests one other first.0 second.0, second.1)

by_recursion : (ones others : List PartDigests) (x y : List ℕ) → length ones ≡ length others → AllByRecursion AreDigests ones → AllByRecursion AreDigests others
    → flat_map digests_text ones ++ x ≡ flat_map digests_text others ++ y → (ones ≡ others) × (x ≡ y)
by_recursion [] [] x y same are are' e = (refl, e)
by_recursion [] (other ∷ others) x y same are are' e = absurd (omega (arith, same))
by_recursion (one ∷ ones) [] x y same are are' e = absurd (omega (arith, same))
by_recursion (one ∷ ones) (other ∷ others) x y same are are' e =
    let split = sym (append_assoc (digests_text one) (flat_map digests_text ones) x) ∙ e ∙ append_assoc (digests_text other) (flat_map digests_text others) y in
    let first = one_digests one other (flat_map digests_text ones ++ x) (flat_map digests_text others ++ y) are.0 are'.0 split in
    let rest = by_recursion ones others x y (omega (arith, same)) are.1 are'.1 first.1 in
    (rw (first.0, rest.0) refl, rest.1)

-- what is listed in the same text is the same
pub same_listed : (ones others : List PartDigests) (x y : List ℕ) → length ones ≡ length others → All AreDigests ones → All AreDigests others
    → listed_text ones x ≡ listed_text others y → (ones ≡ others) × (x ≡ y)
same_listed ones others x y same are are' e =
    by_recursion ones others x y same (recursion_from_All AreDigests ones are) (recursion_from_All AreDigests others are') e

rebuilt : (one other : Plan) → one.rest ≡ other.rest → one.digests ≡ other.digests → one.parts ≡ other.parts → one ≡ other
rebuilt one other rest digests parts = rw (rest, digests, parts) refl

-- plans that have the same text are the same
pub same_plan : (one other : Plan) → IsPlan one → IsPlan other → plan_text one ≡ plan_text other → one ≡ other
same_plan one other is is' e =
    let numbers = behind_number (length one.digests) (length other.digests) (counted one) (numbered one) (numbered other) (omega (arith, is.listed.few)) (omega (arith, is'.listed.few)) refl
    (behind_letters (plan_text one) (counted one) other refl e) in
    let behind = behind_number (length one.parts) (length other.parts) (numbered one) (one.rest ++ listed_text one.digests one.parts) (other.rest ++ listed_text other.digests other.parts)
    (omega (arith, is.listed.fit)) (omega (arith, is'.listed.fit)) refl numbers.1 in
    let rest = same_front one.rest other.rest (listed_text one.digests one.parts) (listed_text other.digests other.parts) (is.rest ∙ sym is'.rest) behind.1 in
    let listed = same_listed one.digests other.digests one.parts other.parts numbers.0 is.listed.digest is'.listed.digest rest.1 in
    rebuilt one other rest.0 listed.0 listed.1
