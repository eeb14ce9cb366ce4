-- What is read is the text of what was read.
use Rattle.std.proofs.Common.{◌≡◌, ℕ, zero, suc, ◌<◌, ◌≤◌, false, cond, ltb, eqb, List, [], ◌∷◌, ◌++◌, length, take, drop, Result, Ok, Err, refl, sym, ap, subst, ◌∙◌, append_assoc, arith}
use Rattle.std.specs.Prelude.{◌||◌}
use Rattle.std.specs.List.{flat_map, All, AllByRecursion}
use Rattle.std.specs.Str.{bytes_eq}
use Rattle.std.proofs.lemmas.Bool.{ltb-false, eqb-true, or_parts}
use Rattle.std.proofs.lemmas.List.{take-append-drop, length-take-le, append-nil}
use Rattle.std.proofs.lemmas.List.Elements.{recursion_from_All}
use Rattle.std.proofs.lemmas.Slice.Eq.{bytes_eq-Decides}
use Rattle.std.specs.Int.{byte_at}
use Rattle.byteorder.specs.Endian.{big_number, big_bytes}
use Rattle.file_laws.specs.Files.{framed, head_text, IsBody, AreBodies, IsBatch}
use Rattle.file_laws.specs.Reading.{◌>>=◌, field_at, number_at, magic_at, version_at, count_at, head_at, length_at, body_at, bodies_at, bodies_of, ended, batch_magic}
use Rattle.file_laws.specs.declared.batch_fault.BatchFault.{BatchFault}
use Rattle.file_laws.specs.declared.batch_fault.BatchFault.TheVariants.{Ended, Magic, Version, Count, Length}
use Rattle.file_laws.proofs.Steps.{bind_ok, ok_injective, test_passed, fault_not_found, nothing_left}

abbrev pub AreBytes : List ℕ → Type 0
AreBytes bytes = AllByRecursion (λ byte. byte < 256) bytes

-- a front was read, and bytes are left
pub record Taken (bytes front rest : List ℕ) : Type 0 where
  pub is : bytes ≡ front ++ rest
  pub read : AreBytes front
  pub left : AreBytes rest

pub front_of : (xs ys : List ℕ) → AreBytes (xs ++ ys) → AreBytes xs
front_of [] ys all = tt
front_of (x ∷ xs) ys all = (all.0, front_of xs ys all.1)

pub rest_of : (xs ys : List ℕ) → AreBytes (xs ++ ys) → AreBytes ys
rest_of [] ys all = all
rest_of (x ∷ xs) ys all = rest_of xs ys all.1

taken : (bytes front rest : List ℕ) → AreBytes bytes → bytes ≡ front ++ rest → Taken bytes front rest
taken bytes front rest all is =
    let both : AreBytes (front ++ rest) = subst AreBytes is all in
    record { is = is; read = front_of front rest both; left = rest_of front rest both }

field_taken : (size : ℕ) (bytes field rest : List ℕ) → AreBytes bytes → field_at size bytes ≡ Ok (field, rest) → Taken bytes field rest × (length field ≡ size)
field_taken size bytes field rest all read =
    let there = fault_not_found (ltb (length bytes) size) Ended (take size bytes, drop size bytes) (field, rest) read in
    let front : take size bytes ≡ field = ap (λ (p : List ℕ × List ℕ). p.0) there.1 in
    let back : drop size bytes ≡ rest = ap (λ (p : List ℕ × List ℕ). p.1) there.1 in
    let is : bytes ≡ field ++ rest = sym (take-append-drop size bytes) ∙ rw (front, back) refl in
    (taken bytes field rest all is, ap length (sym front) ∙ length-take-le size bytes (ltb-false (length bytes) size there.0))

pair_of : (a b a' b' : ℕ) → a ≡ a' → b ≡ b' → a ∷ b ∷ [] ≡ a' ∷ b' ∷ []
pair_of a b a' b' e f = rw (e, f) refl

four_of : (a b c d a' b' c' d' : ℕ) → a ≡ a' → b ≡ b' → c ≡ c' → d ≡ d' → a ∷ b ∷ c ∷ d ∷ [] ≡ a' ∷ b' ∷ c' ∷ d' ∷ []
four_of a b c d a' b' c' d' e f g h = rw (e, f, g, h) refl

two : (field : List ℕ) → length field ≡ 2 → AreBytes field → big_bytes 2 (big_number 2 field) ≡ field
two [] len all = absurd (omega (arith, len))
two (a ∷ []) len all = absurd (omega (arith, len))
two (a ∷ b ∷ []) len all =
    let n = big_number 2 (a ∷ b ∷ []) in
    let first : byte_at 1 n ≡ a = omega (arith, all.0, all.1.0) in
    let second : byte_at 0 n ≡ b = omega (arith, all.0, all.1.0) in
    pair_of (byte_at 1 n) (byte_at 0 n) a b first second
two (a ∷ b ∷ c ∷ more) len all = absurd (omega (arith, len))

four : (field : List ℕ) → length field ≡ 4 → AreBytes field → big_bytes 4 (big_number 4 field) ≡ field
four [] len all = absurd (omega (arith, len))
four (a ∷ []) len all = absurd (omega (arith, len))
four (a ∷ b ∷ []) len all = absurd (omega (arith, len))
four (a ∷ b ∷ c ∷ []) len all = absurd (omega (arith, len))
four (a ∷ b ∷ c ∷ d ∷ []) len all =
    let n = big_number 4 (a ∷ b ∷ c ∷ d ∷ []) in
    let first : byte_at 3 n ≡ a = omega (arith, all.0, all.1.0, all.1.1.0, all.1.1.1.0) in
    let second : byte_at 2 n ≡ b = omega (arith, all.0, all.1.0, all.1.1.0, all.1.1.1.0) in
    let third : byte_at 1 n ≡ c = omega (arith, all.0, all.1.0, all.1.1.0, all.1.1.1.0) in
    let fourth : byte_at 0 n ≡ d = omega (arith, all.0, all.1.0, all.1.1.0, all.1.1.1.0) in
    four_of (byte_at 3 n) (byte_at 2 n) (byte_at 1 n) (byte_at 0 n) a b c d first second third fourth
four (a ∷ b ∷ c ∷ d ∷ e ∷ more) len all = absurd (omega (arith, len))

number_taken : (size : ℕ) → ((field : List ℕ) → length field ≡ size → AreBytes field → big_bytes size (big_number size field) ≡ field)
    → (bytes : List ℕ) (n : ℕ) (rest : List ℕ) → AreBytes bytes → number_at size bytes ≡ Ok (n, rest) → Taken bytes (big_bytes size n) rest
unfolding number_at
number_taken size back bytes n rest all read =
    let a = bind_ok (field_at size bytes) (λ x. let r : Result (ℕ × List ℕ) BatchFault = Ok (big_number size x.0, x.1) in r) (n, rest) read in
    let same = ok_injective (big_number size a.0.0, a.0.1) (n, rest) a.2 in
    let field = field_taken size bytes a.0.0 a.0.1 all a.1 in
    let number : big_number size a.0.0 ≡ n = ap (λ (p : ℕ × List ℕ). p.0) same in
    let left : a.0.1 ≡ rest = ap (λ (p : ℕ × List ℕ). p.1) same in
    let text : a.0.0 ≡ big_bytes size n = sym (back a.0.0 field.1 field.0.read) ∙ ap (big_bytes size) number in
    subst (λ (l : List ℕ). Taken bytes (big_bytes size n) l) left (subst (λ (f : List ℕ). Taken bytes f a.0.1) text field.0)

magic_taken : (magic bytes letters rest : List ℕ) → AreBytes bytes → magic_at magic bytes ≡ Ok (letters, rest) → Taken bytes magic rest
unfolding magic_at
magic_taken magic bytes letters rest all read =
    let a = bind_ok (field_at 4 bytes) (λ x. let r : Result (List ℕ × List ℕ) BatchFault = cond (bytes_eq x.0 magic) (Ok x) (Err Magic) in r) (letters, rest) read in
    let b = test_passed (bytes_eq a.0.0 magic) Magic a.0 (letters, rest) a.2 in
    let same : a.0.0 ≡ magic = (bytes_eq-Decides a.0.0 magic).0 b.0 in
    let left : a.0.1 ≡ rest = ap (λ (p : List ℕ × List ℕ). p.1) b.1 in
    subst (λ (l : List ℕ). Taken bytes magic l) left (subst (λ (f : List ℕ). Taken bytes f a.0.1) same (field_taken 4 bytes a.0.0 a.0.1 all a.1).0)

version_taken : (bytes : List ℕ) (n : ℕ) (rest : List ℕ) → AreBytes bytes → version_at bytes ≡ Ok (n, rest) → Taken bytes (big_bytes 2 1) rest
unfolding version_at
version_taken bytes n rest all read =
    let a = bind_ok (number_at 2 bytes) (λ x. let r : Result (ℕ × List ℕ) BatchFault = cond (eqb x.0 1) (Ok x) (Err Version) in r) (n, rest) read in
    let b = test_passed (eqb a.0.0 1) Version a.0 (n, rest) a.2 in
    let left : a.0.1 ≡ rest = ap (λ (p : ℕ × List ℕ). p.1) b.1 in
    subst (λ (l : List ℕ). Taken bytes (big_bytes 2 1) l) left (subst (λ (k : ℕ). Taken bytes (big_bytes 2 k) a.0.1) (eqb-true a.0.0 1 b.0) (number_taken 2 two bytes a.0.0 a.0.1 all a.1))

count_taken : (bytes : List ℕ) (n : ℕ) (rest : List ℕ) → AreBytes bytes → count_at bytes ≡ Ok (n, rest) → Taken bytes (big_bytes 4 n) rest × (n ≤ 65536)
unfolding count_at
count_taken bytes n rest all read =
    let a = bind_ok (number_at 4 bytes) (λ x. let r : Result (ℕ × List ℕ) BatchFault = cond (ltb 65536 x.0) (Err Count) (Ok x) in r) (n, rest) read in
    let b = fault_not_found (ltb 65536 a.0.0) Count a.0 (n, rest) a.2 in
    let number : a.0.0 ≡ n = ap (λ (p : ℕ × List ℕ). p.0) b.1 in
    (number_taken 4 four bytes n rest all (a.1 ∙ ap Ok b.1), subst (λ (k : ℕ). k ≤ 65536) number (ltb-false 65536 a.0.0 b.0))

-- one front behind another
then : (bytes front mid back rest : List ℕ) → Taken bytes front mid → Taken mid back rest → bytes ≡ (front ++ back) ++ rest
then bytes front mid back rest first second = first.is ∙ ap (λ (x : List ℕ). front ++ x) second.is ∙ sym (append_assoc front back rest)

head_taken : (magic bytes : List ℕ) (n : ℕ) (rest : List ℕ) → AreBytes bytes → head_at magic bytes ≡ Ok (n, rest) → Taken bytes (head_text magic n) rest × (n ≤ 65536)
unfolding head_at head_text
head_taken magic bytes n rest all read =
    let a = bind_ok (magic_at magic bytes) (λ x. version_at x.1 >>= λ y. count_at y.1) (n, rest) read in
    let b = bind_ok (version_at a.0.1) (λ y. count_at y.1) (n, rest) a.2 in
    let letters = magic_taken magic bytes a.0.0 a.0.1 all a.1 in
    let version = version_taken a.0.1 b.0.0 b.0.1 letters.left b.1 in
    let count = count_taken b.0.1 n rest version.left b.2 in
    let both = taken bytes (magic ++ big_bytes 2 1) b.0.1 all (then bytes magic a.0.1 (big_bytes 2 1) b.0.1 letters version) in
    (taken bytes ((magic ++ big_bytes 2 1) ++ big_bytes 4 n) rest all (then bytes (magic ++ big_bytes 2 1) b.0.1 (big_bytes 4 n) rest both count.0), count.1)

not_zero : (n : ℕ) → eqb n 0 ≡ false → 1 ≤ n
not_zero zero e = absurd cc
not_zero (suc n) e = omega arith

length_taken : (bytes : List ℕ) (n : ℕ) (rest : List ℕ) → AreBytes bytes → length_at bytes ≡ Ok (n, rest) → Taken bytes (big_bytes 2 n) rest × (1 ≤ n) × (n ≤ 512)
unfolding length_at
length_taken bytes n rest all read =
    let a = bind_ok (number_at 2 bytes) (λ x. let r : Result (ℕ × List ℕ) BatchFault = cond (eqb x.0 0 || ltb 512 x.0) (Err Length) (Ok x) in r) (n, rest) read in
    let b = fault_not_found (eqb a.0.0 0 || ltb 512 a.0.0) Length a.0 (n, rest) a.2 in
    let c = or_parts (eqb a.0.0 0) (ltb 512 a.0.0) b.0 in
    let number : a.0.0 ≡ n = ap (λ (p : ℕ × List ℕ). p.0) b.1 in
    (number_taken 2 two bytes n rest all (a.1 ∙ ap Ok b.1), subst (λ (k : ℕ). 1 ≤ k) number (not_zero a.0.0 c.0), subst (λ (k : ℕ). k ≤ 512) number (ltb-false 512 a.0.0 c.1))

body_taken : (bytes body rest : List ℕ) → AreBytes bytes → body_at bytes ≡ Ok (body, rest) → Taken bytes (framed body) rest × IsBody body
unfolding body_at
body_taken bytes body rest all read =
    let a = bind_ok (length_at bytes) (λ n. field_at n.0 n.1) (body, rest) read in
    let len = length_taken bytes a.0.0 a.0.1 all a.1 in
    let field = field_taken a.0.0 a.0.1 body rest len.0.left a.2 in
    let prefix : Taken bytes (big_bytes 2 (length body)) a.0.1 = subst (λ (k : ℕ). Taken bytes (big_bytes 2 k) a.0.1) (sym field.1) len.0 in
    (taken bytes (framed body) rest all (then bytes (big_bytes 2 (length body)) a.0.1 body rest prefix field.0), (rw field.1 len.1, rw field.1 len.2))

-- so many bodies were read
abbrev AreTaken : ℕ → List ℕ → List (List ℕ) × List ℕ → Type 0
AreTaken n bytes read = Taken bytes (flat_map framed read.0) read.1 × AllByRecursion IsBody read.0 × (length read.0 ≡ n)

bodies_taken : (n : ℕ) (bytes : List ℕ) (bodies : List (List ℕ)) (rest : List ℕ) → AreBytes bytes → bodies_at n bytes ≡ Ok (bodies, rest) → AreTaken n bytes (bodies, rest)
unfolding bodies_at
bodies_taken zero bytes bodies rest all read = subst (AreTaken zero bytes) (ok_injective ([], bytes) (bodies, rest) read) (taken bytes [] bytes all refl, tt, refl)
bodies_taken (suc n) bytes bodies rest all read =
    let a = bind_ok (body_at bytes) (λ b. bodies_at n b.1 >>= λ others. Ok (b.0 ∷ others.0, others.1)) (bodies, rest) read in
    let b = bind_ok (bodies_at n a.0.1) (λ others. Ok (a.0.0 ∷ others.0, others.1)) (bodies, rest) a.2 in
    let first = body_taken bytes a.0.0 a.0.1 all a.1 in
    let others = bodies_taken n a.0.1 b.0.0 b.0.1 first.0.left b.1 in
    subst (AreTaken (suc n) bytes) (ok_injective (a.0.0 ∷ b.0.0, b.0.1) (bodies, rest) b.2) (
      taken bytes (flat_map framed (a.0.0 ∷ b.0.0)) b.0.1 all (then bytes (framed a.0.0) a.0.1 (flat_map framed b.0.0) b.0.1 first.0 others.0),
      (first.1, others.1),
      ap suc others.2,
    )

unit_is : (u : Unit {0}) → u ≡ tt
unit_is u = refl

-- the bodies of a file that begins with these letters are its text, and are bodies that a file can have
abbrev IsText : List ℕ → List ℕ → List (List ℕ) → Type 0
IsText magic bytes bodies = AreBodies bodies × (bytes ≡ head_text magic (length bodies) ++ flat_map framed bodies)

file_taken : (magic bytes : List ℕ) (bodies : List (List ℕ)) → AreBytes bytes → bodies_of magic bytes ≡ Ok bodies → IsText magic bytes bodies
unfolding bodies_of
file_taken magic bytes bodies all read =
    let a = bind_ok (head_at magic bytes) (λ count. bodies_at count.0 count.1 >>= λ bodies. ended bodies.1 >>= λ _. Ok bodies.0) bodies read in
    let b = bind_ok (bodies_at a.0.0 a.0.1) (λ bodies. ended bodies.1 >>= λ _. Ok bodies.0) bodies a.2 in
    let c = bind_ok (ended b.0.1) (λ _. let r : Result (List (List ℕ)) BatchFault = Ok b.0.0 in r) bodies b.2 in
    let none : b.0.1 ≡ [] = nothing_left b.0.1 (c.1 ∙ ap Ok (unit_is c.0)) in
    let head = head_taken magic bytes a.0.0 a.0.1 all a.1 in
    let others = bodies_taken a.0.0 a.0.1 b.0.0 b.0.1 head.0.left b.1 in
    let number : length b.0.0 ≡ a.0.0 = others.2 in
    let behind : a.0.1 ≡ flat_map framed b.0.0 = others.0.is ∙ ap (λ (x : List ℕ). flat_map framed b.0.0 ++ x) none ∙ append-nil (flat_map framed b.0.0) in
    let text : bytes ≡ head_text magic (length b.0.0) ++ flat_map framed b.0.0 =
    head.0.is ∙ ap (λ (x : List ℕ). head_text magic a.0.0 ++ x) behind ∙ ap (λ (n : ℕ). head_text magic n ++ flat_map framed b.0.0) (sym number) in
    subst (IsText magic bytes) (ok_injective b.0.0 bodies c.2) ((rw number head.1, others.1), text)

pub batch_taken : (bytes : List ℕ) (bodies : List (List ℕ)) → All (λ byte. byte < 256) bytes → bodies_of batch_magic bytes ≡ Ok bodies → IsBatch bytes bodies
batch_taken bytes bodies all read = file_taken batch_magic bytes bodies (recursion_from_All (λ byte. byte < 256) bytes all) read
