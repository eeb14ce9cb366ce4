-- What reads from the left takes a front of the bytes, and reads the same whatever stands behind it.
use Rattle.std.proofs.Common.{◌≡◌, ℕ, zero, suc, Bool, true, false, cond, ltb, eqb, List, [], ◌∷◌, ◌++◌, length, take, drop, Result, Ok, Err, refl, sym, ap, ◌∙◌, append_assoc}
use Rattle.std.specs.Prelude.{◌||◌}
use Rattle.std.proofs.lemmas.Bool.{ltb-false}
use Rattle.std.proofs.lemmas.List.{take-append-drop, length-take-le}
use Rattle.byteorder.specs.Endian.{big_number}
use Rattle.file_laws.specs.Blocks.{block_at}
use Rattle.file_laws.specs.Reading.{◌>>=◌, field_at, number_at, version_at, count_at, length_at, body_at, bodies_at}
use Rattle.file_laws.specs.declared.batch_fault.BatchFault.{BatchFault}
use Rattle.file_laws.specs.declared.batch_fault.BatchFault.TheVariants.{Ended, Version, Count, Length}
use Rattle.file_laws.proofs.Steps.{bind_ok, ok_injective, fault_not_found}
use Rattle.file_laws.proofs.Again.{field_again}

abbrev Read : Type 0 → Type 0
Read A = Result (A × List ℕ) BatchFault

-- of these bytes this is read, with that rest: of a front, which gives it before any others
pub record Takes {A : Type 0} (read : List ℕ → Read A) (bytes : List ℕ) (x : A) (rest : List ℕ) : Type 0 where
  pub front : List ℕ
  pub is : bytes ≡ front ++ rest
  pub again : (more : List ℕ) → read (front ++ more) ≡ Ok (x, more)

abbrev pub TakesFront : {A : Type 0} → (List ℕ → Read A) → Type 0
TakesFront {A} read = (bytes : List ℕ) (x : A) (rest : List ℕ) → read bytes ≡ Ok (x, rest) → Takes read bytes x rest

-- nothing is read
nothing_front : {A : Type 0} (x : A) → TakesFront (λ bytes. let r : Read A = Ok (x, bytes) in r)
nothing_front {A = A} x bytes y rest e =
    let same = ok_injective (x, bytes) (y, rest) e in
    let value : x ≡ y = ap (λ (p : A × List ℕ). p.0) same in
    record { front = []; is = ap (λ (p : A × List ℕ). p.1) same; again = λ more. ap (λ (z : A). let r : Read A = Ok (z, more) in r) value }

-- a test behind what is read
test_front : {A : Type 0} (b : Bool) (e : BatchFault) (x : A) → TakesFront (λ bytes. let r : Read A = cond b (Err e) (Ok (x, bytes)) in r)
test_front true e x bytes y rest read = absurd cc
test_front false e x bytes y rest read = nothing_front x bytes y rest read

passed_front : {A : Type 0} (b : Bool) (e : BatchFault) (x : A) → TakesFront (λ bytes. let r : Read A = cond b (Ok (x, bytes)) (Err e) in r)
passed_front true e x bytes y rest read = nothing_front x bytes y rest read
passed_front false e x bytes y rest read = absurd cc

-- one behind the other
then_front : {A B : Type 0} (read : List ℕ → Read A) (next : A → List ℕ → Read B) → TakesFront read → ((x : A) → TakesFront (next x))
    → TakesFront (λ bytes. read bytes >>= λ p. next p.0 p.1)
then_front {A = A} {B = B} read next first second bytes y rest e =
    let a = bind_ok (read bytes) (λ p. next p.0 p.1) (y, rest) e in
    let here = first bytes a.0.0 a.0.1 a.1 in
    let there = second a.0.0 a.0.1 y rest a.2 in
    record {
      front = here.front ++ there.front;
      is = here.is ∙ ap (λ (l : List ℕ). here.front ++ l) there.is ∙ sym (append_assoc here.front there.front rest);
      again = λ more.
          ap (λ (l : List ℕ). read l >>= λ p. next p.0 p.1) (append_assoc here.front there.front more)
          ∙ ap (λ (r : Read A). r >>= λ p. next p.0 p.1) (here.again (there.front ++ more))
          ∙ there.again more;
    }

-- ---- of a file

pub field_taken : (size : ℕ) (bytes field rest : List ℕ) → field_at size bytes ≡ Ok (field, rest) → (bytes ≡ field ++ rest) × (length field ≡ size)
field_taken size bytes field rest e =
    let there = fault_not_found (ltb (length bytes) size) Ended (take size bytes, drop size bytes) (field, rest) e in
    let front : take size bytes ≡ field = ap (λ (p : List ℕ × List ℕ). p.0) there.1 in
    let back : drop size bytes ≡ rest = ap (λ (p : List ℕ × List ℕ). p.1) there.1 in
    let is : bytes ≡ field ++ rest = sym (take-append-drop size bytes) ∙ rw (front, back) refl in
    (is, ap length (sym front) ∙ length-take-le size bytes (ltb-false (length bytes) size there.0))

field_front : (size : ℕ) → TakesFront (field_at size)
field_front size bytes field rest e =
    let t = field_taken size bytes field rest e in
    record { front = field; is = t.0; again = λ more. field_again field more size t.1 }

number_front : (size : ℕ) → TakesFront (number_at size)
unfolding number_at
number_front size = then_front (field_at size) (λ field left. Ok (big_number size field, left)) (field_front size) (λ field. nothing_front (big_number size field))

version_front : TakesFront version_at
unfolding version_at
version_front = then_front (number_at 2) (λ n left. cond (eqb n 1) (Ok (n, left)) (Err Version)) (number_front 2) (λ n. passed_front (eqb n 1) Version n)

pub count_front : TakesFront count_at
unfolding count_at
count_front = then_front (number_at 4) (λ n left. cond (ltb 65536 n) (Err Count) (Ok (n, left))) (number_front 4) (λ n. test_front (ltb 65536 n) Count n)

length_front : TakesFront length_at
unfolding length_at
length_front =
    then_front (number_at 2) (λ n left. cond (eqb n 0 || ltb 512 n) (Err Length) (Ok (n, left))) (number_front 2)
    (λ n. test_front (eqb n 0 || ltb 512 n) Length n)

body_front : TakesFront body_at
unfolding body_at
body_front = then_front length_at field_at length_front field_front

bodies_front : (n : ℕ) → TakesFront (bodies_at n)
unfolding bodies_at
bodies_front zero = nothing_front []
bodies_front (suc n) =
    then_front body_at (λ body left. bodies_at n left >>= λ others. Ok (body ∷ others.0, others.1)) body_front
    (λ body. then_front (bodies_at n) (λ others left. Ok (body ∷ others, left)) (bodies_front n) (λ others. nothing_front (body ∷ others)))

pub block_front : TakesFront block_at
unfolding block_at
block_front = then_front count_at bodies_at count_front bodies_front

-- version 1 and a count
abbrev pub counted_at : List ℕ → Read ℕ
counted_at bytes = version_at bytes >>= λ version. count_at version.1

pub counted_front : TakesFront counted_at
counted_front = then_front version_at (λ _. count_at) version_front (λ _. count_front)
