-- What a step of reading that did not fail gives.
use Rattle.std.proofs.Common.{◌≡◌, ◌<◌, ℕ, Bool, true, false, cond, List, [], ◌∷◌, length, Result, Ok, Err, refl, arith}
use Rattle.file_laws.specs.Reading.{◌>>=◌, ended}
use Rattle.file_laws.specs.declared.batch_fault.BatchFault.{BatchFault}
use Rattle.file_laws.specs.declared.batch_fault.BatchFault.TheVariants.{Trailing}

-- the value of a step that did not fail
pub bind_ok : {A B : Type 0} (r : Result A BatchFault) (f : A → Result B BatchFault) (y : B) → (r >>= f) ≡ Ok y → (x : A) × (r ≡ Ok x) × (f x ≡ Ok y)
bind_ok (Ok x) f y e = (x, refl, e)
bind_ok (Err d) f y e = absurd cc

pub ok_injective : {A : Type 0} (x y : A) → Path (Result A BatchFault) (Ok x) (Ok y) → x ≡ y
ok_injective x y e = cc

-- a test that a value test_passed
pub test_passed : {A : Type 0} (b : Bool) (d : BatchFault) (x y : A) → cond b (Ok x) (Err d) ≡ Ok y → (b ≡ true) × (x ≡ y)
test_passed true d x y h = (refl, cc)
test_passed false d x y h = absurd cc

-- a test for a fault that was not found
pub fault_not_found : {A : Type 0} (b : Bool) (d : BatchFault) (x y : A) → cond b (Err d) (Ok x) ≡ Ok y → (b ≡ false) × (x ≡ y)
fault_not_found true d x y h = absurd cc
fault_not_found false d x y h = (refl, cc)

pub nothing_left : (left : List ℕ) → ended left ≡ Ok tt → left ≡ []
nothing_left [] e = refl
nothing_left (b ∷ bytes) e = absurd cc

-- a byte too many
pub ended_more : (bytes : List ℕ) → 0 < length bytes → ended bytes ≡ Err Trailing
ended_more [] more = absurd (omega (arith, more))
ended_more (b ∷ bytes) more = refl
