-- One more call that wrote a part of the rest.
use Rattle.std.proofs.Common.{◌≡◌, ◌≢◌, ℕ, zero, suc, ◌-◌, List, [], ◌++◌, length, take, drop, Ok, Bool, true, refl, sym, ap, ◌∙◌, append_assoc, arith}
use Rattle.std.proofs.lemmas.List.{append-nil, length-drop, take-append-drop, take_all, nil_from_length}
use Rattle.std.specs.Bool.{◌==◌}
use Rattle.file_devices.specs.Devices.{failed_after_put}

-- a call that wrote a byte didn't fail
pub none_failed : (count : ℕ) (failed : Bool) → count ≢ 0 → failed_after_put (Ok count) failed ≡ failed
none_failed zero failed some = absurd (some refl)
none_failed (suc n) failed some = refl

-- a front was written, and then more of the rest
abbrev pub IsPut : List ℕ → List ℕ → List ℕ → List ℕ → Type 0
IsPut old new bytes rest = (front : List ℕ) × (new ≡ old ++ front) × (bytes ≡ front ++ rest)

pub puts_more : (old new new' bytes rest : List ℕ) (count : ℕ) → IsPut old new bytes rest → new' ≡ new ++ take count rest → IsPut old new' bytes (take (length rest - count) (drop count rest))
puts_more old new new' bytes rest count put more =
    let left : take (length rest - count) (drop count rest) ≡ drop count rest = take_all (length rest - count) (drop count rest) (omega (arith, length-drop count rest)) in (
      put.0 ++ take count rest,
      more ∙ ap (λ (x : List ℕ). x ++ take count rest) put.1 ∙ append_assoc old put.0 (take count rest),
      rw left (put.2 ∙ ap (λ (x : List ℕ). put.0 ++ x) (sym (take-append-drop count rest)) ∙ sym (append_assoc put.0 (take count rest) (drop count rest))),
    )

pub nothing : (xs : List ℕ) → true ≡ (length xs == 0) → xs ≡ []
nothing xs e = nil_from_length xs (grind (arith, e))

-- all was written
pub all_put : (old new bytes rest : List ℕ) → IsPut old new bytes rest → true ≡ (length rest == 0) → new ≡ old ++ bytes
all_put old new bytes rest put none = rw (put.1, put.2, nothing rest none) (ap (λ (x : List ℕ). old ++ x) (sym (append-nil put.0)))
