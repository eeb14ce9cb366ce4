-- Tests, as two cases.
use Rattle.std.proofs.Common.{◌≡◌, ◌≢◌, ◌⊎◌, inl, inr, ℕ, Bool, true, false, List, [], ◌∷◌, refl}
use Rattle.std.specs.Str.{bytes_eq}
use Rattle.std.proofs.lemmas.Bool.{cases_Bool}
use Rattle.std.proofs.lemmas.Slice.Eq.{bytes_eq-Decides}

clash : (b : Bool) → b ≡ true → b ≡ false → ⊥
clash b t f = cc

differ : (xs ys : List ℕ) → bytes_eq xs ys ≡ false → xs ≢ ys
differ xs ys h e = absurd (clash (bytes_eq xs ys) ((bytes_eq-Decides xs ys).1 e) h)

pub same_or_not : (xs ys : List ℕ) → (xs ≡ ys) ⊎ (xs ≢ ys)
same_or_not xs ys = elim (cases_Bool (bytes_eq xs ys)) [ inl h ↦ inl ((bytes_eq-Decides xs ys).0 h) | inr h ↦ inr (differ xs ys h) ]

pub some_or_none : {A : Type 0} (xs : List A) → (xs ≡ []) ⊎ (xs ≢ [])
some_or_none [] = inl refl
some_or_none (x ∷ xs) = inr (λ e. absurd cc)
