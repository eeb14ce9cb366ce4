-- A name at its place among names.
use Rattle.std.proofs.Common.{◌≡◌, ℕ, zero, suc, ◌<◌, List, [], ◌∷◌, length, map, slice_index_or, string_bytes, refl, sym, subst, inl, inr, arith}
use Rattle.std.specs.Prelude.{String}
use Rattle.std.specs.Global.{Global}
use Rattle.app_reasons.specs.Tells.{IsOneOf}

one_at : (names : List (String Global)) (i : ℕ) (default : String Global) → i < length names → IsOneOf (map string_bytes names) (string_bytes (slice_index_or names i default))
one_at [] i default within = absurd (omega (arith, within))
one_at (name ∷ names) zero default within = inl refl
one_at (name ∷ names) (suc i) default within = inr (one_at names i default (omega (arith, within)))

pub named_at : (names : List (String Global)) (i : ℕ) (name : String Global) → i < length names → name ≡ slice_index_or names i name
    → IsOneOf (map string_bytes names) (string_bytes name)
named_at names i name within is = subst (λ (n : String Global). IsOneOf (map string_bytes names) (string_bytes n)) (sym is) (one_at names i name within)
