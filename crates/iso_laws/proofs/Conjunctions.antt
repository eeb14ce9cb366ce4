-- Where three tests together hold, each of them does.
use Rattle.std.proofs.Common.{◌≡◌, Bool, true, false, refl}
use Rattle.std.specs.Prelude.{◌&&◌}

pub all_three_true : (a b c : Bool) → (a && b && c) ≡ true → (a ≡ true) × (b ≡ true) × (c ≡ true)
all_three_true true true true h = (refl, refl, refl)
all_three_true true true false h = absurd cc
all_three_true true false c h = absurd cc
all_three_true false b c h = absurd cc
