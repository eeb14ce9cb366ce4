-- The codes that the rules of elements 24 and 39 name, as numbers of three digits.
use Rattle.std.proofs.Common.{◌≡◌, refl}
use Rattle.std.specs.Prelude.{codes}
use Rattle.iso8583.specs.Number.{fixed_digits}

pub full_text : fixed_digits 3 400 ≡ codes "400"
unfolding fixed_digits
full_text = refl

pub partial_text : fixed_digits 3 401 ≡ codes "401"
unfolding fixed_digits
partial_text = refl

pub zero_text : fixed_digits 3 0 ≡ codes "000"
unfolding fixed_digits
zero_text = refl
