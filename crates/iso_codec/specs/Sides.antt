-- The types that are read as messages, or as replies.
use Rattle.std.specs.Prelude.{List}
use Rattle.iso_codec.specs.declared.side.Side.{Side}
use Rattle.iso_codec.specs.declared.side.Side.TheVariants.{TakenIn, GivenOut}
use Rattle.iso_laws.specs.declared.mti.Mti.{Mti}
use Rattle.iso_laws.specs.Types.{taken_in, given_out}

-- the types that are read on a side
abbrev pub types_of : Side → List Mti
types_of TakenIn = taken_in
types_of GivenOut = given_out
