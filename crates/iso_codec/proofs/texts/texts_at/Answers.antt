use Rattle.std.proofs.Common.{◌≡◌, Ok, refl, arith}
use Rattle.iso_laws.specs.Spelling.{fields}
use Rattle.iso_laws.specs.Reading.{reading}
use Rattle.iso_laws.proofs.Forms.{read_texts}
use Rattle.iso_codec.specs.Sides.{types_of}
use Rattle.iso_codec.specs.Texts.{texts_of}
use Rattle.iso_codec.proofs.texts.texts_at.Goals as goal

pub returns-clause-texts : goal.returns-clause-texts
unfolding reading
returns-clause-texts c =
    let read : reading (types_of c.args.side) c.args.bytes.now ≡ Ok (c.in_ok-mti.mti, fields (texts_of c.in_ok-texts.texts)) = rw (c.in_ok-mti.ensures.gives, c.in_ok-texts.ensures) refl in
    read_texts (types_of c.args.side) c.args.bytes.now c.in_ok-mti.mti (texts_of c.in_ok-texts.texts) (λ i. omega (arith, c.type_inv.bytes i)) read
