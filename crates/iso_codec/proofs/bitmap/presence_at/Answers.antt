use Rattle.std.proofs.Common.{◌<◌, ◌^◌, ℕ, refl, sym, subst, ◌∙◌}
use Rattle.iso_codec.proofs.Masks.{and_fits, must_fits, presence_from, stranger_from}
use Rattle.iso_codec.proofs.bitmap.presence_at.Goals as goal

pub least_of-requires : goal.least_of-requires
least_of-requires c = and_fits _ _ c.requires

pub least_of-requires-2 : goal.least_of-requires-2
least_of-requires-2 c = and_fits _ _ (subst (λ (m : ℕ). m < 2 ^ 127) (sym c.must_have.ensures) (must_fits c.args.mti))

pub returns-in-Some : goal.returns-in-Some
returns-in-Some c = stranger_from c.args.mti c.args.bitmap c.may_have.result c.least_of.result c.in-Some.n c.may_have.ensures c.least_of.ensures c.in-Some.is

pub returns-in-Some-least_of : goal.returns-in-Some-least_of
returns-in-Some-least_of c =
    presence_from c.args.mti c.args.bitmap c.may_have.result c.must_have.result c.least_of.result c.least_of-2.result c.requires c.may_have.ensures c.must_have.ensures c.least_of.ensures c.least_of-2.ensures
    ∙ rw (c.in_default.is, c.in-Some-least_of.is) refl

pub returns : goal.returns
returns c =
    presence_from c.args.mti c.args.bitmap c.may_have.result c.must_have.result c.least_of.result c.least_of-2.result c.requires c.may_have.ensures c.must_have.ensures c.least_of.ensures c.least_of-2.ensures
    ∙ rw (c.in_default.is, c.in_default-least_of.is) refl
