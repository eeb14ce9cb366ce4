use Rattle.std.proofs.Common.{refl}
use Rattle.iso_laws.specs.declared.element.Element.TheVariants as element
use Rattle.iso_codec.proofs.Found.{missing}
use Rattle.iso_codec.proofs.message.reversal_of.Goals as goal

pub unreachable-requires : goal.unreachable-requires
unreachable-requires c = missing c.args.texts.now.original (λ t. t.now) (c.requires.form.required element.Original refl) c.in_default.is
