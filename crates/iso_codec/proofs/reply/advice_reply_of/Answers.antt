use Rattle.std.proofs.Common.{refl}
use Rattle.iso_laws.specs.declared.element.Element.TheVariants as element
use Rattle.iso_codec.proofs.Found.{missing}
use Rattle.iso_codec.proofs.reply.advice_reply_of.Goals as goal

pub unreachable-requires : goal.unreachable-requires
unreachable-requires c = missing c.args.texts.now.action (λ t. t.now) (c.requires.form.required element.Action refl) c.in_default.is
