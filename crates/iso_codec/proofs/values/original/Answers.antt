use Rattle.std.proofs.Common.{◌-◌, length, take, drop, refl, rules}
use Rattle.std.proofs.lemmas.List.{take_rest}
use Rattle.iso_laws.specs.declared.element.Element.TheVariants as element
use Rattle.iso_laws.specs.Elements.{IsText}
use Rattle.iso_laws.proofs.Originals.{original_cut}
use Rattle.iso_codec.proofs.values.original.Goals as goal

pub of_text-requires : goal.of_text-requires
of_text-requires c =
    let acquirer : IsText element.Acquirer (take (length c.args.text.now - 24) (drop 24 c.args.text.now)) = rw (take_rest c.args.text.now 24) (original_cut c.args.text.now c.requires).3 in
    search rules

pub of_text-requires-3 : goal.of_text-requires-3
of_text-requires-3 c = (original_cut c.args.text.now c.requires).2

pub returns : goal.returns
returns c =
    let acquirer = rw (take_rest c.args.text.now 24) at c.of_text.ensures in
    rw (c.original_type-kind.ensures.kind, c.original_type-kind.ensures.repeat, c.of_text-2.ensures, c.of_text-3.ensures, acquirer) refl
