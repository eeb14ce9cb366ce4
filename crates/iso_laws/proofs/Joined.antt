-- Fields of some elements and of those behind them.
use Rattle.std.proofs.Common.{◌≡◌, ℕ, List, [], ◌∷◌, ◌++◌, Option, Some, None, refl, sym, ap, ◌∙◌}
use Rattle.iso_laws.specs.declared.element.Element.{Element}
use Rattle.iso_laws.specs.Spelling.{Field, Texts, with_field, fields_among}

pub with_field-joined : (e : Element) (text : Option (List ℕ)) (xs ys : List Field) → with_field e text xs ++ ys ≡ with_field e text (xs ++ ys)
with_field-joined e None xs ys = refl
with_field-joined e (Some text) xs ys = refl

pub fields_among-append : (text : Texts) (es ds : List Element) → fields_among (es ++ ds) text ≡ fields_among es text ++ fields_among ds text
fields_among-append text [] ds = refl
fields_among-append text (e ∷ es) ds =
    ap (with_field e (text e)) (fields_among-append text es ds) ∙ sym (with_field-joined e (text e) (fields_among es text) (fields_among ds text))
