use Rattle.std.proofs.Common.{◌≡◌, [], ◌∷◌, List, length, refl, subst, arith}
use Rattle.json.specs.Token.{Token}
use Rattle.iso_laws.specs.declared.element.Element.{Element}
use Rattle.book_laws.specs.Text.{Adds}
use Rattle.book_laws.proofs.WrittenTokens.{then}
use Rattle.book_text.proofs.Tokens.{no_token}
use Rattle.message_text.proofs.ElementMembers.{next_element}
use Rattle.message_text.proofs.writing.put_elements.Goals as goal

pub loop-element-preserved : goal.loop-element-preserved
loop-element-preserved g c whole rest =
    let next = next_element c.args.cards (g.M.HasElements.texts c.args.message.now) c.in-Some.element.now c.loop-element.rest.now c.in-Some.more.now _
    c.in-Some.ensures.cases.0 c.value-value.ensures in
    c.loop-element.invariant whole (subst (λ (ts : List Token). Adds c.loop-element.out whole ts) next (then c.in_ok-put_element.ensures rest))

none_left : (rest : List Element) → length rest ≡ 0 → rest ≡ []
none_left [] h = refl
none_left (e ∷ es) h = absurd (omega (arith, h))

pub returns : goal.returns
returns g c = c.loop-element.invariant c.loop-element.out (rw (none_left c.loop-element.rest.now c.in_default.ensures.cases) (no_token c.loop-element.out))
