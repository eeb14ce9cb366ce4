use Rattle.std.proofs.Common.{◌≡◌, ◌-◌, [], ◌∷◌, ◌++◌, map, ap, ◌∙◌, arith}
use Rattle.std.proofs.lemmas.List.{map-append}
use Rattle.file_listing.proofs.BlockSteps.{goes_on}
use Rattle.file_listing.proofs.blocks.texts_at.Goals as goal

pub loop-left-preserved : goal.loop-left-preserved
loop-left-preserved c =
    let left = c.loop-left.left in
    let texts = c.loop-left.texts.items in
    let text = c.in-Ok.parts.0 in
    let added : c.push.new.self.items ≡ texts ++ text ∷ [] = c.in_ok-push.ensures.items in
    goes_on c.args.count c.args.bytes.now left (left - 1) c.loop-left.rest.now c.in-Ok.parts.1.now text.items (map (λ text. text.items) texts)
    (map (λ text. text.items) c.push.new.self.items) (omega (arith, c.loop-left-test.true)) c.in-Ok.ensures.text
    (ap (map (λ text. text.items)) added ∙ map-append (λ text. text.items) texts (text ∷ [])) c.loop-left.invariant
