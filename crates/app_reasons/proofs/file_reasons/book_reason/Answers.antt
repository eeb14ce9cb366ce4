use Rattle.std.proofs.Common.{rules, ◌≡◌, ◌∙◌, ℕ, List, refl, sym, subst}
use Rattle.book_laws.specs.JsonFault.{number_of_json_fault}
use Rattle.book_places.specs.Places.{IsWrongBook}
use Rattle.app_reasons.proofs.file_reasons.book_reason.Goals as goal

pub returns-then-number : goal.returns-then-number
returns-then-number g c =
    let same : number_of_json_fault c.in-Ok-Some.wrong.fault ≡ number_of_json_fault c.args.fault.now = sym c.number.ensures ∙ (c.if-number.true ∙ c.number-2.ensures) in
    let read : (bytes : List ℕ) → g.F.Files.holds c.args.files.now c.args.name.now bytes → c.in_ok-text.text.items ≡ bytes = search rules in
    λ bytes held. (
      c.in-Ok-Some.wrong,
      subst (λ (text : List ℕ). IsWrongBook text c.in-Ok-Some.wrong) (c.deref.ensures.value ∙ read bytes held) (rw c.in-Ok-Some.field-0-is at c.in-Ok-Some.ensures),
      refl,
      same,
    )
