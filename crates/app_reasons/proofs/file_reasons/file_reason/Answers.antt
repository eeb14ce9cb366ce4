use Rattle.std.proofs.Common.{rules, ◌≡◌, ◌∙◌, ℕ, List, sym}
use Rattle.file_laws.specs.BatchFault.{number_of_fault}
use Rattle.app_reasons.specs.Says.{Says}
use Rattle.app_reasons.proofs.file_reasons.file_reason.Goals as goal

pub returns-then-number : goal.returns-then-number
returns-then-number g c =
    let same : number_of_fault c.in-Some.found ≡ number_of_fault c.args.fault.now = sym c.number.ensures ∙ (c.if-number.true ∙ c.number-2.ensures) in
    let says : (bytes : List ℕ) → g.F.Files.holds c.args.files.now c.args.name.now bytes → Says c.args.kind bytes c.in-Some.found c.in-Some.reason = search rules in
    λ bytes held. (c.in-Some.found, says bytes held, same)
