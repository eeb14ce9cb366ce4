use Rattle.std.proofs.Common.{◌≡◌, ◌++◌, sym, ap, ◌∙◌, length}
use Rattle.std.proofs.lemmas.List.{take-append-drop}
use Rattle.std.proofs.lemmas.Slice.Eq.{bytes_eq-Decides}
use Rattle.app_parts_folder.specs.PlanTexts.{decided_head}
use Rattle.app_parts_folder.proofs.Fronts.{same_front}
use Rattle.app_parts_folder.proofs.decided.behind_decided_head.Goals as goal

pub returns-clause-none : goal.returns-clause-none
returns-clause-none c = λ behind e.
    let head = decided_head c.args.part c.args.plan.now in
    let own : c.as_slice-own.result.now ≡ head = c.as_slice-own.ensures.value ∙ c.in_ok-head.ensures in
    let long : length c.split_at.result.0.now ≡ length head = c.split_at.ensures.front_len ∙ ap length own in
    let whole : c.split_at.result.0.now ++ c.split_at.result.1.now ≡ c.args.bytes.now =
    (λ i. c.split_at.ensures.front i ++ c.split_at.ensures.back i) ∙ take-append-drop (length c.as_slice-own.result.now) c.args.bytes.now in
    let same : c.split_at.result.0.now ≡ head = (same_front c.split_at.result.0.now head c.split_at.result.1.now behind long (whole ∙ e)).0 in
    let alike : c.split_at.result.0.now ≡ c.as_slice-own.result.now = same ∙ sym own in
    let yes = (bytes_eq-Decides c.split_at.result.0.now c.as_slice-own.result.now).1 alike in
    let no = c.eq.ensures in
    let told = c.if-eq.false in
    absurd cc
