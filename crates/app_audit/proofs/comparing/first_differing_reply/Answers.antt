use Rattle.std.proofs.Common.{rules, Some, None, IfNone, Option}
use Rattle.std.proofs.lemmas.Iterator.{YieldsList-from_slice, IsFirst-from_position}
use Rattle.itertools.proofs.ItemLemmas.{EndTogether-from_lists}
use Rattle.app_audit.proofs.Zipped.{AreSame, Differ, all_same, first_differing, paired}
use Rattle.app_audit.proofs.comparing.first_differing_reply.Goals as goal

pub position-requires-clause-can : goal.position-requires-clause-can
position-requires-clause-can c =
    let mine = YieldsList-from_slice {s = c.zip_eq.result.a.iter} c.args.replies.now (search rules) in
    let theirs = YieldsList-from_slice {s = c.zip_eq.result.b.iter} c.args.right.now (search rules) in
    (λ _. tt, λ _. tt, EndTogether-from_lists c.zip_eq.result.a c.zip_eq.result.b c.zip_eq.ensures.first.1 c.zip_eq.ensures.second.1 mine theirs c.requires.count)

pub returns-clause-some : goal.returns-clause-some
returns-clause-some c =
    let pairs = paired c.args.replies.now c.args.right.now c.zip_eq.ensures.runs (search rules) (search rules) in
    first_differing c.args.replies.now c.args.right.now c.in_ok-place.place c.requires.count
    (IsFirst-from_position c.position.new.self _ (Some c.in_ok-place.place) Differ AreSame c.in_ok-place.ensures.ran pairs (λ x q k. search rules) (λ x q k. search rules))

if_none : {A : Type 0} {P : Type 0} (o : Option A) → P → IfNone o P
if_none None p = p
if_none (Some x) p = tt

pub returns-in_err-place-clause-none : goal.returns-in_err-place-clause-none
returns-in_err-place-clause-none c =
    let pairs = paired c.args.replies.now c.args.right.now c.zip_eq.ensures.runs (search rules) (search rules) in
    if_none c.from_residual.result
    (all_same c.args.replies.now c.args.right.now c.requires.count
    (IsFirst-from_position c.position.new.self _ None Differ AreSame c.in_err-place.ensures.ran pairs (λ x q k. search rules) (λ x q k. search rules)))
