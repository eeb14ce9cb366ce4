use Rattle.std.proofs.Common.{◌++◌, length, sym, ◌∙◌, arith}
use Rattle.app_parts_folder.specs.PlanTexts.{listed_text}
use Rattle.app_parts_folder.proofs.Fronts.{behind_letters, behind_number, numbered, same_front}
use Rattle.app_parts_folder.proofs.plan_reading.read_plan.Goals as goal

pub returns-in-None-clause-none : goal.returns-in-None-clause-none
returns-in-None-clause-none c = λ plan is e.
    let first = behind_letters c.args.bytes.now c.in-Some.counted.now plan c.in-Some.ensures.some e in
    let count = behind_number c.in-Some-split_number.count (length plan.digests) c.in-Some.counted.now c.in-Some-split_number.numbered.now (numbered plan) c.in-Some-split_number.ensures.fits (omega (arith, is.listed.few))
    c.in-Some-split_number.ensures.some first in
    let messages = behind_number c.in-Some-split_number-2.messages (length plan.parts) c.in-Some-split_number.numbered.now c.in-Some-split_number-2.behind.now (plan.rest ++ listed_text plan.digests plan.parts)
    c.in-Some-split_number-2.ensures.fits (omega (arith, is.listed.fit)) c.in-Some-split_number-2.ensures.some count.1 in
    let digest = c.in-Some-split_digest.ensures.some in
    let rest = same_front c.in-Some-split_digest.digest.now plan.rest c.in-Some-split_digest.listed.now (listed_text plan.digests plan.parts) (digest.1 ∙ sym is.rest) (sym digest.0 ∙ messages.1) in
    let none = rw c.in-None.is at c.in_ok-digests.ensures.none in
    none plan.digests plan.parts (rw (count.0, messages.0) is.listed) rest.1
