use Rattle.std.proofs.Common.{◌≡◌, ℕ, ◌+◌, ◌<◌, List, ◌++◌, length, Err, inl, ap, ◌∙◌, rules, arith}
use Rattle.std.proofs.lemmas.Grind.{common_steps}
use Rattle.stm_journal_text.specs.Journal.{line_of, journal_text, IsFirstWrongLine}
use Rattle.stm_journal_text.specs.declared.replay_fault.ReplayFault.TheVariants.{Line}
use Rattle.stm_journal_text.proofs.Lines.{wrong_line, no_wrong_line, one_wrong_line, begins_with_a_line}
use Rattle.stm_journal_text.proofs.Anyway.{if_err}
use Rattle.stm_journal_text.proofs.reading.read_journal.Goals as goal

found : (c : goal.After-drop-entries) → IsFirstWrongLine c.args.text.now (c.len.result + 1)
found c =
    let count : c.len.result ≡ length c.loop-rest.entries.items = search rules in
    let some : 0 < length c.loop-rest.rest.now = search rules in
    wrong_line c.args.text.now c.loop-rest.rest.now c.loop-rest.entries.items c.len.result count
    c.loop-rest.invariant.entries c.loop-rest.invariant.parts some c.in_default.ensures.none

pub returns-in_default-clause-read : goal.returns-in_default-clause-read
returns-in_default-clause-read c = λ entries h is. absurd (no_wrong_line entries c.args.text.now (c.len.result + 1) h is (found c))

pub returns-in_default-clause-exact : goal.returns-in_default-clause-exact
returns-in_default-clause-exact c = λ n w.
    inl (ap (λ (m : ℕ). Err (Line m)) (one_wrong_line c.args.text.now (c.len.result + 1) n (found c) w))

pub returns-in_err-push-clause-memory : goal.returns-in_err-push-clause-memory
returns-in_err-push-clause-memory c =
    let first = c.in-Some.ensures.found in
    let is : c.args.text.now ≡ journal_text c.loop-rest.entries.items ++ (line_of c.in-Some.entry ++ c.in-Some.more.now) =
    c.loop-rest.invariant.parts ∙ ap (λ (x : List ℕ). journal_text c.loop-rest.entries.items ++ x) first.1 in
    if_err c.from_residual.result _ (λ e is_memory.
    begins_with_a_line c.args.text.now c.in-Some.more.now c.loop-rest.entries.items c.in-Some.entry c.loop-rest.invariant.entries first.0 is)

pub returns-clause-exact : goal.returns-clause-exact
returns-clause-exact c = λ n w.
    let whole : c.args.text.now ≡ journal_text c.loop-rest.entries.items = grind (arith, common_steps) in
    absurd (no_wrong_line c.loop-rest.entries.items c.args.text.now n c.loop-rest.invariant.entries whole w)
