use Rattle.std.proofs.Common.{◌≡◌, ◌+◌, ℕ, Option, None, replicate, rules}
use Rattle.stm_scheduler.proofs.Boards.{open-IsSound, open-IsHighest}
use Rattle.stm_scheduler.specs.Board.{fresh_mark}
use Rattle.stm_scheduler.proofs.scheduler.Scheduler.new.Goals as goal

pub invariant_of-result : goal.invariant_of-result
invariant_of-result c =
    let marks : c.in_ok-from_elem.field-0.items ≡ replicate c.args.count fresh_mark = search (rules, c.in_ok-from_elem.ensures.items_if_clones_equal) in
    let firsts : c.in_ok-from_elem-2.field-0.items ≡ replicate {A = Option ℕ} c.args.count None = search (rules, c.in_ok-from_elem-2.ensures.items_if_clones_equal) in
    let nexts : c.in_ok-from_elem-3.field-0.items ≡ replicate {A = Option ℕ} c.args.count None = search (rules, c.in_ok-from_elem-3.ensures.items_if_clones_equal) in
    let floors : c.in_ok-from_elem-4.field-0.items ≡ replicate {A = ℕ} (c.args.count + 1) 0 = search (rules, c.in_ok-from_elem-4.ensures.items_if_clones_equal) in
    rw (marks, firsts, nexts, floors) (open-IsSound c.args.count c.requires, open-IsHighest c.args.count)
