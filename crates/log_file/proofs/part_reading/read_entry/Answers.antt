use Rattle.std.proofs.Common.{◌≡◌, ◌∙◌, ◌+◌, ◌++◌, take, drop, length, refl, ap, subst, arith}
use Rattle.log_file.specs.Ahead.{ahead, held}
use Rattle.log_file.specs.Parts.{IsChecked}
use Rattle.log_file.specs.declared.part.Checked.TheVariants.{Whole, NoBodies, Unmatched}
use Rattle.log_file.proofs.Ahead.{IsHeld, at_least, at_most, cut_end, entry_part, last_part, more_part, no_bodies_part, ok_of, parts_held}
use Rattle.log_file.proofs.part_reading.read_entry.Goals as goal

pub returns-then-not-branch-clause-part : goal.returns-then-not-branch-clause-part
returns-then-not-branch-clause-part g c = λ known.
    let rem = g.R.Source.remaining in
    let old = c.args.input.now in
    let new = c.fill.new.self in
    let less = ok_of _ _ c.if-not-branch.true in
    let torn = cut_end c.args.before.now (ahead rem old) (held old) (rem old.source) (held new) (rem new.source) c.args.size (omega arith) c.requires.long c.requires.head refl
    (c.in_ok-fill.ensures.bytes known) (c.in_ok-fill.ensures.end less known) (c.in_ok-fill.ensures.less less) in
    (torn.0, ap length c.held.ensures ∙ torn.1)

pub returns-in-Whole-clause-part : goal.returns-in-Whole-clause-part
returns-in-Whole-clause-part g c = λ known.
    let rem = g.R.Source.remaining in
    let old = c.args.input.now in
    let new = c.fill.new.self in
    let next = c.skip.new.self in
    let enough = c.in_ok-fill.ensures.enough (ok_of _ _ c.if-not-branch.false) in
    let p = parts_held (ahead rem old) (held old) (rem old.source) (held new) (rem new.source) c.args.size (omega arith) c.requires.long c.requires.head refl (c.in_ok-fill.ensures.bytes known) enough in
    let behind : c.split_at.result.1.now ≡ drop 8 (held new) = c.split_at.ensures.back ∙ ap (drop 8) c.held-2.ensures in
    let h : IsHeld c.args.size (held new) c.split_at-2.result.0.now c.split_at-3.result.0.now = record {
      payload_is = c.split_at-2.ensures.front ∙ ap (take c.args.size) behind;
      digest_is = c.split_at-3.ensures.front ∙ ap (take 32) (c.split_at-2.ensures.back ∙ ap (drop c.args.size) behind);
      enough = enough;
    } in
    let left : ahead rem next ≡ drop (c.args.size + 40) (held new) ++ rem new.source = rw (c.skip.ensures.held, c.skip.ensures.source) refl in
    let checked : IsChecked c.args.before.now c.split_at-2.result.0.now c.split_at-3.result.0.now (Whole c.in-Whole.bodies) = subst (IsChecked c.args.before.now c.split_at-2.result.0.now c.split_at-3.result.0.now) c.in-Whole.is c.in_ok-bodies.ensures in
    entry_part c.args.before.now (ahead rem old) (held new) (rem new.source) c.args.size c.split_at-2.result.0.now c.split_at-3.result.0.now c.copy_from_slice.new.self (ahead rem next) c.in-Whole.bodies
    p h c.copy_from_slice.ensures.after left checked.0 checked.1 checked.2

pub returns-in-NoBodies-clause-part : goal.returns-in-NoBodies-clause-part
returns-in-NoBodies-clause-part g c = λ known.
    let rem = g.R.Source.remaining in
    let old = c.args.input.now in
    let new = c.fill.new.self in
    let enough = c.in_ok-fill.ensures.enough (ok_of _ _ c.if-not-branch.false) in
    let p = parts_held (ahead rem old) (held old) (rem old.source) (held new) (rem new.source) c.args.size (omega arith) c.requires.long c.requires.head refl (c.in_ok-fill.ensures.bytes known) enough in
    let behind : c.split_at.result.1.now ≡ drop 8 (held new) = c.split_at.ensures.back ∙ ap (drop 8) c.held-2.ensures in
    let h : IsHeld c.args.size (held new) c.split_at-2.result.0.now c.split_at-3.result.0.now = record {
      payload_is = c.split_at-2.ensures.front ∙ ap (take c.args.size) behind;
      digest_is = c.split_at-3.ensures.front ∙ ap (take 32) (c.split_at-2.ensures.back ∙ ap (drop c.args.size) behind);
      enough = enough;
    } in
    let checked : IsChecked c.args.before.now c.split_at-2.result.0.now c.split_at-3.result.0.now NoBodies = subst (IsChecked c.args.before.now c.split_at-2.result.0.now c.split_at-3.result.0.now) c.in-NoBodies.is c.in_ok-bodies.ensures in
    no_bodies_part c.args.before.now (ahead rem old) (held new) (rem new.source) c.args.size c.split_at-2.result.0.now c.split_at-3.result.0.now p h checked.0 checked.1

pub returns-then-branch-clause-part : goal.returns-then-branch-clause-part
returns-then-branch-clause-part g c = λ known.
    let rem = g.R.Source.remaining in
    let old = c.args.input.now in
    let new = c.fill.new.self in
    let last = c.fill-in-Unmatched.new.self in
    let enough = c.in_ok-fill.ensures.enough (ok_of _ _ c.if-not-branch.false) in
    let same = c.in_ok-fill.ensures.bytes known in
    let p = parts_held (ahead rem old) (held old) (rem old.source) (held new) (rem new.source) c.args.size (omega arith) c.requires.long c.requires.head refl same enough in
    let behind : c.split_at.result.1.now ≡ drop 8 (held new) = c.split_at.ensures.back ∙ ap (drop 8) c.held-2.ensures in
    let h : IsHeld c.args.size (held new) c.split_at-2.result.0.now c.split_at-3.result.0.now = record {
      payload_is = c.split_at-2.ensures.front ∙ ap (take c.args.size) behind;
      digest_is = c.split_at-3.ensures.front ∙ ap (take 32) (c.split_at-2.ensures.back ∙ ap (drop c.args.size) behind);
      enough = enough;
    } in
    let checked : IsChecked c.args.before.now c.split_at-2.result.0.now c.split_at-3.result.0.now Unmatched = subst (IsChecked c.args.before.now c.split_at-2.result.0.now c.split_at-3.result.0.now) c.in-Unmatched.is c.in_ok-bodies.ensures in
    let whole : held last ++ rem last.source ≡ ahead rem old = c.in_ok-fill-in-Unmatched.ensures.bytes (c.in_ok-fill.ensures.file.known known) ∙ same in
    let many = at_least (ahead rem old) (held last) (rem last.source) (c.args.size + 40 + 1) whole (c.in_ok-fill-in-Unmatched.ensures.enough (ok_of _ _ c.if-branch.true)) in
    more_part c.args.before.now (ahead rem old) (held new) (rem new.source) c.args.size c.split_at-2.result.0.now c.split_at-3.result.0.now p h same checked (omega (arith, many))

pub returns-else-branch-clause-part : goal.returns-else-branch-clause-part
returns-else-branch-clause-part g c = λ known.
    let rem = g.R.Source.remaining in
    let old = c.args.input.now in
    let new = c.fill.new.self in
    let last = c.fill-in-Unmatched.new.self in
    let enough = c.in_ok-fill.ensures.enough (ok_of _ _ c.if-not-branch.false) in
    let same = c.in_ok-fill.ensures.bytes known in
    let known' = c.in_ok-fill.ensures.file.known known in
    let p = parts_held (ahead rem old) (held old) (rem old.source) (held new) (rem new.source) c.args.size (omega arith) c.requires.long c.requires.head refl same enough in
    let behind : c.split_at.result.1.now ≡ drop 8 (held new) = c.split_at.ensures.back ∙ ap (drop 8) c.held-2.ensures in
    let h : IsHeld c.args.size (held new) c.split_at-2.result.0.now c.split_at-3.result.0.now = record {
      payload_is = c.split_at-2.ensures.front ∙ ap (take c.args.size) behind;
      digest_is = c.split_at-3.ensures.front ∙ ap (take 32) (c.split_at-2.ensures.back ∙ ap (drop c.args.size) behind);
      enough = enough;
    } in
    let checked : IsChecked c.args.before.now c.split_at-2.result.0.now c.split_at-3.result.0.now Unmatched = subst (IsChecked c.args.before.now c.split_at-2.result.0.now c.split_at-3.result.0.now) c.in-Unmatched.is c.in_ok-bodies.ensures in
    let whole : held last ++ rem last.source ≡ ahead rem old = c.in_ok-fill-in-Unmatched.ensures.bytes known' ∙ same in
    let less = ok_of _ _ c.if-branch.false in
    let few = at_most (ahead rem old) (held last) (rem last.source) (c.args.size + 40 + 1) whole (c.in_ok-fill-in-Unmatched.ensures.end less known') (c.in_ok-fill-in-Unmatched.ensures.less less) in
    last_part c.args.before.now (ahead rem old) (held new) (rem new.source) c.args.size c.split_at-2.result.0.now c.split_at-3.result.0.now p h same checked (omega (arith, few))
