use Rattle.std.proofs.Common.{◌≡◌, ℕ, List, length, take, drop, sym, ap, subst, ◌∙◌}
use Rattle.iso8583.specs.Class.{IsDigits}
use Rattle.iso8583.specs.Calendar.{IsLocalStamp}
use Rattle.link_frames.proofs.Tails.{parts_of, the_stan, same_function, same_message}
use Rattle.link_frames.proofs.network_decoding.tail_of.Goals as goal

pub returns-in_err-new-clause-only : goal.returns-in_err-new-clause-only
returns-in_err-new-clause-only c = λ m is has same.
    let parts = parts_of c.args.text.now m is same in
    absurd (c.in_err-new.ensures (subst (λ (x : List ℕ). (length x ≡ 6) × IsDigits x) (sym (c.split_at.ensures.front ∙ parts.stan)) is.stan))

pub returns-in_err-new-2-clause-only : goal.returns-in_err-new-2-clause-only
returns-in_err-new-2-clause-only c = λ m is has same.
    let parts = parts_of c.args.text.now m is same in
    absurd (c.in_err-new-2.ensures (subst IsLocalStamp (sym (c.split_at-2.ensures.front ∙ ap (take 12) c.split_at.ensures.back ∙ parts.stamp)) is.stamp))

pub returns-in_err-new-3-clause-only : goal.returns-in_err-new-3-clause-only
returns-in_err-new-3-clause-only c = λ m is has same.
    let parts = parts_of c.args.text.now m is same in
    absurd (c.in_err-new-3.ensures.none m.function (c.split_at-2.ensures.back ∙ ap (drop 12) c.split_at.ensures.back ∙ parts.function))

pub returns-clause-only : goal.returns-clause-only
returns-clause-only c = λ m is has same.
    let parts = parts_of c.args.text.now m is same in
    let stamp = c.split_at-2.ensures.front ∙ ap (take 12) c.split_at.ensures.back ∙ parts.stamp in
    let function = c.split_at-2.ensures.back ∙ ap (drop 12) c.split_at.ensures.back ∙ parts.function in
    same_message m c.args.transmission c.in_ok-new.field-0 c.in_ok-new-2.field-0 c.in_ok-new-3.field-0 has
    (c.in_ok-new.ensures.1 ∙ ap (λ (x : List ℕ). the_stan x) (c.split_at.ensures.front ∙ parts.stan)) (c.in_ok-new-2.ensures.1 ∙ stamp) (same_function c.in_ok-new-3.field-0 m.function (sym c.in_ok-new-3.ensures.some ∙ function))
