use Rattle.std.proofs.Common.{◌≡◌, ℕ, List, length, take, drop, Some, sym, ap, subst, ◌∙◌}
use Rattle.std.proofs.lemmas.List.{take_at, drop_at}
use Rattle.iso8583.specs.Class.{IsDigits}
use Rattle.link_frames.specs.Network.{tail_text}
use Rattle.link_frames.proofs.Tails.{dated, the_transmission}
use Rattle.link_frames.proofs.network_decoding.dated_of.Goals as goal

pub returns-in_err-new-clause-only : goal.returns-in_err-new-clause-only
returns-in_err-new-clause-only c = λ m t is has same.
    let date = dated m t is has in
    let front : take 10 c.args.text.now ≡ t.0 = ap (take 10) same ∙ take_at t.0 (tail_text m) 10 date.0 in
    absurd (c.in_err-new.ensures (subst (λ (x : List ℕ). (length x ≡ 10) × IsDigits x) (sym (c.split_at.ensures.front ∙ front)) date))

pub returns-clause-only : goal.returns-clause-only
returns-clause-only c = λ m t is has same.
    let date = dated m t is has in
    let front : take 10 c.args.text.now ≡ t.0 = ap (take 10) same ∙ take_at t.0 (tail_text m) 10 date.0 in
    let back : drop 10 c.args.text.now ≡ tail_text m = ap (drop 10) same ∙ drop_at t.0 (tail_text m) 10 date.0 in
    c.tail_of.ensures.only m is (has ∙ ap Some (sym (c.in_ok-new.ensures.1 ∙ ap the_transmission (c.split_at.ensures.front ∙ front)))) (c.split_at.ensures.back ∙ back)
