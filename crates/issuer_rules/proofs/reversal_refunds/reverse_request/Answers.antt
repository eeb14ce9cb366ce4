use Rattle.std.proofs.Common.{◌≡◌, ◌+◌, [], ◌∷◌, refl, sym, ap, ◌∙◌}
use Rattle.issuer_words.specs.Words.{balance_of, given_back, key_of_funds, request_back, row_of_funds, with_balance}
use Rattle.issuer_rows.specs.declared.row_key.RowKey.TheVariants as key
use Rattle.issuer_rows.specs.declared.row_val.RowVal.TheVariants as val
use Rattle.issuer_rules.proofs.FollowingLaws.{follows_then, follows_else}
use Rattle.issuer_rules.proofs.PutLaws.{without_puts, three_puts, repaid_unput}
use Rattle.issuer_rules.proofs.RefundLaws.{overfull, not_overfull}
use Rattle.issuer_rules.proofs.StageLaws.{stops_putting, answers_with, answers_with_none}
use Rattle.issuer_rules.proofs.reversal_refunds.reverse_request.Goals as goal

pub put_funds-requires : goal.put_funds-requires
put_funds-requires g c = record {
  absent = repaid_unput c.args.rows.now _ _ _ _ _ c.args.paid.now _ _ c.requires.follows.unput c.in_ok-write.ensures.ok c.in_ok-write-2.ensures.ok;
}

pub returns-in_err-write : goal.returns-in_err-write
returns-in_err-write g c = stops_putting c.requires.follows (ap without_puts c.in_err-write.ensures.err) c.in_err-write.ensures.stop c.from_residual.ensures.1

pub returns-in_err-write-2 : goal.returns-in_err-write-2
returns-in_err-write-2 g c = stops_putting c.requires.follows (ap without_puts c.in_err-write-2.ensures.err ∙ ap without_puts c.in_ok-write.ensures.ok) c.in_err-write-2.ensures.stop c.from_residual-in_err-write-2.ensures.1

pub returns-in_err-put_funds : goal.returns-in_err-put_funds
returns-in_err-put_funds g c = stops_putting c.requires.follows (ap without_puts c.in_err-put_funds.ensures.err ∙ ap without_puts c.in_ok-write-2.ensures.ok ∙ ap without_puts c.in_ok-write.ensures.ok) c.in_err-put_funds.ensures.stop c.from_residual-in_err-put_funds.ensures.1

pub returns-in_default : goal.returns-in_default
returns-in_default g c =
    answers_with_none
    (follows_then _ _ _ _ _ _ c.requires.follows
    (overfull c.args.reversal.now c.args.kept.now c.args.paid.now _ _ c.balance.ensures c.given_back.ensures (λ fits. c.in_default.ensures fits)))
    c.unchanged.ensures

pub returns-then-day_is_short : goal.returns-then-day_is_short
returns-then-day_is_short g c =
    answers_with_none
    (follows_then _ _ _ _ _ _
    (follows_else _ _ _ _ _ _ c.requires.follows (not_overfull c.args.reversal.now c.args.kept.now c.args.paid.now _ _ c.balance.ensures c.given_back.ensures c.in-Some.ensures.0))
    (sym c.day_is_short.ensures ∙ c.if-day_is_short.true))
    c.unchanged-then-day_is_short.ensures

pub returns : goal.returns
returns g c =
    let v = c.args.reversal.now in
    let k = c.args.kept.now in
    let paid = c.args.paid.now in
    let balance : c.in-Some.balance ≡ balance_of paid + given_back v k = c.in-Some.ensures.1 ∙ (λ i. c.balance.ensures i + c.given_back.ensures i) in
    let row = ap (λ n. row_of_funds (with_balance paid n)) balance in
    let puts = three_puts c.args.rows.now _ _ _ _ _ _ _ _ paid _ _ c.requires.follows.unput c.in_ok-write.ensures.ok c.in_ok-write-2.ensures.ok c.in_ok-put_funds.ensures.ok refl in
    let table : c.put_funds.new.rows.writes ≡ request_back v k paid c.args.day.now =
    puts.1 ∙ (λ i. (key.Original v.original.identity, val.Kept (c.reversed.ensures i))
    ∷ (key.Velocity (c.card.ensures.card i) (c.day.ensures i), val.Velocity (c.spent_less.ensures i)) ∷ (key_of_funds paid, row i) ∷ []) in
    answers_with
    (follows_else _ _ _ _ _ _
    (follows_else _ _ _ _ _ _ c.requires.follows (not_overfull v k paid _ _ c.balance.ensures c.given_back.ensures c.in-Some.ensures.0))
    (sym c.day_is_short.ensures ∙ c.if-day_is_short.false))
    puts.0 table c.unchanged-2.ensures
