use Rattle.std.proofs.Common.{◌≡◌, ◌+◌, [], ◌∷◌, refl, ap, ◌∙◌}
use Rattle.issuer_words.specs.Words.{advice_back, balance_of, given_back, key_of_funds, row_of_funds, with_balance}
use Rattle.issuer_rows.specs.declared.row_key.RowKey.TheVariants as key
use Rattle.issuer_rows.specs.declared.row_val.RowVal.TheVariants as val
use Rattle.issuer_rules.proofs.FollowingLaws.{follows_then, follows_else}
use Rattle.issuer_rules.proofs.PutLaws.{without_puts, two_puts, payer_unput}
use Rattle.issuer_rules.proofs.RefundLaws.{overfull, not_overfull}
use Rattle.issuer_rules.proofs.StageLaws.{stops_putting, answers_with, answers_with_none}
use Rattle.issuer_rules.proofs.reversal_refunds.reverse_advice.Goals as goal

pub put_funds-requires : goal.put_funds-requires
put_funds-requires g c = record {
  absent = payer_unput c.args.rows.now _ c.args.rows.now _ _ (val.Kept c.reversed.result) c.args.paid.now c.requires.follows.unput c.in_ok-write.ensures.ok;
}

pub returns-in_err-write : goal.returns-in_err-write
returns-in_err-write g c = stops_putting c.requires.follows (ap without_puts c.in_err-write.ensures.err) c.in_err-write.ensures.stop c.from_residual.ensures.1

pub returns-in_err-put_funds : goal.returns-in_err-put_funds
returns-in_err-put_funds g c = stops_putting c.requires.follows (ap without_puts c.in_err-put_funds.ensures.err ∙ ap without_puts c.in_ok-write.ensures.ok) c.in_err-put_funds.ensures.stop c.from_residual-in_err-put_funds.ensures.1

pub returns-in_default : goal.returns-in_default
returns-in_default g c =
    answers_with_none
    (follows_then _ _ _ _ _ _ c.requires.follows
    (overfull c.args.reversal.now c.args.kept.now c.args.paid.now _ _ c.balance.ensures c.given_back.ensures (λ fits. c.in_default.ensures fits)))
    c.unchanged.ensures

pub returns : goal.returns
returns g c =
    let v = c.args.reversal.now in
    let k = c.args.kept.now in
    let paid = c.args.paid.now in
    let balance : c.in-Some.balance ≡ balance_of paid + given_back v k = c.in-Some.ensures.1 ∙ (λ i. c.balance.ensures i + c.given_back.ensures i) in
    let row = ap (λ n. row_of_funds (with_balance paid n)) balance in
    let puts = two_puts c.args.rows.now _ _ _ _ paid _ _ c.requires.follows.unput c.in_ok-write.ensures.ok c.in_ok-put_funds.ensures.ok refl in
    let table : c.put_funds.new.rows.writes ≡ advice_back v k paid =
    puts.1 ∙ (λ i. (key.Original v.original.identity, val.Kept (c.reversed.ensures i)) ∷ (key_of_funds paid, row i) ∷ []) in
    answers_with
    (follows_else _ _ _ _ _ _ c.requires.follows (not_overfull v k paid _ _ c.balance.ensures c.given_back.ensures c.in-Some.ensures.0))
    puts.0 table c.unchanged-2.ensures
