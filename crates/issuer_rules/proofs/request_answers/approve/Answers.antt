use Rattle.std.proofs.Common.{◌≡◌, ◌-◌, [], ◌∷◌, None, refl, ap, ◌∙◌}
use Rattle.issuer_words.specs.Words.{Writes, approval_code, approved_writes, balance_of, day_of, fixed_digits, identity_of, kept_of_request, key_of_funds, paid_by, reply_to_request, row_of_funds, with_balance}
use Rattle.issuer_rows.specs.declared.original_outcome.OriginalOutcome.TheVariants as outcome
use Rattle.iso8583.specs.declared.verdict.Verdict.TheVariants as verdict
use Rattle.issuer_rows.specs.declared.row_key.RowKey.TheVariants as key
use Rattle.issuer_rows.specs.declared.row_val.RowVal.TheVariants as val
use Rattle.issuer_view.specs.RowSets.{value_in, put}
use Rattle.issuer_rules.proofs.PutLaws.{without_puts, four_puts, card_unput, day_unput, paying_unput}
use Rattle.issuer_rules.proofs.StageLaws.{stops_putting, answers_with}
use Rattle.issuer_rules.proofs.request_answers.approve.Goals as goal

pub write_new-requires-clause-absent : goal.write_new-requires-clause-absent
write_new-requires-clause-absent g c = ap (λ (ws : Writes). value_in ws c.args.key.now) c.requires.follows.unput

pub charge_card-requires : goal.charge_card-requires
charge_card-requires g c = record {
  absent = card_unput c.args.rows.now _ c.args.rows.now _ _ _ c.kept_of-kept.result _ c.requires.follows.unput c.requires.named c.in_ok-write_new.ensures.ok;
}

pub charge_day-requires : goal.charge_day-requires
charge_day-requires g c = record {
  absent = day_unput c.args.rows.now _ _ _ _ _ _ _ _ _ c.requires.follows.unput c.requires.named c.in_ok-write_new.ensures.ok c.in_ok-charge_card.ensures.ok;
}

pub put_funds-requires : goal.put_funds-requires
put_funds-requires g c = record {
  absent =
      paying_unput c.args.rows.now _ _ _ _ _ _ _ _ _ _ _ c.args.paying.now c.requires.follows.unput c.requires.named c.in_ok-write_new.ensures.ok c.in_ok-charge_card.ensures.ok
      c.in_ok-charge_day.ensures.ok;
}

pub returns-in_err-write_new : goal.returns-in_err-write_new
returns-in_err-write_new g c = stops_putting c.requires.follows (ap without_puts c.in_err-write_new.ensures.err) c.in_err-write_new.ensures.stop c.from_residual.ensures.1

pub returns-in_err-charge_card : goal.returns-in_err-charge_card
returns-in_err-charge_card g c = stops_putting c.requires.follows (ap without_puts c.in_err-charge_card.ensures.err ∙ ap without_puts c.in_ok-write_new.ensures.ok) c.in_err-charge_card.ensures.stop c.from_residual-in_err-charge_card.ensures.1

pub returns-in_err-charge_day : goal.returns-in_err-charge_day
returns-in_err-charge_day g c = stops_putting c.requires.follows (ap without_puts c.in_err-charge_day.ensures.err ∙ ap without_puts c.in_ok-charge_card.ensures.ok ∙ ap without_puts c.in_ok-write_new.ensures.ok) c.in_err-charge_day.ensures.stop c.from_residual-in_err-charge_day.ensures.1

pub returns-in_err-put_funds : goal.returns-in_err-put_funds
returns-in_err-put_funds g c = stops_putting c.requires.follows (ap without_puts c.in_err-put_funds.ensures.err ∙ ap without_puts c.in_ok-charge_day.ensures.ok ∙ ap without_puts c.in_ok-charge_card.ensures.ok ∙ ap without_puts c.in_ok-write_new.ensures.ok) c.in_err-put_funds.ensures.stop c.from_residual-in_err-put_funds.ensures.1

pub returns : goal.returns
returns g c =
    let r = c.args.request.now in
    let paying = c.args.paying.now in
    let approvals = c.next_of-approvals.ensures in
    let code : c.of_count-code.result ≡ approval_code c.args.card.now = c.of_count-code.ensures ∙ ap (λ n. record { 0 = fixed_digits 6 n }) (c.number.ensures.value ∙ approvals) in
    let outcome : outcome.Approved c.of_count-code.result (record { payer = c.payer.result; settlement = None }) ≡ outcome.Approved (approval_code c.args.card.now) (paid_by paying) =
    λ i. outcome.Approved (code i) (record { payer = c.payer.ensures i; settlement = None }) in
    let kept = c.kept_of-kept.ensures ∙ ap (kept_of_request r) outcome in
    let balance : c.saturating_sub-balance.result ≡ balance_of paying - r.transaction.amount = c.saturating_sub-balance.ensures ∙ ap (λ n. n - r.transaction.amount) c.balance.ensures in
    let paid = ap (λ n. row_of_funds (with_balance paying n)) balance in
    let named = c.in_ok-write_new.ensures.ok ∙ ap (λ k. record c.args.rows.now { writes = put c.args.rows.now.writes k c.kept_of-kept.result }) c.requires.named in
    let puts = four_puts c.args.rows.now _ _ _ _ _ _ _ _ _ _ _ paying _ _ c.requires.follows.unput
    named c.in_ok-charge_card.ensures.ok c.in_ok-charge_day.ensures.ok c.in_ok-put_funds.ensures.ok refl in
    let table : c.put_funds.new.rows.writes ≡ approved_writes r c.args.card.now c.args.day.now paying =
    puts.1 ∙ (λ i. (key.Original (identity_of r.transaction), kept i) ∷ (key.Card r.transaction.pan, val.Card (record c.args.card.now { approvals = approvals i }))
    ∷ (key.Velocity r.transaction.pan (day_of r.transaction.stamp), val.Velocity (record { count = c.next_of-count.ensures i; sum = c.sum_of-sum.ensures i }))
    ∷ (key_of_funds paying, paid i) ∷ []) in
    answers_with c.requires.follows puts.0 table (ap (λ code. reply_to_request r (verdict.Approved code)) code)
