use Rattle.std.proofs.Common.{◌≡◌, ◌-◌, [], ◌∷◌, None, refl, ap, ◌∙◌}
use Rattle.issuer_words.specs.Words.{accepted_writes, balance_of, kept_of_advice, key_of_funds, paid_by, row_of_funds, with_balance}
use Rattle.issuer_rows.specs.declared.original_outcome.OriginalOutcome.TheVariants as outcome
use Rattle.issuer_rows.specs.declared.row_key.RowKey.TheVariants as key
use Rattle.issuer_rules.proofs.PutLaws.{without_puts, two_puts, payer_unput}
use Rattle.issuer_rules.proofs.StageLaws.{stops_putting, answers_with}
use Rattle.issuer_rules.proofs.advice_answers.accept.Goals as goal

pub put_funds-requires : goal.put_funds-requires
put_funds-requires g c = record {
  absent = payer_unput c.args.rows.now _ c.args.rows.now _ _ c.kept_of-kept.result c.args.paying.now c.requires.follows.unput c.in_ok-write.ensures.ok;
}

pub returns-in_err-write : goal.returns-in_err-write
returns-in_err-write g c = stops_putting c.requires.follows (ap without_puts c.in_err-write.ensures.err) c.in_err-write.ensures.stop c.from_residual.ensures.1

pub returns-in_err-put_funds : goal.returns-in_err-put_funds
returns-in_err-put_funds g c = stops_putting c.requires.follows (ap without_puts c.in_err-put_funds.ensures.err ∙ ap without_puts c.in_ok-write.ensures.ok) c.in_err-put_funds.ensures.stop c.from_residual-in_err-put_funds.ensures.1

pub returns : goal.returns
returns g c =
    let a = c.args.advice.now in
    let paying = c.args.paying.now in
    let outcome : outcome.Accepted (record { payer = c.payer.result; settlement = None }) ≡ outcome.Accepted (paid_by paying) =
    λ i. outcome.Accepted (record { payer = c.payer.ensures i; settlement = None }) in
    let kept = c.kept_of-kept.ensures ∙ ap (kept_of_advice a) outcome in
    let balance : c.saturating_sub-balance.result ≡ balance_of paying - a.transaction.amount = c.saturating_sub-balance.ensures ∙ ap (λ n. n - a.transaction.amount) c.balance.ensures in
    let paid = ap (λ n. row_of_funds (with_balance paying n)) balance in
    let puts = two_puts c.args.rows.now _ _ _ _ paying _ _ c.requires.follows.unput c.in_ok-write.ensures.ok c.in_ok-put_funds.ensures.ok refl in
    let table : c.put_funds.new.rows.writes ≡ accepted_writes a paying =
    puts.1 ∙ (λ i. (key.Original (c.identity.ensures i), kept i) ∷ (key_of_funds paying, paid i) ∷ []) in
    answers_with c.requires.follows puts.0 table c.reply_to.ensures
