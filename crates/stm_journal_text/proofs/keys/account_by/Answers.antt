use Rattle.std.proofs.Common.{◌≡◌, sym, ap, subst, ◌∙◌, rules}
use Rattle.std.specs.Result.{result_ok}
use Rattle.std.proofs.lemmas.Option.{none-some}
use Rattle.hex.specs.Hex.{encode_lower}
use Rattle.iso8583.specs.Padded.{HasPrintable}
use Rattle.stm_journal_text.proofs.KeyTexts.{decoded, not_unequal}
use Rattle.stm_journal_text.proofs.Anyway.{if_none}
use Rattle.stm_journal_text.proofs.keys.account_by.Goals as goal

pub returns-in_err-ok-clause-none : goal.returns-in_err-ok-clause-none
returns-in_err-ok-clause-none c =
    if_none c.from_residual.result _ (λ id h same.
    let is = decoded c.args.text.now id.0 c.decode_to_slice.new.out c.decode_to_slice.result _ c.decode_to_slice.ensures.value c.requires h.2 same in
    none-some tt (sym c.in_err-ok.was ∙ c.ok.ensures.value ∙ ap result_ok is.0))

pub returns-in_err-id-clause-none : goal.returns-in_err-id-clause-none
returns-in_err-id-clause-none c =
    if_none c.from_residual-in_err-id.result _ (λ id h same.
    let is = decoded c.args.text.now id.0 c.decode_to_slice.new.out c.decode_to_slice.result _ c.decode_to_slice.ensures.value c.requires h.2 same in
    c.in_err-id.ensures (subst (HasPrintable 1 28) (sym is.1) h))

pub returns-else-eq-clause-none : goal.returns-else-eq-clause-none
returns-else-eq-clause-none c = λ id h same.
    let is = decoded c.args.text.now id.0 c.decode_to_slice.new.out c.decode_to_slice.result _ c.decode_to_slice.ensures.value c.requires h.2 same in
    let made : c.in_ok-id.id.0 ≡ c.decode_to_slice.new.out = search rules in
    not_unequal _ _ c.eq.result c.eq.ensures c.if-eq.false
    (c.name_digits-size.ensures.digits ∙ ap encode_lower (made ∙ is.1) ∙ sym same)
