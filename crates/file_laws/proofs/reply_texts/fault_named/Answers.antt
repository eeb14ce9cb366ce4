use Rattle.std.proofs.Common.{◌≡◌, ◌∙◌, sym, arith}
use Rattle.iso8583.specs.CodecFault.{element_of_fault}
use Rattle.file_laws.proofs.FaultTexts.{text_length, text_digits, text_number, text_element, clash}
use Rattle.file_laws.proofs.reply_texts.fault_named.Goals as goal
use Rattle.file_laws.proofs.reply_texts.fault_named.Goals.{then-body-ne6-via-then-body-ne6, then-body-ne6-via-else-body-ne6+then-not-is_digits}

pub returns-then-body-ne6 : goal.returns-then-body-ne6
returns-then-body-ne6 c = λ fault is.
    let long = text_length c.args.body.now fault is.2 in
    let digits = text_digits c.args.body.now fault is.2 in
    absurd (elim c.then-body-ne6.branch [
      | then-body-ne6-via-then-body-ne6 w ↦ w.if-body-ne6.true long
      | then-body-ne6-via-else-body-ne6+then-not-is_digits w ↦ clash w.is_digits.result (w.is_digits.ensures ∙ digits) w.if-not-is_digits.true
    ])

pub returns-in_default : goal.returns-in_default
returns-in_default c = λ fault is.
    let element = text_element c.args.body.now fault is.1 is.2 in
    let value : c.number_of.result ≡ element_of_fault fault = c.number_of.ensures.value ∙ element in
    absurd (omega (arith, c.in_default.ensures, value, is.1))

pub returns : goal.returns
returns c = λ fault is.
    let element = text_element c.args.body.now fault is.1 is.2 in
    let number = text_number c.args.body.now fault is.2 in
    c.fault_numbered.ensures fault is.0 (sym (c.number_of-2.ensures.value ∙ number)) (sym (c.in-Ok.ensures.1 ∙ c.number_of.ensures.value ∙ element))
