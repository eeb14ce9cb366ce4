use Rattle.std.proofs.Common.{ℕ, ap, subst, ◌∙◌}
use Rattle.std.proofs.lemmas.Result.{on_ok_weaker}
use Rattle.iso8583.specs.CodecFault.{element_of_fault}
use Rattle.book_laws.specs.Text.{Adds}
use Rattle.book_laws.proofs.WrittenTokens.{then}
use Rattle.message_text.specs.Lines.{all_tokens, fault_element}
use Rattle.message_text.proofs.writing.put_fault.Goals as goal

pub returns : goal.returns
returns c =
    let text = c.as_str.ensures.value ∙ c.in_ok-text.ensures in
    let element = c.element.ensures ∙ ap element_of_fault c.fault.ensures.value in
    on_ok_weaker _
    (λ told. then (rw text at c.in_ok-text_field.ensures)
    (subst (λ (n : ℕ). Adds c.text_field.new.self c.put_fault_element.new.out (all_tokens (fault_element n))) element told)) c.put_fault_element.ensures
