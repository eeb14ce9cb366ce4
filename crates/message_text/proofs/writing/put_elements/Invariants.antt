use Rattle.std.proofs.Common.{length}
use Rattle.iso_laws.specs.Spelling.{fields, fields_among}
use Rattle.book_laws.specs.Text.{Adds, JsonText}
use Rattle.message_text.specs.Lines.{elements_tokens}
use Rattle.message_text.proofs.writing.put_elements.Given as goal

-- once those that are left are written, all are
abbrev pub invariant-loop-element : goal.invariant-loop-element
invariant-loop-element g l =
    let texts = g.M.HasElements.texts l.message in
    (whole : JsonText) → Adds l.out whole (elements_tokens l.cards (fields_among l.rest texts)) → Adds l.fn.out whole (elements_tokens l.cards (fields texts))

abbrev pub decreases-loop-element : goal.decreases-loop-element
decreases-loop-element g l = length l.rest
