use Rattle.std.proofs.Common.{◌≡◌, ◌++◌, length}
use Rattle.std.specs.List.{flat_map}
use Rattle.iso_laws.specs.Spelling.{field, fields, fields_among}
use Rattle.message_text.specs.Givens.{texts_of}
use Rattle.message_text.proofs.spelling.put_fields.Given as goal

-- with those that are left it is all of them
abbrev pub invariant-loop-element : goal.invariant-loop-element
invariant-loop-element l =
    l.out.items ++ flat_map field (fields_among l.rest (texts_of l.givens)) ≡ l.fn.out.items ++ flat_map field (fields (texts_of l.givens))

abbrev pub decreases-loop-element : goal.decreases-loop-element
decreases-loop-element l = length l.rest
