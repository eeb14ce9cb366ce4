use Rattle.std.proofs.Common.{◌≡◌, ◌+◌, length}
use Rattle.iso_laws.specs.Spelling.{bitmap_of, fields, fields_among}
use Rattle.message_text.specs.Givens.{texts_of}
use Rattle.message_text.proofs.bitmap.bitmap_of.Given as goal

-- with the bits of those that are left it is that of all
abbrev pub invariant-loop-element : goal.invariant-loop-element
invariant-loop-element l = l.bitmap + bitmap_of (fields_among l.rest (texts_of l.givens)) ≡ bitmap_of (fields (texts_of l.givens))

abbrev pub decreases-loop-element : goal.decreases-loop-element
decreases-loop-element l = length l.rest
