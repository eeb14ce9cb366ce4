use Rattle.std.proofs.Common.{◌≡◌, length}
use Rattle.iso_laws.specs.Elements.{elements}
use Rattle.message_text.specs.Names.{named_among}
use Rattle.message_text.proofs.names.element_named.Given as goal

-- it is the one among those that are left
abbrev pub invariant-loop-element : goal.invariant-loop-element
invariant-loop-element l = named_among elements l.word ≡ named_among l.rest l.word

abbrev pub decreases-loop-element : goal.decreases-loop-element
decreases-loop-element l = length l.rest
