use Rattle.std.proofs.Common.{◌≡◌, length}
use Rattle.message_text.specs.Givens.{texts_of}
use Rattle.message_text.proofs.given.text_in.Given as goal

-- it is the one among those that are left
abbrev pub invariant-loop-given : goal.invariant-loop-given
invariant-loop-given l = texts_of l.givens l.element ≡ texts_of l.rest l.element

abbrev pub decreases-loop-given : goal.decreases-loop-given
decreases-loop-given l = length l.rest
