use Rattle.std.proofs.Common.{length}
use Rattle.std.specs.Prelude.{map, string_bytes}
use Rattle.message_text.proofs.GivenWords.{SoFar}
use Rattle.message_text.proofs.words.givens_of.Given as goal

-- the words before those that are left give elements
abbrev pub invariant-loop-word : goal.invariant-loop-word
invariant-loop-word l = SoFar (map string_bytes l.words) l.place (map string_bytes l.rest) l.givens.items

abbrev pub decreases-loop-word : goal.decreases-loop-word
decreases-loop-word l = length l.rest
