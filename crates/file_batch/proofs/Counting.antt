-- Counts of bodies that stand one behind another.
use Rattle.std.proofs.Common.{◌≡◌, List, ◌++◌, refl, cond, [], ◌∷◌, ap, ◌∙◌}
use Rattle.std.proofs.lemmas.List.{length-append}
use Rattle.std.proofs.lemmas.List.Sums.{sum_by-append}
use Rattle.issuer_rows.specs.declared.frame.Frame.{Frame}
use Rattle.file_batch.specs.Counting.{count_of, is_unreadable, plus}
use Rattle.file_laws.proofs.FoldedBlocks.{one_more_list}
use Rattle.file_laws.specs.Blocks.{all_messages}

pub count_of-append : (some more : List Frame) → count_of (some ++ more) ≡ plus (count_of some) (count_of more)
count_of-append some more = rw (length-append some more, sum_by-append (λ frame. cond (is_unreadable frame) 1 0) some more) refl

pub one_more_count : (blocks : List (List Frame)) (block : List Frame) → count_of (all_messages (blocks ++ block ∷ [])) ≡ plus (count_of (all_messages blocks)) (count_of block)
one_more_count blocks block = ap count_of (one_more_list blocks block) ∙ count_of-append (all_messages blocks) block
