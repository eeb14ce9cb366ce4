use Rattle.std.proofs.Common.{◌≡◌, ◌≤◌, ◌+◌, length, ap, ◌∙◌, arith}
use Rattle.std.proofs.lemmas.List.{length-map}
use Rattle.file_batch.specs.Bodies.{bytes_of}
use Rattle.file_listing.specs.BlockText.{all_bodies}
use Rattle.app_messages.specs.Handed.{bodies_of_blocks}
use Rattle.app_messages.proofs.BlockSteps.{bodies_at_most, bodies_of_more}
use Rattle.app_messages.proofs.block_packing.count_bodies.Goals as goal

pub overflow_add-count : goal.overflow_add-count
overflow_add-count c =
    let block = bytes_of c.in-Some.block.now.items in
    let more = bodies_of_blocks c.in-Some.more.now in
    let rest : length (all_bodies (bodies_of_blocks c.loop-block.rest.now)) ≡ length block + length (all_bodies more) =
    ap (λ blocks. length (all_bodies (bodies_of_blocks blocks))) c.in-Some.ensures.cases.0 ∙ bodies_of_more block more in
    let all = c.loop-block.invariant in
    let most = bodies_at_most (bodies_of_blocks c.args.blocks.now) c.requires.fit.1 in
    let blocks : length (bodies_of_blocks c.args.blocks.now) ≤ 1000 = c.requires.fit.0 in
    let own : length block ≡ length c.in-Some.block.now.items = length-map _ _ in
    let len = c.len-count.ensures ∙ c.in-Some.block.now.ok.0 in
    omega arith
