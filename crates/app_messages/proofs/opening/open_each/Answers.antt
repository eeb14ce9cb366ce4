use Rattle.std.proofs.Common.{rules, ◌≡◌, ◌+◌, ◌++◌, ◌∷◌, [], ◌∙◌, length, map, string_bytes, ap, inr, arith}
use Rattle.std.proofs.lemmas.List.{length-append, map-append}
use Rattle.file_batch.specs.Bodies.{bytes_of}
use Rattle.app_messages.specs.Handed.{bodies_of_blocks}
use Rattle.app_messages.specs.Packed.{HasBodies}
use Rattle.app_messages.proofs.TextSteps.{all_blocks, one_more_block, one_more_block_fits}
use Rattle.app_messages.proofs.opening.open_each.Goals as goal

pub loop-name-preserved : goal.loop-name-preserved
loop-name-preserved g c =
    let holds = g.F.Files.holds c.args.files.now in
    let all = map string_bytes c.args.names.now in
    let name = string_bytes c.in-Some.name.now in
    let more = map string_bytes c.in-Some.more.now in
    let are = c.in-Some.ensures.cases.0 in
    let blocks = bodies_of_blocks c.loop-name.blocks.items in
    let block = c.in_ok-open_text.field-0 in
    let own = bytes_of block.items in
    let has : HasBodies holds name own = rw c.as_str.ensures.value at c.in_ok-open_text.ensures.bodies in
    let pushed : bodies_of_blocks c.push.new.self.items ≡ blocks ++ own ∷ [] =
    ap bodies_of_blocks c.in_ok-push.ensures.items ∙ map-append (λ one. bytes_of one.items) c.loop-name.blocks.items (block ∷ []) in
    let longer : length c.push.new.self.items ≡ length c.loop-name.blocks.items + 1 =
    ap length c.in_ok-push.ensures.items ∙ length-append c.loop-name.blocks.items (block ∷ []) in
    record {
      few = omega (arith, longer, c.in-Some.ensures.cases.1, c.loop-name.invariant.few);
      fit = rw pushed (one_more_block_fits blocks own c.loop-name.invariant.fit c.in_ok-open_text.ensures.fit);
      there = λ known behind. (rw are at c.loop-name.invariant.there) known (rw c.as_str.ensures.value at (c.in_ok-open_text.ensures.there known), behind);
      read = λ others h. rw pushed (one_more_block holds all name more blocks own (rw are at c.loop-name.invariant.read) has others h);
      fails = λ fault h. (rw are at c.loop-name.invariant.fails) fault (inr (own, has, h));
    }

pub returns-clause-blocks : goal.returns-clause-blocks
returns-clause-blocks g c =
    let none : length c.loop-name.rest.now ≡ 0 = search rules in
    all_blocks (g.F.Files.holds c.args.files.now) (map string_bytes c.args.names.now) c.loop-name.rest.now (bodies_of_blocks c.loop-name.blocks.items) none c.loop-name.invariant.read
