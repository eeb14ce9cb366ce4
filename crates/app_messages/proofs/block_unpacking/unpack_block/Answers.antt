use Rattle.std.proofs.Common.{◌≡◌, ◌<◌, ℕ, Some, length, map, refl, ap, ◌∙◌, arith}
use Rattle.std.specs.Prelude.{option_map, slice_get}
use Rattle.std.proofs.lemmas.Option.{slice_get-map, slice_get_read}
use Rattle.std.specs.Global.{Vec}
use Rattle.app_messages.proofs.block_unpacking.unpack_block.Goals as goal

pub returns-clause-lines : goal.returns-clause-lines
returns-clause-lines g c =
    let texts = c.in_ok-texts.texts.items in
    let text = c.swap_remove.result in
    let within : c.args.number < length texts = omega arith in
    let one : slice_get texts c.args.number ≡ Some text = slice_get_read texts (length texts) c.args.number text refl within c.swap_remove.ensures.value in
    let shown : slice_get (map (λ (v : Vec ℕ). v.items) texts) c.args.number ≡ Some text.items =
    slice_get-map (λ (v : Vec ℕ). v.items) texts c.args.number ∙ ap (option_map (λ (v : Vec ℕ). v.items)) one in
    record {
      there = c.in_ok-texts.ensures.there;
      lines = λ bytes holds. (map (λ (v : Vec ℕ). v.items) texts, c.in_ok-texts.ensures.texts bytes holds, shown);
    }
