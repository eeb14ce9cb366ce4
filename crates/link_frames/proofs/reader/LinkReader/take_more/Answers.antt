use Rattle.std.proofs.Common.{◌≡◌, ◌-◌, ◌<◌, List, ℕ, length, take, refl, ap, ◌∙◌, arith}
use Rattle.std.specs.Prelude.{slice_range}
use Rattle.std.specs.Vec.{with_items}
use Rattle.std.proofs.lemmas.List.{with_items_is}
use Rattle.std.proofs.lemmas.List.Edits.{length-between}
use Rattle.link_frames.specs.Reader.{kept}
use Rattle.link_frames.proofs.Fronts.{part_is_short}
use Rattle.link_frames.proofs.Parts.{came}
use Rattle.link_frames.proofs.reader.LinkReader.take_more.Goals as goal

pub take_behind-requires : goal.take_behind-requires
take_behind-requires g c =
    let self = c.args.self.now in
    let short : length (kept self) < 514 = part_is_short (kept self) c.requires.part in
    let moved : length c.move_to_front.new.buffer ≡ self.buffer.len = omega (arith, c.move_to_front.auto.buffer, c.as_mut_slice.ensures.len, self.buffer.ok.0) in
    let same : c.as_mut_slice-2.result.now ≡ c.move_to_front.new.buffer = c.as_mut_slice-2.ensures.value ∙ with_items_is self.buffer c.move_to_front.new.buffer moved in
    record { room = omega (arith, short, length-between self.buffer.items self.given self.end self.within, self.room, ap length same, moved, self.buffer.ok.0) }

pub returns-clause-bytes : goal.returns-clause-bytes
returns-clause-bytes g c = λ known.
    let self = c.args.self.now in
    let left = g.R.Source.remaining c.args.source.now in
    let rest = g.R.Source.remaining c.take_behind.new.source in
    let ys = c.move_to_front.new.buffer in
    let zs = c.take_behind.new.buffer in
    let k = self.end - self.given in
    let moved : length ys ≡ self.buffer.len = omega (arith, c.move_to_front.auto.buffer, c.as_mut_slice.ensures.len, self.buffer.ok.0) in
    let middle = with_items self.buffer ys in
    let same : c.as_mut_slice-2.result.now ≡ ys = c.as_mut_slice-2.ensures.value ∙ with_items_is self.buffer ys moved in
    let long : length zs ≡ self.buffer.len = omega (arith, c.take_behind.ensures.size, ap length same, moved) in
    let to_front : take k ys ≡ slice_range self.buffer.items self.given self.end = c.move_to_front.ensures ∙ ap (λ (x : List ℕ). slice_range x self.given self.end) c.as_mut_slice.ensures.value in
    let stay : take k zs ≡ take k ys = c.take_behind.ensures.stay ∙ ap (take k) same in
    rw (with_items_is middle zs long) (came self.buffer.items ys zs left rest self.given self.end k c.in-Ok.more refl to_front stay (c.in-Ok.ensures.bytes known))
