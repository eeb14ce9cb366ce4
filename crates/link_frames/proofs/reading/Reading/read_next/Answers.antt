use Rattle.std.proofs.Common.{◌≡◌, ◌++◌, List, ℕ, take, length, sym, ap, ◌∙◌, append_assoc, arith}
use Rattle.std.proofs.lemmas.List.{with_items_is}
use Rattle.rtrb.specs.Ring.{sent}
use Rattle.link_frames.proofs.reading.Reading.read_next.Goals as goal

pub hand_over-requires : goal.hand_over-requires
hand_over-requires g c = λ known.
    let rest = g.S.Source.remaining c.take.new.self in
    let gone = sent c.args.self.now.outbound in
    let count = c.in-Ok.count in
    let buffer = c.args.self.now.buffer in
    let came = c.take.new.buffer in
    let long : length came ≡ buffer.len = omega (arith, c.take.auto.buffer, c.as_mut_slice.ensures.len, buffer.ok.0) in
    let same : c.deref.result.now ≡ came = c.deref.ensures.value ∙ with_items_is buffer came long in (
      rest,
      c.requires.behind.bytes known ∙ ap (λ (x : List ℕ). gone ++ x) (c.in-Ok.ensures.bytes (c.requires.behind.known known))
          ∙ sym (append_assoc gone (take count came) rest) ∙ ap (λ (x : List ℕ). (gone ++ take count x) ++ rest) (sym same),
    )
