use Rattle.std.proofs.Common.{◌≡◌, ◌+◌, ◌-◌, ◌≤◌, length, take, drop, ap, sym, ◌∙◌, arith}
use Rattle.std.proofs.lemmas.List.{length-take, length-drop}
use Rattle.byteorder.specs.Endian.{big_number}
use Rattle.file_batch.specs.Window.{part}
use Rattle.file_batch.proofs.Parts.{has_body}
use Rattle.file_batch.proofs.window.Window.body_there.Goals as goal

pub returns : goal.returns
returns c =
    let self = c.args.self.now in
    let xs = self.piece.items in
    let there = part xs self.start self.end in
    let cut = rw c.deref.ensures.value at c.in_ok-length.ensures.cases in
    let size = c.read_u16-size.result in
    let long : length there ≡ self.end - self.start = omega (arith, length-take (self.end - self.start) (drop self.start xs), length-drop self.start xs, self.in_order, self.within) in
    let within : self.start + 2 + size ≤ self.end = omega (arith, cut.2, c.if-rest-size.false, long, self.in_order) in
    let number : big_number 2 (take 2 there) ≡ size = ap (big_number 2) (sym cut.0) ∙ sym c.read_u16-size.ensures in
    record {
      within = within;
      next = λ left. has_body xs self.start self.end size left within self.within number c.if-size-eq0.false (omega (arith, c.if-size-gt512.false));
    }
