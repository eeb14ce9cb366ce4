use Rattle.std.proofs.Common.{◌%◌, ◌^◌}
use Rattle.std.proofs.lemmas.Bool.{ne_eqb}
use Rattle.message_text.proofs.Spelled.{extended_written, on_ok}
use Rattle.message_text.proofs.bitmap.put_bitmap.Goals as goal

pub returns : goal.returns
returns c =
    on_ok c.extend_from_slice-3.result c.extend_from_slice-3.new.self.items _ _ _ c.extend_from_slice-3.ensures.items (λ second.
    extended_written c.args.out.now.items c.extend_from_slice-2.new.self.items c.extend_from_slice-3.new.self.items c.to_be_bytes-2.result c.to_be_bytes-3.result c.args.bitmap
    (ne_eqb (c.args.bitmap % 2 ^ 64) 0 c.if-secondary-eq0.false) c.to_be_bytes-2.ensures c.to_be_bytes-3.ensures c.in_ok-extend_from_slice.ensures.items second)
