use Rattle.std.proofs.Common.{◌%◌, ◌^◌}
use Rattle.std.proofs.lemmas.Bool.{ne_eqb}
use Rattle.iso_encoder.proofs.Joining.{extended_written}
use Rattle.iso_encoder.proofs.encoding.put_bitmap.Goals as goal

pub returns-else-secondary-eq0-clause-items : goal.returns-else-secondary-eq0-clause-items
returns-else-secondary-eq0-clause-items c =
    extended_written c.args.out.now.items c.put-else-secondary-eq0.new.out.items c.put-else-secondary-eq0-2.new.out.items c.to_be_bytes-else-secondary-eq0.result c.to_be_bytes-else-secondary-eq0-2.result c.args.bitmap
    (ne_eqb (c.args.bitmap % 2 ^ 64) 0 c.if-secondary-eq0.false) c.to_be_bytes-else-secondary-eq0.ensures c.to_be_bytes-else-secondary-eq0-2.ensures c.put-else-secondary-eq0.ensures.items c.put-else-secondary-eq0-2.ensures.items
