use Rattle.std.proofs.Common.{length, inl, inr, ap, arith}
use Rattle.link_frames.proofs.Fronts.{no_length, wrong_length, no_body}
use Rattle.link_frames.proofs.front.front_of.Goals as goal
use Rattle.link_frames.proofs.front.front_of.Goals.{then-length-eq0-via-then-length-eq0, then-length-eq0-via-else-length-eq0+then-length-gt512}

pub returns-then-bytes-lt2 : goal.returns-then-bytes-lt2
returns-then-bytes-lt2 c = no_length c.args.bytes.now (omega arith)

pub returns-then-length-eq0 : goal.returns-then-length-eq0
returns-then-length-eq0 c =
    wrong_length c.args.bytes.now (omega arith) (elim c.then-length-eq0.branch [
      | then-length-eq0-via-then-length-eq0 w ↦ inl (omega (arith, c.read_u16-length.ensures))
      | then-length-eq0-via-else-length-eq0+then-length-gt512 w ↦ inr (omega (arith, c.read_u16-length.ensures))
    ])

pub returns-then-behind-length : goal.returns-then-behind-length
returns-then-behind-length c =
    let n = c.read_u16-length.ensures in
    no_body c.args.bytes.now (omega arith) (omega (arith, n)) (omega (arith, n)) (omega (arith, n, ap length c.split_at.ensures.back))
