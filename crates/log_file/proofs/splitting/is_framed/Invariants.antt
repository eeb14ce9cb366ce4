use Rattle.log_file.proofs.Framing.{Split}
use Rattle.log_file.proofs.splitting.is_framed.Given as goal

abbrev pub invariant-loop : goal.invariant-loop
invariant-loop l = Split l.counter l.text l.rest
