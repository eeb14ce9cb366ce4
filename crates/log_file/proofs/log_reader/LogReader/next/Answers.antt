use Rattle.std.proofs.Common.{◌≡◌, ◌+◌, subst, arith}
use Rattle.std.proofs.lemmas.Result.{err_from_is_err_and}
use Rattle.log_file.specs.Ahead.{ahead}
use Rattle.log_file.specs.Parts.{IsPart}
use Rattle.log_file.specs.declared.part.Part.TheVariants.{Entry}
use Rattle.log_file.proofs.Stepping.{entered}
use Rattle.log_file.proofs.log_reader.LogReader.next.Goals as goal

pub returns-in_err-entry-clause-fault : goal.returns-in_err-entry-clause-fault
returns-in_err-entry-clause-fault g c = λ known book bytes entries has.
    let p = err_from_is_err_and c.from_residual.result c.from_residual.ensures.1 in
    rw (p.1, p.2) (λ of_bytes. absurd (c.in_err-entry.ensures.fault of_bytes))

pub returns-in-Some-Some-clause-read : goal.returns-in-Some-Some-clause-read
returns-in-Some-Some-clause-read g c = λ known book bytes entries has.
    let rem = g.R.Source.remaining in
    let self = c.args.self.now in
    let entry = c.in-Entry.entry in
    let part : IsPart self.digest (ahead rem self.input) (ahead rem c.read_part.new.input) (Entry entry) =
    subst (IsPart self.digest (ahead rem self.input) (ahead rem c.read_part.new.input)) c.in-Entry.is (c.in_ok-entry.ensures.part known) in
    let at : c.in-Some-Some.at ≡ self.at + entry.size = omega (arith, c.in-Some-Some.ensures, c.in-Some-Some.ensures') in
    let count : c.in-Some-Some.entries ≡ self.entries + 1 = omega (arith, c.in-Some-Some.ensures, c.in-Some-Some.ensures') in
    let e = entered book bytes (ahead rem self.input) (ahead rem c.read_part.new.input) self.digest entry.digest entries entry.bodies self.at entry.size c.in-Some-Some.at self.entries c.in-Some-Some.entries
    has.stands has.digest part.0 part.1 part.2 has.place at has.count count in
    record { stands = e.stands; digest = e.digest_is; count = e.number; place = e.place }
