use Rattle.std.proofs.Common.{rules, ◌≡◌, ◌∙◌, ◌++◌, List, ℕ, Err, drop, length, refl, ap, subst, arith}
use Rattle.std.proofs.lemmas.Result.{err_from_is_err_and}
use Rattle.log_file.specs.Ahead.{ahead}
use Rattle.file_laws.specs.LogReading.{IsReading}
use Rattle.log_file.proofs.Stepping.{never_failed, opened}
use Rattle.log_file.proofs.log_reader.LogReader.open.Goals as goal

pub returns-in_err-fill-clause-fault : goal.returns-in_err-fill-clause-fault
returns-in_err-fill-clause-fault g c =
    let p = err_from_is_err_and c.from_residual-in_err-fill.result c.from_residual-in_err-fill.ensures.1 in
    rw (p.1, p.2) (λ of_bytes known. absurd (c.in_err-fill.ensures.fault of_bytes))

pub returns-in_err-check_header-clause-may : goal.returns-in_err-check_header-clause-may
returns-in_err-check_header-clause-may g c =
    let p = err_from_is_err_and c.from_residual-in_err-check_header.result c.from_residual-in_err-check_header.ensures.1 in
    rw (p.1, p.2) (λ failed. absurd (never_failed c.in_err-check_header.field-0.0 c.in_err-check_header.ensures.of_bytes failed))

pub returns-in_err-check_header-clause-fault : goal.returns-in_err-check_header-clause-fault
returns-in_err-check_header-clause-fault g c =
    let p = err_from_is_err_and c.from_residual-in_err-check_header.result c.from_residual-in_err-check_header.ensures.1 in
    let rem = g.R.Source.remaining in
    rw (p.1, p.2) (λ of_bytes known.
    let known1 : g.R.Source.is_known c.in_ok-input.input.source = rw c.in_ok-input.ensures.source known in
    let start : ahead rem c.in_ok-input.input ≡ rem c.args.source = rw (c.in_ok-input.ensures.held, c.in_ok-input.ensures.source) refl in
    let whole : c.held.result.now ++ rem c.fill.new.self.source ≡ rem c.args.source =
    ap (λ (x : List ℕ). x ++ rem c.fill.new.self.source) c.held.ensures ∙ c.in_ok-fill.ensures.bytes known1 ∙ start in
    subst (λ (x : List ℕ). IsReading c.args.book.now x (Err c.in_err-check_header.field-0.0)) whole (c.in_err-check_header.ensures.fault (rem c.fill.new.self.source)))

pub returns-clause-read : goal.returns-clause-read
returns-clause-read g c = λ known.
    let rem = g.R.Source.remaining in
    let next = c.skip.new.self in
    let known1 : g.R.Source.is_known c.in_ok-input.input.source = rw c.in_ok-input.ensures.source known in
    let start : ahead rem c.in_ok-input.input ≡ rem c.args.source = rw (c.in_ok-input.ensures.held, c.in_ok-input.ensures.source) refl in
    let whole : c.held.result.now ++ rem c.fill.new.self.source ≡ rem c.args.source =
    ap (λ (x : List ℕ). x ++ rem c.fill.new.self.source) c.held.ensures ∙ c.in_ok-fill.ensures.bytes known1 ∙ start in
    let behind : ahead rem next ≡ drop 38 c.held.result.now ++ rem c.fill.new.self.source = rw (c.skip.ensures.held, c.skip.ensures.source, c.held.ensures) refl in
    let len : length c.args.book.now ≡ 32 = first_of (search rules, omega arith) in
    let o = opened c.args.book.now (rem c.args.source) c.held.result.now (rem c.fill.new.self.source) (ahead rem next) c.digest_of-digest.result len whole c.in_ok-check_header.ensures.ok behind c.digest_of-digest.ensures in
    record { stands = o.stands; digest = o.digest_is; count = refl; place = o.place }
