use Rattle.std.proofs.Common.{◌≡◌, ◌≢◌, ◌∙◌, drop, take, sym, ap}
use Rattle.file_laws.specs.Texts.{log_letters, log_version}
use Rattle.log_file.proofs.Headers.{other_book, other_found, same_found}
use Rattle.log_file.proofs.log_reader.check_header.Goals as goal

pub returns-then-ne-3-clause-fault : goal.returns-then-ne-3-clause-fault
returns-then-ne-3-clause-fault c = λ more.
    let letters : take 4 c.args.bytes.now ≡ log_letters =
    sym c.split_at.ensures.front ∙ same_found c.ne.result c.split_at.result.0.now c.as_slice.result.now c.if-ne.false c.ne.ensures ∙ c.as_slice.ensures in
    let version : take 2 (drop 4 c.args.bytes.now) ≡ log_version =
    rw c.split_at.ensures.back at (sym c.split_at-2.ensures.front ∙ same_found c.ne-2.result c.split_at-2.result.0.now c.as_slice-2.result.now c.if-ne-2.false c.ne-2.ensures ∙ c.as_slice-2.ensures) in
    let other : c.split_at-3.result.0.now ≢ c.as_slice-3.result.now = other_found c.ne-3.result c.split_at-3.result.0.now c.as_slice-3.result.now c.if-ne-3.true c.ne-3.ensures in
    let own : c.split_at-3.result.0.now ≡ take 32 (drop 2 (drop 4 c.args.bytes.now)) =
    c.split_at-3.ensures.front ∙ ap (take 32) (c.split_at-2.ensures.back ∙ ap (drop 2) c.split_at.ensures.back) in
    other_book c.args.book.now c.args.bytes.now more c.requires letters version (λ e. other (own ∙ e ∙ sym c.as_slice-3.ensures))
