use Rattle.std.proofs.Common.{rules, ℕ, ◌≡◌, [], length, ap, arith}
use Rattle.std.proofs.lemmas.List.{length-map}
use Rattle.std.proofs.lemmas.Result.{err_from_is_err_and}
use Rattle.log_replay.specs.Logged.{IsLogOfSize}
use Rattle.log_replay.specs.UnderWay.{Begins}
use Rattle.log_replay.proofs.Cutting.{length-cut}
use Rattle.log_replay.proofs.Reading.{replay_fault_more}
use Rattle.log_replay.proofs.log_blocks.read_log_blocks.Goals as goal

pub returns-in_err-gather_log-clause-fault : goal.returns-in_err-gather_log-clause-fault
returns-in_err-gather_log-clause-fault g c =
    let p = err_from_is_err_and c.from_residual-in_err-gather_log.result c.from_residual-in_err-gather_log.ensures.1 in
    let width : length c.args.digest.now ≡ 32 = first_of (search rules, omega arith) in
    let read = c.in_ok-reader.ensures in
    let digest = c.args.digest.now in
    let bytes = g.R.Source.remaining c.args.source in
    let begins = Begins g.R.Source.is_known g.R.Source.remaining digest bytes c.in_ok-reader.reader in
    let other = (begins → (torn : ℕ) → ¬ IsLogOfSize digest bytes c.args.size.messages torn) in
    rw (p.1, p.2) (replay_fault_more begins _ _ _ digest bytes other _ ⊥ ⊥ _ (λ known. (read.known known, read.read known)) read.still
    (λ none known size. none (read.known known, read.read known) c.args.size.torn size) (λ none. none) (c.in_err-gather_log.ensures.fault digest bytes width))

pub returns-clause-blocks : goal.returns-clause-blocks
returns-clause-blocks g c =
    let read = c.in_ok-reader.ensures in
    let log = c.in_ok-gather_log.ensures.gathers in
    let has = log.gathers [] c.new-gathering.ensures in (
      log.messages,
      c.in_ok-into_blocks.ensures log.messages has,
      λ known. log.logged c.args.digest.now (g.R.Source.remaining c.args.source) (read.known known, read.read known),
    )

pub returns-clause-count : goal.returns-clause-count
returns-clause-count g c =
    let log = c.in_ok-gather_log.ensures.gathers in
    let blocks = c.in_ok-into_blocks.ensures log.messages (log.gathers [] c.new-gathering.ensures) in
    let count = length-cut _ blocks.cut in
    omega (arith, count.1, ap length blocks.all, log.count, c.requires.few, length-map c.in_ok-into_blocks.field-0.items (λ block. block.items))
