use Rattle.std.proofs.Common.{◌++◌, take, drop, sym}
use Rattle.std.proofs.lemmas.List.{take-append-drop}
use Rattle.log_file.proofs.memory_log.MemoryLogGrowingFile.cut.Goals as goal

pub returns-then-not-answers-clause-kept : goal.returns-then-not-answers-clause-kept
returns-then-not-answers-clause-kept c = λ known.
    let log = c.args.self.now in
    let whole = take log.synced log.bytes.items ++ drop log.synced log.bytes.items in
    (drop c.args.size whole, rw (c.answers.ensures.bytes, c.answers.ensures.synced) (sym (take-append-drop c.args.size whole)))
