use Rattle.std.proofs.Common.{drop, arith, sym, ◌∙◌, ◌≡◌, take, ap}
use Rattle.std.proofs.lemmas.List.{take-append-drop, take_all}
use Rattle.log_file.proofs.memory_log.MemoryLogGrowingFile.sync.Goals as goal

pub returns-clause-synced : goal.returns-clause-synced
returns-clause-synced c = λ known.
    let log = c.args.self.now in
    let all : take c.len-self.result c.answers.new.self.bytes.items ≡ c.answers.new.self.bytes.items = take_all c.len-self.result c.answers.new.self.bytes.items (omega (arith, c.len-self.ensures, c.answers.new.self.bytes.ok.0)) in
    (drop log.synced log.bytes.items, all ∙ ap (λ v. v.items) c.answers.ensures.bytes ∙ sym (take-append-drop log.synced log.bytes.items))
