use Rattle.std.proofs.Common.{sym, subst, true≢false, ◌∙◌}
use Rattle.book_laws.specs.Steps.{GivesOrMemory}
use Rattle.book_laws.proofs.Readings.{read_value, read_none}
use Rattle.serde_json.specs.View.{view}
use Rattle.book_json.proofs.reading.book_of_text.Goals as goal

pub returns-in-Ok : goal.returns-in-Ok
returns-in-Ok c =
    let ok = c.in-Ok.ensures.ok in
    subst (GivesOrMemory (λ book. book) c.book_of.result) (sym (read_value c.args.bytes.now (view c.in-Ok.top) ok.0 ok.1)) c.book_of.ensures

pub returns-else-is_memory : goal.returns-else-is_memory
returns-else-is_memory c =
    read_none c.args.bytes.now (λ utf8. c.in-Err.ensures.err (λ m. absurd (true≢false (sym (c.is_memory.ensures.1 m) ∙ c.if-is_memory.false))) utf8)
