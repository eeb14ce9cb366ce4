use Rattle.std.proofs.Common.{◌≡◌, ◌∙◌, ap, sym, subst}
use Rattle.issuer_words.specs.Words.{Agrees, Executed, Reads, keys_read}
use Rattle.issuer_view.specs.Words.{AgreesWithBook}
use Rattle.stm_core_laws.specs.State.{slot}
use Rattle.stm_journal_text.specs.Logged.{log_rows}
use Rattle.stm_journal_text.proofs.Decided.{agrees_log}
use Rattle.stm_journal.proofs.replaying.decide_on_log.Goals as goal

agreed : (c : goal.After-new-2) → Agrees c.decide.new.rows.reads (log_rows (slot c.args.core.now.state c.args.version.index).log)
agreed c =
    let b = rw (c.new-recorder.ensures, c.new.ensures.core, c.new.ensures.version) at c.in-Ok.ensures.book in
    agrees_log (slot c.args.core.now.state c.args.version.index).log c.decide.new.rows.reads
    (subst (λ book. AgreesWithBook book c.decide.new.rows.reads) b c.into_parts-reads.ensures.agrees)

same_reads : (c : goal.After-new-2) → c.new-2.result.reads ≡ c.decide.new.rows.reads
same_reads c = ap (λ (x : Executed). x.reads) c.new-2.ensures ∙ c.into_parts-reads.ensures.reads

pub returns-clause-agrees : goal.returns-clause-agrees
returns-clause-agrees c =
    subst (λ (reads : Reads). Agrees reads (log_rows (slot c.args.core.now.state c.args.version.index).log)) (sym (same_reads c)) (agreed c)

pub returns-clause-keys : goal.returns-clause-keys
returns-clause-keys c =
    ap keys_read (same_reads c) ∙ c.in-Ok.ensures.all (log_rows (slot c.args.core.now.state c.args.version.index).log) (agreed c)
