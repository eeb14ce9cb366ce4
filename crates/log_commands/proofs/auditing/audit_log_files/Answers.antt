use Rattle.std.proofs.Common.{◌∙◌, inl, inr, map, ap, subst, Err}
use Rattle.std.proofs.lemmas.Result.{err_from_is_err_and}
use Rattle.std.specs.Global.{Vec}
use Rattle.app_audit.specs.Blocks.{FindsInBlocks}
use Rattle.file_laws.proofs.FoldedBlocks.{one_book}
use Rattle.file_laws.specs.Blocks.{replies_to_blocks}
use Rattle.issuer_words.specs.Words.{Frame, ReplyBody, Rows, rows_after}
use Rattle.log_file.specs.declared.open_fault.OpenFault.{OpenFault}
use Rattle.log_commands.specs.Names.{names_of}
use Rattle.log_commands.proofs.Audits.{not_opened, not_read}
use Rattle.log_commands.proofs.auditing.audit_log_files.Goals as goal

pub returns-in_err-log-clause-fault : goal.returns-in_err-log-clause-fault
returns-in_err-log-clause-fault g c =
    let p = err_from_is_err_and c.from_residual-in_err-log.result c.from_residual-in_err-log.ensures.1 in
    let opened = c.in_err-log.ensures in
    rw (p.1, p.2) (inr (inr (
      c.in_ok-book.book,
      c.in_ok-book.ensures.book,
      inl (not_opened
          (g.L.LockedLogs.holds c.args.logs.now) (g.L.LockedLogs.reading c.args.logs.now) (g.L.LockedLogs.in_use c.args.logs.now) (names_of c.args.names.now) c.in_ok-book.book c.in_err-log.field-0.0
          (λ used. opened.in_use (ap (λ (e : OpenFault). Err e) used)) (λ gone. opened.absent (ap (λ (e : OpenFault). Err e) gone))),
    )))

pub returns-in_err-blocks-clause-fault : goal.returns-in_err-blocks-clause-fault
returns-in_err-blocks-clause-fault g c =
    let p = err_from_is_err_and c.from_residual-in_err-blocks.result c.from_residual-in_err-blocks.ensures.1 in
    rw (p.1, p.2) (inr (inr (
      c.in_ok-book.book,
      c.in_ok-book.ensures.book,
      inl (not_read
          (g.L.LockedLogs.holds c.args.logs.now) (g.L.LockedLogs.reading c.args.logs.now) (g.L.LockedLogs.in_use c.args.logs.now) (names_of c.args.names.now) c.in_ok-book.book
          (g.L.Log.LockedLog.is_known c.in_ok-log.log) (g.L.Log.LockedLog.may_fail c.in_ok-log.log) (g.L.Log.LockedLog.bytes c.in_ok-log.log) c.in_err-blocks.field-0.0
          c.in_ok-log.ensures.log c.in_ok-log.ensures.device c.in_err-blocks.ensures.fault),
    )))

pub returns-in_err-replies-clause-fault : goal.returns-in_err-replies-clause-fault
returns-in_err-replies-clause-fault g c =
    let p = err_from_is_err_and c.from_residual-in_err-replies.result c.from_residual-in_err-replies.ensures.1 in
    let log = c.in_ok-log.ensures.log in
    let blocks = c.in_ok-blocks.ensures.blocks in
    rw (p.1, p.2) (inr (inr (
      c.in_ok-book.book,
      c.in_ok-book.ensures.book,
      inr (
        blocks.0,
        λ bytes h. rw (log bytes h).1 at (blocks.2 (log bytes h).0),
        inl c.in_err-replies.ensures.fault,
      ),
    )))

pub returns-in_err-after-clause-fault : goal.returns-in_err-after-clause-fault
returns-in_err-after-clause-fault g c =
    let p = err_from_is_err_and c.from_residual-in_err-after.result c.from_residual-in_err-after.ensures.1 in
    let log = c.in_ok-log.ensures.log in
    let blocks = c.in_ok-blocks.ensures.blocks in
    rw (p.1, p.2) (inr (inr (
      c.in_ok-book.book,
      c.in_ok-book.ensures.book,
      inr (
        blocks.0,
        λ bytes h. rw (log bytes h).1 at (blocks.2 (log bytes h).0),
        inr ((map (λ (block : Vec ReplyBody). block.items) c.in_ok-replies.replies.items, c.in_ok-replies.ensures.replies), inl c.in_err-after.ensures.fault),
      ),
    )))

pub returns-clause-audited : goal.returns-clause-audited
returns-clause-audited g c =
    let log = c.in_ok-log.ensures.log in
    let blocks = c.in_ok-blocks.ensures.blocks in
    let own = map (λ (block : Vec Frame). block.items) c.in_ok-blocks.blocks.items in
    let answers = map (λ (block : Vec ReplyBody). block.items) c.in_ok-replies.replies.items in
    let rows = c.in_ok-book.book in
    record {
      rows = rows;
      messages = blocks.0;
      blocks = own;
      answers = answers;
      after = c.in_ok-after.after;
      book_there = c.in_ok-book.ensures.there;
      replies_there = c.in_ok-replies.ensures.there;
      after_there = c.in_ok-after.ensures.there;
      opening = c.in_ok-book.ensures.book;
      logged = λ bytes h. rw (log bytes h).1 at (blocks.2 (log bytes h).0);
      cut = blocks.1;
      answered = c.in_ok-replies.ensures.replies;
      closing = c.in_ok-after.ensures.book;
      finds = subst (λ (r : Rows). FindsInBlocks answers c.in_ok-after.after (replies_to_blocks rows own) r c.in_ok-audit_blocks.field-0)
          (one_book rows own ∙ ap (rows_after rows) blocks.1.all) (rw (c.deref.ensures.value, c.deref-2.ensures.value) at c.in_ok-audit_blocks.ensures);
    }
