use Rattle.std.proofs.Common.{◌≡◌, ◌⊎◌, ℕ, ◌-◌, List, Ok, inl, inr, ap, ◌∙◌, subst}
use Rattle.std.proofs.lemmas.Result.{err_from_is_err_and}
use Rattle.std.specs.FinMap as map
use Rattle.book_changes.proofs.SoundBooks.{both_sound}
use Rattle.book_laws.specs.Reading.{reading}
use Rattle.book_laws.specs.Text.{book_text}
use Rattle.issuer_rows.specs.Fold.{Rows}
use Rattle.app_jobs.specs.Faults.{MayNotBePut}
use Rattle.app_parts.specs.Faults.{names_of}
use Rattle.app_parts.proofs.Files.{unwritten}
use Rattle.app_parts.proofs.archiving.archive_files.Goals as goal

pub returns-in_err-new_book-clause-fault : goal.returns-in_err-new_book-clause-fault
returns-in_err-new_book-clause-fault g c =
    let p = err_from_is_err_and c.from_residual-in_err-new_book.result c.from_residual-in_err-new_book.ensures.1 in
    rw (p.1, p.2) (unwritten (g.F.Files.is_known c.args.files.now) (g.F.Files.holds c.args.files.now) (g.F.Files.failing c.args.files.now) (names_of c.args.names.now)
    c.in_ok-book.book c.in_err-new_book.field-0.0 (MayNotBePut (g.F.Files.failing c.args.files.now) c.args.names.now.new_book.now) c.in_ok-book.ensures.book (λ may. inl may) c.in_err-new_book.ensures.fault)

pub returns-in_err-old-clause-fault : goal.returns-in_err-old-clause-fault
returns-in_err-old-clause-fault g c =
    let p = err_from_is_err_and c.from_residual-in_err-old.result c.from_residual-in_err-old.ensures.1 in
    rw (p.1, p.2) (unwritten (g.F.Files.is_known c.args.files.now) (g.F.Files.holds c.args.files.now) (g.F.Files.failing c.args.files.now) (names_of c.args.names.now)
    c.in_ok-book.book c.in_err-old.field-0.0 (MayNotBePut (g.F.Files.failing c.args.files.now) c.args.names.now.old.now) c.in_ok-book.ensures.book (λ may. inr may) c.in_err-old.ensures.fault)

pub returns-in_err-put_books-clause-fault : goal.returns-in_err-put_books-clause-fault
returns-in_err-put_books-clause-fault g c =
    let p = err_from_is_err_and c.from_residual-in_err-put_books.result c.from_residual-in_err-put_books.ensures.1 in
    rw (p.1, p.2) (unwritten (g.F.Files.is_known c.args.files.now) (g.F.Files.holds c.args.files.now) (g.F.Files.failing c.args.files.now) (names_of c.args.names.now)
    c.in_ok-book.book c.in_err-put_books.field-0.0
    ((g.F.Files.failing c.args.files.now).refused c.args.names.now.old.now ⊎ (g.F.Files.failing c.args.files.now).refused c.args.names.now.new_book.now) c.in_ok-book.ensures.book (λ may. elim may [ inl old ↦ inr (inr old) | inr new ↦ inl (inr new) ]) c.in_err-put_books.ensures.fault)

pub returns-clause-archived : goal.returns-clause-archived
returns-clause-archived g c =
    let holds = g.F.Files.holds c.put_books.new.files in
    let book = c.in_ok-book.book in
    let date = c.args.date.now in
    let new = c.in_ok-archived.ensures.new_book in
    let old = c.in_ok-archived.ensures.old in
    record {
      rows = book;
      there = c.in_ok-book.ensures.there;
      opening = c.in_ok-book.ensures.book;
      new_book = λ known.
          let text = c.in_ok-new_book.ensures.written known in
          subst (λ (t : List ℕ). holds c.args.names.now.new_book.now t) (text.1 ∙ ap book_text new) (c.in_ok-put_books.ensures.new_book known text.0);
      old_book = λ known.
          let text = c.in_ok-old.ensures.written known in
          subst (λ (t : List ℕ). holds c.args.names.now.old.now t) (text.1 ∙ ap book_text old) (c.in_ok-put_books.ensures.old known (c.in_ok-check_names.ensures.apart known).both text.0);
      new_back = subst (λ (rows : Rows). reading (book_text rows) ≡ Ok rows) new c.in_ok-new_book.ensures.back;
      old_back = subst (λ (rows : Rows). reading (book_text rows) ≡ Ok rows) old c.in_ok-old.ensures.back;
      sound = λ known.
          let there = c.in_ok-book.ensures.there known in
          both_sound date book (c.in_ok-book.ensures.book there.0 there.1).1;
      counted = (c.saturating_sub.ensures ∙ (λ i. c.len.ensures i - (c.len-kept.ensures ∙ ap map.len new) i), c.len-kept.ensures ∙ ap map.len new);
    }
