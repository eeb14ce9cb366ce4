use Rattle.book_text.proofs.row_writers.write_entry.Goals as goal

pub returns-in-Original-Kept : goal.returns-in-Original-Kept
returns-in-Original-Kept c = rw (c.in-Original-Kept.is-0, c.in-Original-Kept.is-1) c.write_kept.ensures
