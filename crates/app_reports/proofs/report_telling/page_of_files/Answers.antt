use Rattle.app_reports.proofs.report_telling.page_of_files.Goals as goal

pub returns-clause-lines : goal.returns-clause-lines
returns-clause-lines g c = (
  c.in_ok-totals.totals,
  c.in_ok-totals.ensures.report,
  c.in_ok-lines.ensures,
  λ known. rw (← c.in_ok-html.ensures, ← c.deref.ensures.value) (c.in_ok-put_page.ensures.put known),
)
