use Rattle.std.specs.FinMap as map
use Rattle.app_jobs.proofs.writing.write_answer.Given as goal

abbrev pub ghosts-write_sorted : goal.ghosts-write_sorted
ghosts-write_sorted g a = record { rows = map.entries a.book.now }
