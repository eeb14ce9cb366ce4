use Rattle.std.proofs.Common.{◌≡◌, ◌++◌, drop}
use Rattle.app_reports.specs.Sought.{sought_lines}
use Rattle.app_reports.proofs.why_listing.lines_of_sought.Given as goal

-- the lines so far, and those of the bodies that are left
abbrev pub invariant-loop-place : goal.invariant-loop-place
invariant-loop-place l = l.text.items ++ sought_lines l.form l.sought l.place (drop l.place l.frames) ≡ sought_lines l.form l.sought 0 l.frames
