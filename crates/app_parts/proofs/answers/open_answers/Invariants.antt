use Rattle.std.proofs.Common.{◌≡◌, List, length}
use Rattle.app_parts.specs.Answers.{HaveAnswers}
use Rattle.app_parts_folder.specs.Joining.{Answer}
use Rattle.app_parts.proofs.answers.open_answers.Given as goal

-- the answers of the parts before this one are opened
abbrev pub invariant-loop-part : goal.invariant-loop-part
invariant-loop-part g l =
    (answers : List Answer) × (length answers ≡ l.part)
    × HaveAnswers (g.F.Files.is_known l.fn.files) (g.F.Files.holds l.fn.files) l.folder l.plan (record { replies = l.replies; books = l.books }) answers
