use Rattle.app_parts.proofs.Answered.{have_more, none_yet}
use Rattle.app_parts.proofs.answers.open_answers.Goals as goal

pub loop-part-init : goal.loop-part-init
loop-part-init g c =
    none_yet (g.F.Files.is_known c.args.files.now) (g.F.Files.holds c.args.files.now) c.args.folder.now c.args.plan.now (record { replies = c.new-replies.result; books = c.new-books.result })
    c.new-replies.ensures.items c.new-books.ensures.items

pub loop-part-preserved : goal.loop-part-preserved
loop-part-preserved g c =
    have_more (g.F.Files.is_known c.args.files.now) (g.F.Files.holds c.args.files.now) c.args.folder.now c.args.plan.now c.loop-part.part
    (record { replies = c.loop-part.replies; books = c.loop-part.books }) (record { replies = c.push.new.self; books = c.push-in-loop-part.new.self }) c.in_ok-one.one
    c.loop-part.invariant c.in_ok-one.ensures.answer c.in_ok-push.ensures.items c.in_ok-push-2.ensures.items
