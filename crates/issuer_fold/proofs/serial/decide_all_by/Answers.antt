use Rattle.std.proofs.Common.{◌++◌, List, ap, ◌∙◌}
use Rattle.issuer_words.specs.Words.{Frame, replies_to, rows_after}
use Rattle.issuer_fold.proofs.FoldLaws.{rest_is}
use Rattle.issuer_fold.proofs.serial.decide_all_by.Goals as goal

pub returns-clause-book : goal.returns-clause-book
returns-clause-book g c = c.in_ok-decide_each.ensures.book ∙ ap (rows_after c.args.prefix.book) (rest_is c.args.frames.now c.args.prefix.count)

pub returns-clause-replies : goal.returns-clause-replies
returns-clause-replies g c =
    let before = c.args.prefix in
    c.in_ok-decide_each.ensures.replies ∙ ap (λ (rest : List Frame). before.replies.items ++ replies_to before.book rest) (rest_is c.args.frames.now before.count)
