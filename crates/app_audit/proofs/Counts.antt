-- As many replies as bodies.
use Rattle.std.proofs.Common.{◌≡◌, ◌≤◌, ℕ, List, length, sym, ap, subst, ◌∙◌}
use Rattle.issuer_fold.proofs.FoldLaws.{length-replies_to}
use Rattle.issuer_words.specs.Words.{Frame, ReplyBody, Rows, replies_to}

pub few_replies : (right : List ReplyBody) (rows : Rows) (frames : List Frame) → length frames ≤ 65536 → right ≡ replies_to rows frames → length right ≤ 65536
few_replies right rows frames few are = subst (λ (n : ℕ). n ≤ 65536) (sym (ap length are ∙ length-replies_to rows frames)) few
