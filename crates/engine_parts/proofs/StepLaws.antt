-- One more message of a part that is decided.
use Rattle.std.proofs.Common.{◌≡◌, ◌≢◌, ℕ, ◌+◌, List, [], ◌∷◌, ◌++◌, drop, zip, Some, slice_get, sym, ap, ◌∙◌, subst, append_assoc, append-nil}
use Rattle.std.specs.FinMap as map
use Rattle.issuer_laws.specs.Parts.{of_part}
use Rattle.issuer_words.specs.Words.{Frame, ReplyBody, Rows, overlay, replies_to, reply_of, writes_of}
use Rattle.engine_parts.proofs.JoinLaws.{joined_nothing, joined_overlay}
use Rattle.engine_parts.proofs.OrderLaws.{part_other, part_own, zip_left}
use Rattle.engine_parts.specs.Decided.{AreDecidedTo}
use Rattle.engine_parts.specs.TwoBooks.{joined, rows_of_part, rows_written}

-- what is left of the part where this message is of it
pub mine_left : (parts : List ℕ) (frames : List Frame) (i p part : ℕ) (f : Frame) → slice_get parts i ≡ Some p → slice_get frames i ≡ Some f → p ≡ part
    → of_part part (drop i (zip parts frames)) ≡ f ∷ of_part part (drop (i + 1) (zip parts frames))
mine_left parts frames i p part f at here same =
    ap (of_part part) (zip_left parts frames i p f at here) ∙ part_own part p f (drop (i + 1) (zip parts frames)) same

-- where it is of another
pub other_left : (parts : List ℕ) (frames : List Frame) (i p part : ℕ) (f : Frame) → slice_get parts i ≡ Some p → slice_get frames i ≡ Some f → p ≢ part
    → of_part part (drop i (zip parts frames)) ≡ of_part part (drop (i + 1) (zip parts frames))
other_left parts frames i p part f at here apart =
    ap (of_part part) (zip_left parts frames i p f at here) ∙ part_other part p f (drop (i + 1) (zip parts frames)) apart

-- nothing is decided yet
pub begins : (opening : Rows) (all : List Frame) → AreDecidedTo opening all [] map.empty all
begins opening all = record {
  answers = ap (λ (rows : Rows). replies_to rows all) (joined_nothing opening);
  rows = ap (λ (rows : Rows). rows_written map.empty rows all) (joined_nothing opening);
}

-- the next message is decided
pub goes_on : (opening : Rows) (all : List Frame) (replies : List ReplyBody) (written : Rows) (f : Frame) (left : List Frame) → AreDecidedTo opening all replies written (f ∷ left)
    → AreDecidedTo opening all (replies ++ reply_of (joined opening written) f ∷ []) (overlay written (writes_of (joined opening written) f)) left
goes_on opening all replies written f left so =
    let seen = joined_overlay opening written (writes_of (joined opening written) f) in
    record {
      answers = ap (λ (rows : Rows). (replies ++ reply_of (joined opening written) f ∷ []) ++ replies_to rows left) seen ∙ append_assoc replies (reply_of (joined opening written) f ∷ []) _ ∙ so.answers;
      rows = ap (λ (rows : Rows). rows_written (overlay written (writes_of (joined opening written) f)) rows left) seen ∙ so.rows;
    }

-- none is left
pub all_decided_to : (opening : Rows) (all : List Frame) (replies : List ReplyBody) (written : Rows) (left : List Frame) → AreDecidedTo opening all replies written left → left ≡ []
    → (replies ≡ replies_to opening all) × (written ≡ rows_of_part opening all)
all_decided_to opening all replies written left so none =
    let done = subst (λ (fs : List Frame). AreDecidedTo opening all replies written fs) none so in
    (sym (append-nil replies) ∙ done.answers, done.rows)
