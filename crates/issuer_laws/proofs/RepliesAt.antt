-- The reply at a place of a batch.
use Rattle.std.proofs.Common.{◌≡◌, ℕ, zero, suc, List, [], ◌∷◌, take, Some, ap}
use Rattle.std.specs.List.{slice_get}
use Rattle.std.proofs.lemmas.Option.{same_Some, none-some}
use Rattle.issuer_words.specs.Words.{Frame, Rows, replies_to, reply_of, rows_after, rows_after_one}

-- the reply at a place is to the body there, on the rows after those before it
pub reply_at : (rows : Rows) (frames : List Frame) (place : ℕ) (frame : Frame) → slice_get frames place ≡ Some frame
    → slice_get (replies_to rows frames) place ≡ Some (reply_of (rows_after rows (take place frames)) frame)
reply_at rows [] place frame at = absurd (none-some frame at)
reply_at rows (f ∷ frames) zero frame at = ap (λ (g : Frame). Some (reply_of rows g)) (same_Some f frame at)
reply_at rows (f ∷ frames) (suc place) frame at = reply_at (rows_after_one rows f) frames place frame at
