-- Faults of what an audit opens, as those of the audit.
use Rattle.std.proofs.Common.{List, inl, inr}
use Rattle.issuer_words.specs.Words.{Frame, ReplyBody, Rows}
use Rattle.file_batch.specs.Words.{Failing, Names}
use Rattle.app_jobs.specs.Audited.{AreDecided, AreHeld}
use Rattle.app_jobs.specs.Decided.{Holding}
use Rattle.app_jobs.specs.Faults.{IsAnswersFault, IsOpeningFault, IsFaultInOrder}
use Rattle.app_jobs.specs.declared.job_fault.JobFault.{JobFault}

-- a fault of the first two of the four files
pub of_first_two : (old : Holding) (failing : Failing) (names : Names) (behind : Type 0) (fault : JobFault)
    → IsOpeningFault old failing names fault → IsFaultInOrder old failing names behind fault
of_first_two old failing names behind fault (inl a) = inl a
of_first_two old failing names behind fault (inr (b, c)) = inr (b, inl c)

-- a fault of the last two
pub of_last_two : (known : Type 0) (old : Holding) (failing : Failing) (names : Names) (rows : Rows) (frames : List Frame) (behind : Type 0) (fault : JobFault)
    → AreDecided known old names rows frames → IsAnswersFault old failing names fault
    → IsFaultInOrder old failing names behind fault
of_last_two known old failing names rows frames behind fault held (inl a) =
    inr ((rows, held.opening), inr ((frames, held.messages), inl a))
of_last_two known old failing names rows frames behind fault held (inr (b, c)) =
    inr ((rows, held.opening), inr ((frames, held.messages), inr (b, inl c)))

-- a fault of one of the four files, whatever may come behind them
pub of_four : (old : Holding) (failing : Failing) (names : Names) (behind : Type 0) (fault : JobFault)
    → IsFaultInOrder old failing names ⊥ fault → IsFaultInOrder old failing names behind fault
of_four old failing names behind fault (inl a) = inl a
of_four old failing names behind fault (inr (b, inl a)) = inr (b, inl a)
of_four old failing names behind fault (inr (b, inr (c, inl a))) = inr (b, inr (c, inl a))
of_four old failing names behind fault (inr (b, inr (c, inr (d, inl a)))) = inr (b, inr (c, inr (d, inl a)))
of_four old failing names behind fault (inr (b, inr (c, inr (d, inr (e, none))))) = absurd none

-- a fault behind all four
pub behind_four : (known : Type 0) (old : Holding) (failing : Failing) (names : Names) (rows : Rows) (frames : List Frame) (answers : List ReplyBody) (rows_after_it : Rows)
    (behind : Type 0) (fault : JobFault) → AreHeld known old names rows frames answers rows_after_it
    → behind → IsFaultInOrder old failing names behind fault
behind_four known old failing names rows frames answers rows_after_it behind fault held h =
    inr ((rows, held.decided.opening), inr ((frames, held.decided.messages), inr ((answers, held.answered.answered), inr ((rows_after_it, held.answered.after), h))))
