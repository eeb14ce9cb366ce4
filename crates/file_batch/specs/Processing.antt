-- A batch that is read, decided and answered.
use Rattle.std.specs.Prelude.{◌≡◌, ◌≤◌, List, Result, IfOk, length}
use Rattle.std.specs.declared.alloc.AllocError.{AllocError}
use Rattle.issuer_fold.specs.declared.run_outcome.RunOutcome.{RunOutcome}
use Rattle.issuer_words.specs.Words.{Frame, Rows, replies_to, rows_after}

-- replies and book are those of deciding the frames one after another on these rows
abbrev pub IsFold : Rows → List Frame → RunOutcome → Type 0
IsFold rows frames outcome = (outcome.replies.items ≡ replies_to rows frames) × (outcome.book ≡ rows_after rows frames)

-- the same of an answer, unless memory ran out
abbrev pub AnswersFold : Rows → List Frame → Result RunOutcome AllocError → Type 0
AnswersFold rows frames answer = IfOk answer (IsFold rows frames)

-- What decides batches: it may be called with one, and what it returns is the fold. A book and a batch that it is called with are seen as
-- these rows and these frames.
pub record IsDecider {D B S : Type 0} (pre : D → B → S → Type 0) (post : D → B → S → Result RunOutcome AllocError → Type 0)
    (rows_of : B → Rows) (frames_of : S → List Frame) (decide : D) : Type 0 where
  pub called : (book : B) (batch : S) → length (frames_of batch) ≤ 65536 → pre decide book batch
  pub fold : (book : B) (batch : S) (answer : Result RunOutcome AllocError) → post decide book batch answer
      → AnswersFold (rows_of book) (frames_of batch) answer
