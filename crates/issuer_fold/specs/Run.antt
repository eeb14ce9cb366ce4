-- What a run of a batch comes to.
use Rattle.std.specs.Prelude.{◌≡◌, ℕ, ◌≤◌, List, length}
use Rattle.issuer_words.specs.Words.{Frame, Rows, replies_to, rows_after}
use Rattle.issuer_fold.specs.declared.run_outcome.RunOutcome.{RunOutcome}

-- how many threads took part: at least one, and no more than the workers
abbrev pub IsStarted : ℕ → ℕ → Type 0
IsStarted started workers = (1 ≤ started) × (started ≤ workers)

-- these bodies were decided by so many workers: the replies and the book are those of deciding them one after another on this book
pub record IsRun (opening : Rows) (bodies : List Frame) (workers : ℕ) (outcome : RunOutcome) : Type 0 where
  pub replies : outcome.replies.items ≡ replies_to opening bodies
  pub book : outcome.book ≡ rows_after opening bodies
  pub started : IsStarted outcome.started workers
  pub committed : outcome.committed ≤ length bodies
