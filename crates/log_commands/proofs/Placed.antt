-- From what a log came to, and that it is put in place, to files that hold it.
use Rattle.std.proofs.Common.{◌≡◌, ◌≢◌, ℕ, List, inr, Ok, Err}
use Rattle.app_jobs.specs.Decided.{Holding, IsBookOf}
use Rattle.app_jobs.specs.Deciding.{PutsAnswer}
use Rattle.app_jobs.specs.Faults.{MayBeRefused}
use Rattle.app_jobs.proofs.AnsweredFiles.{untouched}
use Rattle.app_jobs.specs.declared.job_fault.JobFault.{JobFault}
use Rattle.file_batch.specs.Words.{Failing, IsThere, Names}
use Rattle.issuer_rows.specs.Fold.{Rows}
use Rattle.log_commands.specs.Faults.{IsReplayRefusal}
use Rattle.log_commands.specs.Replayed.{IsAnswered}
use Rattle.log_commands.specs.Replays.{Replays}
use Rattle.log_commands.specs.declared.command_fault.CommandFault.{CommandFault}
use Rattle.log_commands.specs.declared.command_fault.CommandFault.TheVariants.{Job}
use Rattle.log_commands.specs.declared.log_replay_files.ReplayedFiles.{ReplayedFiles}
use Rattle.log_commands.specs.declared.written_log.WrittenLog.{WrittenLog}
use Rattle.log_commands.proofs.Faults.{unput}

module _ {F : Type 0} (is_known : F → Type 0) (holds : F → Holding) (failing : F → Failing) (held : Holding) (reading in_use : List ℕ → Type 0) where
  -- nothing is done, and all files are as they were
  pub refused : (old : F) (names : Names) (fault : CommandFault) → IsReplayRefusal held reading in_use (is_known old) (holds old) (failing old) names fault
      → Replays is_known holds failing held reading in_use old old names (Err fault)
  refused old names fault is = record {
    replayed = tt;
    fault = is;
    kept = untouched (holds old);
    others = λ other replies book. untouched (holds old) other;
    known = λ k. k;
  }

  -- what the log came to isn't put in place
  pub not_put : (old new : F) (names : Names) (rows : Rows) (replied booked : Type 0) (fault : JobFault) → IsBookOf (holds old) names.book rows
      → PutsAnswer is_known holds (MayBeRefused (failing old) names) old new names replied booked (Err fault)
      → Replays is_known holds failing held reading in_use old new names (Err (Job fault))
  not_put old new names rows replied booked fault opening put = record {
    replayed = tt;
    fault = inr (inr (unput held reading in_use (holds old) (failing old) names rows fault opening put.fault));
    kept = put.kept;
    others = put.others;
    known = put.known;
  }

  -- what the log came to is put in place
  pub put : {O : Type 0} (is_known_output : O → Type 0) (written : O → List ℕ) (old new : F) (names : Names) (rows : Rows) (log_known : Type 0) (own : List ℕ) (answer : WrittenLog O)
      (files : ReplayedFiles) → files.count ≡ answer.count → (is_known old → names.replies ≢ names.new_book) → (is_known old → IsThere (holds old) names.book)
      → IsBookOf (holds old) names.book rows → ((bytes : List ℕ) → held names.batch bytes → log_known × (own ≡ bytes))
      → IsAnswered is_known_output written (is_known old) log_known own rows answer
      → PutsAnswer is_known holds (MayBeRefused (failing old) names) old new names (is_known_output answer.replies → holds new names.replies (written answer.replies))
      (is_known_output answer.new_book → holds new names.new_book (written answer.new_book)) (Ok tt)
      → Replays is_known holds failing held reading in_use old new names (Ok files)
  put is_known_output written old new names rows log_known own answer files count apart there opening has answered placed = record {
    replayed = record {
      rows = rows;
      messages = answered.messages;
      blocks = answered.blocks;
      book_there = there;
      opening = opening;
      logged = λ bytes h. rw (has bytes h).1 at (answered.logged (has bytes h).0);
      cut = answered.cut;
      counted = rw count answered.counted;
      back = answered.back;
      bodies = answered.bodies;
      after = λ k.
          let text = answered.booked k in
          rw (← text.1) (placed.book k text.0);
      answered = λ k.
          let text = answered.replied k in
          rw (← text.1) (placed.replies k (apart k) text.0);
    };
    fault = tt;
    kept = tt;
    others = placed.others;
    known = placed.known;
  }
