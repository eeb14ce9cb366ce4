-- Runs whose replies, journal and new book are put in place.
use Rattle.std.proofs.Common.{◌≡◌, ◌∙◌, ℕ, List, [], ◌∷◌, inl, inr, sym, string_bytes, Ok, Err}
use Rattle.file_batch.specs.Words.{AreAsTheyWere, ArePlaced, Failing, HasOneNamed, Holding, IsAsItWas, IsNoneNamed, Names, WriteFault, Written}
use Rattle.file_devices.specs.declared.write_fault.WriteFault.TheVariants as write
use Rattle.file_devices.proofs.Placing.{none_of_three, one_of_three, placed_three}
use Rattle.app_jobs.proofs.Faults.{unput_file}
use Rattle.app_jobs.specs.JobFault.{fault_of_write}
use Rattle.app_runs.specs.Journaled.{MayBeRefusedWithJournal, PutsRun}
use Rattle.app_runs.specs.declared.traced_answer.TracedAnswer.{TracedAnswer}

-- replies, journal and new book, put in place one behind the other
pub run_placed : {F O : Type 0} (is_known : F → Type 0) (holds : F → Holding) (failing : F → Failing) (is_known_output : O → Type 0) (written : O → List ℕ)
    (old new : F) (names : Names) (journal : List ℕ) (answer : TracedAnswer O) (a b d : Written O) (files : List (Written O)) → files ≡ a ∷ b ∷ d ∷ []
    → string_bytes a.name ≡ names.replies → a.output ≡ answer.replies → string_bytes b.name ≡ journal → b.output ≡ answer.journal
    → string_bytes d.name ≡ names.new_book → d.output ≡ answer.new_book
    → (is_known old → ArePlaced is_known_output written (holds new) files) → (is_known old → is_known new)
    → ((other : List ℕ) → IsNoneNamed other files → IsAsItWas (holds old) (holds new) other)
    → PutsRun is_known holds failing is_known_output written old new names journal answer (Ok tt)
run_placed is_known holds failing is_known_output written old new names journal answer a b d files are first replied second logged third booked placed known others = record {
  replies = λ k out apart further.
      let three = placed_three is_known_output written (holds new) a b d (rw are at (placed k)) in
      let one = rw (first, replied, second, third) at three.0 in
      one out (λ same. apart (sym same)) (λ same. further (sym same));
  log = λ k out apart.
      let three = placed_three is_known_output written (holds new) a b d (rw are at (placed k)) in
      let one = rw (second, logged, third) at three.1 in
      one out (λ same. apart (sym same));
  book = λ k out.
      let three = placed_three is_known_output written (holds new) a b d (rw are at (placed k)) in
      let one = rw (third, booked) at three.2 in
      one out;
  kept = tt;
  fault = tt;
  others = λ other replies book log.
      others other (rw are (none_of_three other a b d (λ same. replies (sym same ∙ first)) (λ same. log (sym same ∙ second)) (λ same. book (sym same ∙ third))));
  known = known;
}

-- they are not put in place
pub run_unput : {F O : Type 0} (is_known : F → Type 0) (holds : F → Holding) (failing : F → Failing) (is_known_output : O → Type 0) (written : O → List ℕ)
    (old new : F) (names : Names) (journal : List ℕ) (answer : TracedAnswer O) (a b d : Written O) (files : List (Written O)) (e : WriteFault) → files ≡ a ∷ b ∷ d ∷ []
    → string_bytes a.name ≡ names.replies → string_bytes b.name ≡ journal → string_bytes d.name ≡ names.new_book
    → AreAsTheyWere (holds old) (holds new) → (e ≡ write.Unwritable → HasOneNamed (failing old).refused files) → (is_known old → is_known new)
    → PutsRun is_known holds failing is_known_output written old new names journal answer (Err (fault_of_write e))
run_unput is_known holds failing is_known_output written old new names journal answer a b d files e are first second third kept refused known = record {
  replies = tt;
  log = tt;
  book = tt;
  kept = kept;
  fault = unput_file (MayBeRefusedWithJournal (failing old) names journal) e (λ is.
      elim (rw (first, second, third) at (one_of_three (failing old).refused a b d (rw are at (refused is)))) [
        | inl replies ↦ inl (inl replies)
        | inr others ↦ elim others [ inl log ↦ inr log | inr book ↦ inl (inr book) ]
      ]);
  others = λ other replies book log. kept other;
  known = known;
}
