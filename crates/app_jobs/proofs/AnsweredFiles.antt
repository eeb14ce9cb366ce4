-- From what a batch came to, and that it is put in place, to files that are decided.
use Rattle.std.proofs.Common.{◌≡◌, ◌⊎◌, ◌<◌, ℕ, List, [], ◌∷◌, ◌∙◌, ap, inl, inr, sym, string_bytes, Ok, Err}
use Rattle.file_batch.specs.Counting.{Admits, count_of}
use Rattle.file_batch.specs.declared.body_count.BodyCount.{BodyCount}
use Rattle.file_batch.specs.declared.strictness.Strictness.{Strictness}
use Rattle.file_batch.specs.declared.strictness.Strictness.TheVariants.{Strict}
use Rattle.file_batch.specs.Words.{AreAsTheyWere, ArePlaced, Failing, HasOneNamed, IsAsItWas, IsBatchOf, IsBlockFileOf, IsNoneNamed, IsThere, Names, WriteFault, Written, all_messages}
use Rattle.file_devices.specs.declared.write_fault.WriteFault.TheVariants as write
use Rattle.file_devices.proofs.Placing.{none_of_two, one_of_two, placed_two}
use Rattle.issuer_words.specs.Words.{Frame, Rows}
use Rattle.app_jobs.specs.BlockFaults.{IsStrictBlocksFault}
use Rattle.app_jobs.specs.Decided.{Holding, IsAnswered, IsBookOf}
use Rattle.app_jobs.specs.Deciding.{DecidesFiles, PutsAnswer}
use Rattle.app_jobs.specs.Faults.{IsAnsweringFault, IsBookFault, IsOpeningFault, IsPuttingFault, IsStrictFault, IsWritingFault, MayBeRefused, MayNotBePut}
use Rattle.app_jobs.specs.JobFault.{fault_of_write}
use Rattle.app_jobs.proofs.Faults.{answering_more, putting_more, unput_file, writing_more}
use Rattle.app_jobs.specs.declared.job_fault.JobFault.{JobFault}
use Rattle.app_jobs.specs.declared.job_fault.JobFault.TheVariants.{Bodies}

-- files that nobody touches stay as they are
pub untouched : (old : Holding) → AreAsTheyWere old old
untouched old name = record { kept = λ bytes h. h; no_other = λ bytes h. h }

-- replies and the book after them, put in place one behind the other
pub answer_placed : {F O : Type 0} (is_known : F → Type 0) (holds : F → Holding) (is_known_output : O → Type 0) (written : O → List ℕ) (refused : Type 0)
    (old new : F) (names : Names) (a b : Written O) (replies new_book : O) (files : List (Written O)) → files ≡ a ∷ b ∷ []
    → string_bytes a.name ≡ names.replies → a.output ≡ replies → string_bytes b.name ≡ names.new_book → b.output ≡ new_book
    → (is_known old → ArePlaced is_known_output written (holds new) files) → (is_known old → is_known new)
    → ((other : List ℕ) → IsNoneNamed other files → IsAsItWas (holds old) (holds new) other)
    → PutsAnswer is_known holds refused old new names (is_known_output replies → holds new names.replies (written replies))
    (is_known_output new_book → holds new names.new_book (written new_book)) (Ok tt)
answer_placed is_known holds is_known_output written refused old new names a b replies new_book files are first replied second booked placed known others = record {
  replies = λ k apart out.
      let two = placed_two is_known_output written (holds new) a b (rw are at (placed k)) in
      let one = rw (first, replied, second) at two.0 in
      one out (λ same. apart (sym same));
  book = λ k out.
      let two = placed_two is_known_output written (holds new) a b (rw are at (placed k)) in
      let one = rw (second, booked) at two.1 in
      one out;
  kept = tt;
  fault = tt;
  others = λ other apart further. others other (rw are (none_of_two other a b (λ same. apart (sym same ∙ first)) (λ same. further (sym same ∙ second))));
  known = known;
}

-- replies and the book after them, which are not put in place
pub answer_unput : {F O : Type 0} (is_known : F → Type 0) (holds : F → Holding) (failing : Failing)
    (old new : F) (names : Names) (a b : Written O) (files : List (Written O)) (replied booked : Type 0) (e : WriteFault) → files ≡ a ∷ b ∷ []
    → string_bytes a.name ≡ names.replies → string_bytes b.name ≡ names.new_book
    → AreAsTheyWere (holds old) (holds new) → (e ≡ write.Unwritable → HasOneNamed failing.refused files) → (is_known old → is_known new)
    → PutsAnswer is_known holds (MayBeRefused failing names) old new names replied booked (Err (fault_of_write e))
answer_unput is_known holds failing old new names a b files replied booked e are first second kept refused known = record {
  replies = tt;
  book = tt;
  kept = kept;
  fault = unput_file (MayBeRefused failing names) e (λ is. rw (first, second) at (one_of_two failing.refused a b (rw are at (refused is))));
  others = λ other apart further. kept other;
  known = known;
}

-- the book has a fault
pub unopened : {F : Type 0} (is_known : F → Type 0) (holds : F → Holding) (failing : F → Failing) (strictness : Strictness) (old : F) (names : Names) (fault : JobFault)
    → IsBookFault (holds old) (failing old) names.book fault → DecidesFiles is_known holds failing strictness old old names (Err fault)
unopened is_known holds failing strictness old names fault h = record {
  decided = tt;
  admitted = tt;
  fault = inl h;
  kept = untouched (holds old);
  others = λ other replies book. untouched (holds old) other;
  known = λ k. k;
}

-- behind a book, the batch is not answered
pub unanswered : {F : Type 0} (is_known : F → Type 0) (holds : F → Holding) (failing : F → Failing) (strictness : Strictness) (old : F) (names : Names) (rows : Rows) (fault : JobFault)
    → IsBookOf (holds old) names.book rows → IsAnsweringFault (holds old) (failing old) names (MayNotBePut (failing old) names.new_book) fault
    → DecidesFiles is_known holds failing strictness old old names (Err fault)
unanswered is_known holds failing strictness old names rows fault opening h = record {
  decided = tt;
  admitted = tt;
  fault = inr ((rows, opening), inl (answering_more (holds old) (failing old) names _ _ fault (λ f. inl f) h));
  kept = untouched (holds old);
  others = λ other replies book. untouched (holds old) other;
  known = λ k. k;
}

-- the book or the batch has a fault
pub unread : {F : Type 0} (is_known : F → Type 0) (holds : F → Holding) (failing : F → Failing) (strictness : Strictness) (old : F) (names : Names) (fault : JobFault)
    → IsOpeningFault (holds old) (failing old) names fault → DecidesFiles is_known holds failing strictness old old names (Err fault)
unread is_known holds failing strictness old names fault (inl h) = unopened is_known holds failing strictness old names fault h
unread is_known holds failing strictness old names fault (inr (some, h)) =
    unanswered is_known holds failing strictness old names some.0 fault some.1 (inl (inl h))

-- behind a batch, what it comes to isn't written
pub answer_unwritten : (old : Holding) (failing : Failing) (names : Names) (frames : List Frame) (replies_may book_may may_fail : Type 0) (fault : JobFault)
    → ((bytes : List ℕ) → old names.batch bytes → IsBatchOf bytes frames) → (replies_may → failing.writing names.replies) → (book_may → may_fail)
    → IsWritingFault replies_may ⊥ fault ⊎ IsPuttingFault book_may fault → IsAnsweringFault old failing names may_fail fault
answer_unwritten old failing names frames replies_may book_may may_fail fault messages writing booking (inl w) =
    inl (inr (writing_more replies_may _ ⊥ _ fault writing (λ no. absurd no) w))
answer_unwritten old failing names frames replies_may book_may may_fail fault messages writing booking (inr b) =
    inr ((frames, messages), putting_more book_may may_fail fault booking b)

-- or the file for it isn't made
pub answer_unmade : (old : Holding) (failing : Failing) (names : Names) (frames : List Frame) (may_fail : Type 0) (e : WriteFault)
    → ((bytes : List ℕ) → old names.batch bytes → IsBatchOf bytes frames) → (e ≡ write.Unwritable → may_fail) → IsAnsweringFault old failing names may_fail (fault_of_write e)
answer_unmade old failing names frames may_fail e messages refused = inr ((frames, messages), unput_file may_fail e refused)

-- where a batch is strict, and some of its bodies are no message, it is refused
pub is_strict : (strictness : Strictness) (old : Holding) (batch : List ℕ) (frames : List Frame) (count : BodyCount) (fault : JobFault)
    → (strictness ≡ Strict) × (0 < count.unreadable) × (fault ≡ Bodies count.unreadable) → count ≡ count_of frames
    → ((bytes : List ℕ) → old batch bytes → IsBatchOf bytes frames) → IsStrictFault strictness old batch fault
is_strict strictness old batch frames count fault refused counted messages =
    rw (refused.0, refused.2) (refused.1, frames, ap (λ (c : BodyCount). c.unreadable) counted, messages)

-- so are blocks
pub are_strict : (strictness : Strictness) (old : Holding) (batch : List ℕ) (blocks : List (List Frame)) (count : BodyCount) (fault : JobFault)
    → (strictness ≡ Strict) × (0 < count.unreadable) × (fault ≡ Bodies count.unreadable) → count ≡ count_of (all_messages blocks)
    → ((bytes : List ℕ) → old batch bytes → IsBlockFileOf bytes blocks) → IsStrictBlocksFault strictness old batch fault
are_strict strictness old batch blocks count fault refused counted messages =
    rw (refused.0, refused.2) (refused.1, blocks, ap (λ (c : BodyCount). c.unreadable) counted, messages)

-- such a batch leaves all files as they are
pub refused : {F O : Type 0} (is_known : F → Type 0) (holds : F → Holding) (is_known_output : O → Type 0) (written : O → List ℕ) (failing : F → Failing) (strictness : Strictness)
    (old : F) (names : Names) (rows : Rows) (count : BodyCount) (replies new_book : O) (fault : JobFault)
    → IsBookOf (holds old) names.book rows → IsAnswered is_known_output written (is_known old) (holds old) names.batch rows count replies new_book
    → (strictness ≡ Strict) × (0 < count.unreadable) × (fault ≡ Bodies count.unreadable)
    → DecidesFiles is_known holds failing strictness old old names (Err fault)
refused is_known holds is_known_output written failing strictness old names rows count replies new_book fault opening answered why = record {
  decided = tt;
  admitted = tt;
  fault = inr ((rows, opening), inr (is_strict strictness (holds old) names.batch answered.frames count fault why answered.counted answered.messages));
  kept = untouched (holds old);
  others = λ other replies book. untouched (holds old) other;
  known = λ k. k;
}

-- what it comes to is not put in place
pub unput : {F O : Type 0} (is_known : F → Type 0) (holds : F → Holding) (is_known_output : O → Type 0) (written : O → List ℕ) (failing : F → Failing) (strictness : Strictness)
    (old new : F) (names : Names) (rows : Rows) (count : BodyCount) (replies new_book : O) (replied booked : Type 0) (fault : JobFault)
    → IsBookOf (holds old) names.book rows → IsAnswered is_known_output written (is_known old) (holds old) names.batch rows count replies new_book
    → PutsAnswer is_known holds (MayBeRefused (failing old) names) old new names replied booked (Err fault) → DecidesFiles is_known holds failing strictness old new names (Err fault)
unput is_known holds is_known_output written failing strictness old new names rows count replies new_book replied booked fault opening answered put = record {
  decided = tt;
  admitted = tt;
  fault = inr ((rows, opening), inl (inr ((answered.frames, answered.messages), putting_more _ _ fault (λ f. inr f) put.fault)));
  kept = put.kept;
  others = put.others;
  known = put.known;
}

-- what it comes to is put in place
pub put : {F O : Type 0} (is_known : F → Type 0) (holds : F → Holding) (is_known_output : O → Type 0) (written : O → List ℕ) (failing : F → Failing) (strictness : Strictness)
    (old new : F) (names : Names) (rows : Rows) (count : BodyCount) (replies new_book : O)
    → (is_known old → IsThere (holds old) names.book) → IsBookOf (holds old) names.book rows
    → IsAnswered is_known_output written (is_known old) (holds old) names.batch rows count replies new_book
    → PutsAnswer is_known holds (MayBeRefused (failing old) names) old new names (is_known_output replies → holds new names.replies (written replies))
    (is_known_output new_book → holds new names.new_book (written new_book)) (Ok tt)
    → Admits strictness count → DecidesFiles is_known holds failing strictness old new names (Ok count)
put is_known holds is_known_output written failing strictness old new names rows count replies new_book there opening answered placed admits = record {
  decided = record {
    rows = rows;
    frames = answered.frames;
    counted = answered.counted;
    book_there = there;
    batch_there = answered.batch_there;
    opening = opening;
    messages = answered.messages;
    back = answered.back;
    bodies = answered.bodies;
    after = λ k.
        let text = answered.booked k in
        rw (← text.1) (placed.book k text.0);
    answered = λ k apart.
        let text = answered.replied k in
        rw (← text.1) (placed.replies k apart text.0);
  };
  admitted = admits;
  fault = tt;
  kept = tt;
  others = placed.others;
  known = placed.known;
}
