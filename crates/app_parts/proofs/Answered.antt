-- Answers of parts, as the files of a folder hold them.
use Rattle.std.proofs.Common.{◌≡◌, inl, inr, ℕ, suc, ◌+◌, List, [], ◌∷◌, ◌++◌, length, map, Ok, Err, Vec, Global, refl, sym, ap, subst, ◌∙◌, arith}
use Rattle.std.proofs.lemmas.List.{length-append, map-append}
use Rattle.std.specs.Prelude.{IsTrue}
use Rattle.sha2.specs.Sha256.{sha256}
use Rattle.book_laws.specs.Reading.{IsAnswer, reading}
use Rattle.file_batch.specs.Words.{Failing, FailsAsReplies, Holding, IsReplyFileOf, is_of_bytes}
use Rattle.issuer_rows.specs.declared.reply_body.ReplyBody.{ReplyBody}
use Rattle.app_jobs.specs.declared.job_fault.JobFault.{JobFault}
use Rattle.app_jobs.specs.declared.job_fault.JobFault.TheVariants as job
use Rattle.app_parts_folder.specs.PlanTexts.{decided_text}
use Rattle.app_parts.specs.Answers.{HaveAnswers, IsNoAnswer, IsPartAnswer}
use Rattle.app_parts_folder.specs.Faults.{IsFaultOfPart}
use Rattle.app_parts_folder.specs.Joining.{Answer, AreAnswersFrom, IsAnswerOf}
use Rattle.app_parts_folder.specs.Names.{part_name}
use Rattle.app_parts_folder.specs.Opening.{IsPartFileFault}
use Rattle.app_parts_folder.specs.Reading.{IsAnswerBytesFault}
use Rattle.app_parts_folder.specs.Texts.{IsHeld}
use Rattle.app_parts.specs.declared.answers.Answers.{Answers}
use Rattle.app_parts.specs.declared.answers.PartAnswer.{PartAnswer}
use Rattle.app_parts_folder.specs.declared.part_fault.PartFault.TheVariants as part
use Rattle.app_parts_folder.specs.declared.part_file.PartFile.{PartFile}
use Rattle.app_parts_folder.specs.declared.part_file.PartFile.TheVariants.{Replies, NewBook, Decided}
use Rattle.app_parts_folder.specs.declared.parts_fault.PartsFault.{PartsFault}
use Rattle.app_parts_folder.specs.declared.parts_fault.PartsFault.TheVariants as fault

-- ---- why a part has no answer

-- one of its files isn't opened
pub unopened : (holds : Holding) (failing : Failing) (folder plan : List ℕ) (number : ℕ) (file : PartFile) (e : PartsFault)
    → IsPartFileFault holds failing (part_name folder number file) number e → IsNoAnswer holds failing folder plan e
unopened holds failing folder plan number file (fault.Job why) h = inl h
unopened holds failing folder plan number file (fault.Part k part.Unreadable) h =
    (file, λ bytes held. subst (λ (n : ℕ). failing.reading (part_name folder n file)) (sym h.0) (h.1 bytes (subst (λ (n : ℕ). holds (part_name folder n file) bytes) h.0 held)))
unopened holds failing folder plan number file (fault.Part k _) h = absurd h
unopened holds failing folder plan number file _ h = absurd h

-- what they hold isn't read
pub unread : (known : Type 0) (holds : Holding) (failing : Failing) (folder : List ℕ) (number : ℕ) (replies book : List ℕ) (e : JobFault)
    → IsHeld known holds (part_name folder number Replies) replies → IsHeld known holds (part_name folder number NewBook) book
    → IsAnswerBytesFault replies book e → IsFaultOfPart holds failing folder e
unread known holds failing folder number replies book (job.Batch why) of_replies of_book h =
    (number, inl ((λ bytes held. subst (λ (own : List ℕ). IsTrue (is_of_bytes why) → FailsAsReplies own why) (of_replies.only bytes held) h.0), h.1))
unread known holds failing folder number replies book (job.Book why) of_replies of_book h =
    (number, inr (λ bytes held. subst (λ (own : List ℕ). IsAnswer (reading own) (Err why)) (of_book.only bytes held) h))
unread known holds failing folder number replies book _ of_replies of_book h = absurd h

-- ---- one part behind others

one_behind : (known : Type 0) (holds : Holding) (folder plan : List ℕ) (from : ℕ) (answers : List Answer) (answer : Answer)
    → AreAnswersFrom known holds folder plan from answers → IsAnswerOf known holds folder plan (from + length answers) answer
    → AreAnswersFrom known holds folder plan from (answers ++ answer ∷ [])
one_behind known holds folder plan from [] answer are is =
    let same : from + 0 ≡ from = omega arith in
    (subst (λ (n : ℕ). IsAnswerOf known holds folder plan n answer) same is, tt)
one_behind known holds folder plan from (first ∷ answers) answer are is =
    let same : from + suc (length answers) ≡ suc from + length answers = omega arith in
    (are.0, one_behind known holds folder plan (suc from) answers answer are.1 (subst (λ (n : ℕ). IsAnswerOf known holds folder plan n answer) same is))

-- the answers of the first parts, and that of the next one
pub answers_more : (known : Type 0) (holds : Holding) (folder plan : List ℕ) (number : ℕ) (answers : List Answer) (answer : Answer)
    → length answers ≡ number → AreAnswersFrom known holds folder plan 0 answers → IsAnswerOf known holds folder plan number answer
    → AreAnswersFrom known holds folder plan 0 (answers ++ answer ∷ [])
answers_more known holds folder plan number answers answer many are is =
    let same : number ≡ 0 + length answers = omega (arith, many) in
    one_behind known holds folder plan 0 answers answer are (subst (λ (n : ℕ). IsAnswerOf known holds folder plan n answer) same is)

-- ---- the answer of a part

-- what three files of it held, where the last one speaks of both others
pub answer_of : (known : Type 0) (holds : Holding) (folder plan : List ℕ) (number : ℕ) (replies book decided : List ℕ) (own : PartAnswer)
    → IsHeld known holds (part_name folder number Replies) replies → IsHeld known holds (part_name folder number NewBook) book
    → IsHeld known holds (part_name folder number Decided) decided → decided ≡ decided_text number plan (sha256 replies) (sha256 book)
    → IsReplyFileOf replies own.replies.items → IsAnswer (reading book) (Ok own.book) → IsPartAnswer known holds folder plan number own
answer_of known holds folder plan number replies book decided own of_replies of_book of_decided is are opening = (
  record { replies_bytes = replies; replies = own.replies.items; book_bytes = book; rows = own.book },
  record {
    replies_held = of_replies;
    are = are;
    book_held = of_book;
    opening = opening;
    decided = subst (λ (bytes : List ℕ). IsHeld known holds (part_name folder number Decided) bytes) is of_decided;
  },
  refl,
  refl,
)

-- ---- the answers of the first parts

-- none, before the first one
pub none_yet : (known : Type 0) (holds : Holding) (folder plan : List ℕ) (own : Answers) → own.replies.items ≡ [] → own.books.items ≡ []
    → (answers : List Answer) × (length answers ≡ 0) × HaveAnswers known holds folder plan own answers
none_yet known holds folder plan own no_replies no_books =
    ([], refl, record { are = tt; replies = ap (map (λ list. list.items)) no_replies; books = no_books })

-- one more
pub have_more : (known : Type 0) (holds : Holding) (folder plan : List ℕ) (number : ℕ) (own more : Answers) (one : PartAnswer)
    → (answers : List Answer) × (length answers ≡ number) × HaveAnswers known holds folder plan own answers
    → IsPartAnswer known holds folder plan number one
    → more.replies.items ≡ own.replies.items ++ one.replies ∷ [] → more.books.items ≡ own.books.items ++ one.book ∷ []
    → (answers : List Answer) × (length answers ≡ number + 1) × HaveAnswers known holds folder plan more answers
have_more known holds folder plan number own more one before is more_replies more_books =
    let answers = before.0 in
    let have = before.2 in
    let answer = is.0 in
    let long = length-append answers (answer ∷ []) in (
      answers ++ answer ∷ [],
      omega (arith, long, before.1),
      record {
        are = answers_more known holds folder plan number answers answer before.1 have.are is.1;
        replies = ap (map (λ list. list.items)) more_replies ∙ map-append (λ (list : Vec ReplyBody Global). list.items) own.replies.items (one.replies ∷ [])
            ∙ (λ i. have.replies i ++ is.2 i ∷ []) ∙ sym (map-append (λ (a : Answer). a.replies) answers (answer ∷ []));
        books = more_books ∙ (λ i. have.books i ++ is.3 i ∷ []) ∙ sym (map-append (λ (a : Answer). a.rows) answers (answer ∷ []));
      },
    )
