-- Parts that are put together, and why they aren't.
use Rattle.std.proofs.Common.{◌≡◌, ◌≢◌, inl, inr, ℕ, suc, List, [], ◌∷◌, ◌++◌, length, map, Ok, refl, sym, ap, subst, ◌∙◌, arith}
use Rattle.std.specs.List.{AllByRecursion}
use Rattle.sha2.specs.Sha256.{sha256}
use Rattle.book_laws.specs.Reading.{reading}
use Rattle.book_laws.specs.Text.{book_text}
use Rattle.file_laws.proofs.ReadBack.{same_replies, texts_of}
use Rattle.file_batch.specs.Words.{AreRepliesOf, AreReplyBodies, Failing, Holding, IsReplyBody, IsReplyFileOf, IsReplyText, reply_text}
use Rattle.issuer_words.specs.Words.{ReplyBody, Rows}
use Rattle.issuer_rows.specs.declared.reply_body.ReplyBody.TheVariants.{Reply, Fault}
use Rattle.app_jobs.specs.declared.job_fault.JobFault.{JobFault}
use Rattle.app_jobs.specs.declared.job_fault.JobFault.TheVariants.{OutOfMemory}
use Rattle.parts_books.specs.PartBooks.{AreInArrivalOrder, joined_books}
use Rattle.app_parts_folder.proofs.Fronts.{same_plan}
use Rattle.app_parts_folder.specs.PlanTexts.{Plan, decided_head, decided_text, plan_of, plan_text}
use Rattle.app_parts_folder.proofs.NamesApart.{put_fault}
use Rattle.app_parts.specs.Answers.{HaveAnswers, IsNoAnswer, IsNoOrder, IsPartFault, IsRest, IsRestFault}
use Rattle.app_parts_folder.specs.Apart.{IsNameFault, IsPairFault}
use Rattle.app_parts_folder.specs.Faults.{HasNoOrder, HasPlan, IsAnsweringFault, IsJoiningFault, IsOfJoined, IsOverFolder, IsOverParts}
use Rattle.app_parts_folder.specs.Joining.{Answer, AreAnswersFrom, IsJoined, Names, joined_texts}
use Rattle.app_parts_folder.specs.Opening.{IsNoMemory, IsOpenPlan, IsPlanFault}
use Rattle.app_parts_folder.specs.Texts.{AreDistinct, AreHeld, IsPutFault, IsReadingFault, Text}
use Rattle.app_parts.specs.declared.answers.Answers.{Answers}
use Rattle.app_parts_folder.specs.declared.part_fault.PartFault.{PartFault}
use Rattle.app_parts_folder.specs.declared.part_fault.PartFault.TheVariants as why
use Rattle.app_parts_folder.specs.declared.parts_fault.PartsFault.{PartsFault}
use Rattle.app_parts_folder.specs.declared.parts_fault.PartsFault.TheVariants as fault
use Rattle.app_parts_folder.specs.declared.plan_opening.OpenPlan.{OpenPlan}
use Rattle.file_laws.proofs.Steps.{ok_injective}

-- ---- bytes have one meaning

one_text : (body : List ℕ) (r : ReplyBody) → IsReplyText body r → (body ≡ reply_text r) × IsReplyBody r
one_text body (Reply r) is = (is.1, is.0)
one_text body (Fault f) is = (is.2, (is.0, is.1))

all_texts : (bodies : List (List ℕ)) (replies : List ReplyBody) → AreRepliesOf bodies replies → (bodies ≡ texts_of replies) × AllByRecursion IsReplyBody replies
all_texts [] [] are = (refl, tt)
all_texts [] (r ∷ replies) are = absurd are
all_texts (body ∷ bodies) [] are = absurd are
all_texts (body ∷ bodies) (r ∷ replies) are =
    let first = one_text body r are.0 in
    let rest = all_texts bodies replies are.1 in
    ((λ i. first.0 i ∷ rest.0 i), (first.1, rest.1))

-- a reply file has the replies of one list
pub one_file : (bytes : List ℕ) (replies others : List ReplyBody) → IsReplyFileOf bytes replies → IsReplyFileOf bytes others → others ≡ replies
one_file bytes replies others one other =
    let same : other.0 ≡ one.0 = ok_injective other.0 one.0 (sym other.1 ∙ one.1) in
    let all = all_texts one.0 replies one.2 in
    same_replies replies others all.1 (subst (λ (bodies : List (List ℕ)). AreRepliesOf bodies others) (same ∙ all.0) other.2)

-- answers of the same files have the same replies
same_answers : (known : Type 0) (holds : Holding) (folder plan : List ℕ) (number : ℕ) (ours theirs : List Answer) → length ours ≡ length theirs
    → AreAnswersFrom known holds folder plan number ours → AreAnswersFrom (Unit {0}) holds folder plan number theirs
    → map (λ answer. answer.replies) theirs ≡ map (λ answer. answer.replies) ours
same_answers known holds folder plan number [] [] many are others = refl
same_answers known holds folder plan number [] (t ∷ theirs) many are others = absurd (omega (arith, many))
same_answers known holds folder plan number (o ∷ ours) [] many are others = absurd (omega (arith, many))
same_answers known holds folder plan number (o ∷ ours) (t ∷ theirs) many are others =
    let bytes : o.replies_bytes ≡ t.replies_bytes = are.0.replies_held.only t.replies_bytes (others.0.replies_held.there tt) in
    let first : t.replies ≡ o.replies =
    one_file o.replies_bytes o.replies t.replies are.0.are (subst (λ (own : List ℕ). IsReplyFileOf own t.replies) (sym bytes) others.0.are) in
    let rest = same_answers known holds folder plan (suc number) ours theirs (omega (arith, many)) are.1 others.1 in
    (λ i. first i ∷ rest i)

-- the plan that was opened is that of the folder
pub one_plan : (known : Type 0) (holds : Holding) (folder : List ℕ) (opened : OpenPlan) (plan : Plan) → IsOpenPlan known holds folder opened → HasPlan holds folder plan
    → plan_of opened.plan ≡ plan
one_plan known holds folder opened plan is_open has = same_plan (plan_of opened.plan) plan is_open.is_plan has.0 (is_open.plan_held.only (plan_text plan) has.1)

-- and so is its digest
pub one_digest : (known : Type 0) (holds : Holding) (folder : List ℕ) (opened : OpenPlan) (plan : Plan) → IsOpenPlan known holds folder opened → HasPlan holds folder plan
    → sha256 (plan_text plan) ≡ opened.digest
one_digest known holds folder opened plan is_open has = ap sha256 (sym (is_open.plan_held.only (plan_text plan) has.1)) ∙ sym is_open.digest

-- ---- why parts aren't put together

no_memory : (holds : Holding) (failing : Failing) (name : List ℕ) (job : JobFault) → IsNoMemory job → IsReadingFault holds failing name job
no_memory holds failing name OutOfMemory h = tt
no_memory holds failing name _ h = absurd h

-- both names are one
pub one_name : (known : Type 0) (holds : Holding) (failing : Failing) (names : Names) (e : PartsFault) → IsPairFault known names.replies names.new_book e
    → IsJoiningFault known holds failing names e
one_name known holds failing names (fault.OneFile first second) h = λ k. inl (h k)
one_name known holds failing names (fault.Job job) h = inl (no_memory holds failing _ job h)
one_name known holds failing names _ h = absurd h

-- one of both is a file of the folder, which has as many parts as its plan
pub over_folder : (known : Type 0) (holds : Holding) (failing : Failing) (names : Names) (opened : OpenPlan) (count : ℕ) (e : PartsFault)
    → IsOpenPlan known holds names.folder opened → count ≡ length opened.plan.digests.items → IsNameFault known (IsOverParts names count) e
    → IsJoiningFault known holds failing names e
over_folder known holds failing names opened count (fault.OneFile first second) is_open counted h =
    λ k. inr (plan_of opened.plan, (is_open.is_plan, is_open.plan_held.there k), subst (λ (n : ℕ). IsOverParts names n) counted (h k))
over_folder known holds failing names opened count (fault.Job job) is_open counted h = inl (no_memory holds failing _ job h)
over_folder known holds failing names opened count _ is_open counted h = absurd h

-- neither is
pub not_over_folder : (known : Type 0) (holds : Holding) (names : Names) (opened : OpenPlan) (count : ℕ) → IsOpenPlan known holds names.folder opened
    → count ≡ length opened.plan.digests.items → ¬ IsOverParts names count → ¬ IsOverFolder holds names
not_over_folder known holds names opened count is_open counted none = λ over.
    let same : count ≡ length over.0.digests = counted ∙ ap (λ (p : Plan). length p.digests) (one_plan known holds names.folder opened over.0 is_open over.1) in
    none (subst (λ (n : ℕ). IsOverParts names n) (sym same) over.2)

-- there is no plan
pub no_plan : (known : Type 0) (holds : Holding) (failing : Failing) (names : Names) (e : PartsFault) → IsPlanFault holds failing names.folder e
    → IsJoiningFault known holds failing names e
no_plan known holds failing names (fault.Job job) h = inl h
no_plan known holds failing names fault.NoPlan h = h
no_plan known holds failing names _ h = absurd h

-- the rest isn't opened
pub no_rest : (known : Type 0) (holds : Holding) (failing : Failing) (names : Names) (opened : OpenPlan) (e : PartsFault) → IsOpenPlan known holds names.folder opened
    → IsRestFault holds failing names.folder opened.plan.rest e → IsJoiningFault known holds failing names e
no_rest known holds failing names opened (fault.Job job) is_open h = inr (inl h)
no_rest known holds failing names opened fault.OtherRest is_open h =
    λ plan rest has held is. h rest held (is ∙ ap (λ (p : Plan). p.rest) (sym (one_plan known holds names.folder opened plan is_open has)))
no_rest known holds failing names opened _ is_open h = absurd h

part_fault : (known : Type 0) (holds : Holding) (failing : Failing) (folder : List ℕ) (opened : OpenPlan) (number : ℕ) (e : PartFault) → IsOpenPlan known holds folder opened
    → IsPartFault holds failing folder opened.digest number e → IsAnsweringFault holds failing folder number e
part_fault known holds failing folder opened number why.Unreadable is_open h = h
part_fault known holds failing folder opened number why.OtherPlan is_open h =
    λ plan bytes behind has held is.
    h bytes behind held (is ∙ ap (λ (digest : List ℕ). decided_head number digest ++ behind) (one_digest known holds folder opened plan is_open has))
part_fault known holds failing folder opened number why.OtherFiles is_open h =
    λ plan bytes replies book has held of_replies of_book is.
    h bytes replies book held of_replies of_book
    (is ∙ ap (λ (digest : List ℕ). decided_text number digest (sha256 replies) (sha256 book)) (one_digest known holds folder opened plan is_open has))
part_fault known holds failing folder opened number _ is_open h = absurd h

-- a part has no answer
pub no_answer : (known : Type 0) (holds : Holding) (failing : Failing) (names : Names) (opened : OpenPlan) (e : PartsFault) → IsOpenPlan known holds names.folder opened
    → IsNoAnswer holds failing names.folder opened.digest e → IsJoiningFault known holds failing names e
no_answer known holds failing names opened (fault.Job job) is_open (inl h) = inl (no_memory holds failing _ job h)
no_answer known holds failing names opened (fault.Job job) is_open (inr h) = inr (inr (inl h))
no_answer known holds failing names opened (fault.Part number why) is_open h = part_fault known holds failing names.folder opened number why is_open h
no_answer known holds failing names opened _ is_open h = absurd h

none_in_order : (known : Type 0) (holds : Holding) (name : List ℕ) (opened : OpenPlan) (answers : List Answer) → IsOpenPlan known holds name opened
    → length answers ≡ length opened.plan.digests.items → AreAnswersFrom known holds name opened.digest 0 answers
    → ((all : List ReplyBody) → ¬ AreInArrivalOrder opened.plan.parts.items (map (λ answer. answer.replies) answers) all) → HasNoOrder holds name
none_in_order known holds name opened answers is_open many are none = λ plan rest theirs folder replies order.
    let has : HasPlan holds name plan = (folder.is_plan, folder.plan_held.there tt) in
    let same = one_plan known holds name opened plan is_open has in
    let digest = one_digest known holds name opened plan is_open has in
    let count : length answers ≡ length theirs = many ∙ ap (λ (p : Plan). length p.digests) same ∙ sym folder.each in
    let lists = same_answers known holds name opened.digest 0 answers theirs count are
    (subst (λ (d : List ℕ). AreAnswersFrom (Unit {0}) holds name d 0 theirs) digest folder.are) in
    none replies
    (subst (λ (own : List (List ReplyBody)). AreInArrivalOrder opened.plan.parts.items own replies) lists
    (subst (λ (parts : List ℕ). AreInArrivalOrder parts (map (λ answer. answer.replies) theirs) replies) (ap (λ (p : Plan). p.parts) (sym same)) order))

-- the answers of as many parts as the plan has
abbrev pub AreOpened : Type 0 → Holding → List ℕ → OpenPlan → Answers → Type 0
AreOpened known holds folder opened own =
    (answers : List Answer) × (length answers ≡ length opened.plan.digests.items) × HaveAnswers known holds folder opened.digest own answers

-- replies are put in no order
pub no_order : (known : Type 0) (holds : Holding) (failing : Failing) (names : Names) (opened : OpenPlan) (own : Answers) (e : PartsFault)
    → IsOpenPlan known holds names.folder opened → AreOpened known holds names.folder opened own
    → IsNoOrder opened.plan.parts.items (map (λ list. list.items) own.replies.items) e → IsJoiningFault known holds failing names e
no_order known holds failing names opened own (fault.Job job) is_open answers h = inl (no_memory holds failing _ job h)
no_order known holds failing names opened own fault.Replies is_open answers h =
    none_in_order known holds names.folder opened answers.0 is_open answers.1 answers.2.are
    (λ all order. h all (subst (λ (lists : List (List ReplyBody)). AreInArrivalOrder opened.plan.parts.items lists all) (sym answers.2.replies) order))
no_order known holds failing names opened own _ is_open answers h = absurd h

all_joined : (names : Names) (replies : List ReplyBody) (rows : Rows) → AllByRecursion (λ text. IsOfJoined names text.name) (joined_texts names replies rows)
all_joined names replies rows = (inl refl, (inr refl, tt))

-- what they come to isn't written
pub not_put : (known : Type 0) (holds : Holding) (failing : Failing) (names : Names) (replies : List ReplyBody) (rows : Rows) (texts : List Text) (job : JobFault)
    → texts ≡ joined_texts names replies rows → IsPutFault failing texts job → IsJoiningFault known holds failing names (fault.Job job)
not_put known holds failing names replies rows texts job are h =
    inr (inr (inr (put_fault failing (IsOfJoined names) (joined_texts names replies rows) job (all_joined names replies rows)
    (subst (λ (all : List Text). IsPutFault failing all job) are h))))

-- ---- parts are put together

-- the replies and the book have two names, and are in their files
pub both_written : (known : Type 0) (new : Holding) (names : Names) (replies : List ReplyBody) (rows : Rows) (texts : List Text) → texts ≡ joined_texts names replies rows
    → (known → names.replies ≢ names.new_book) → (known → AreDistinct texts → AreHeld new texts) → known → AreHeld new (joined_texts names replies rows)
both_written known new names replies rows texts are apart held k =
    let distinct : AreDistinct (joined_texts names replies rows) = (((λ e. apart k (sym e)), tt), (tt, tt)) in
    subst (λ (all : List Text). AreHeld new all) are (held k (subst (λ (all : List Text). AreDistinct all) (sym are) distinct))

pub joined : (known : Type 0) (old new : Holding) (names : Names) (opened : OpenPlan) (rest : Rows) (own : Answers) (replies : List ReplyBody) (book : Rows) (count : ℕ)
    → IsOpenPlan known old names.folder opened → IsRest known old names.folder opened.plan.rest rest → AreOpened known old names.folder opened own
    → AreInArrivalOrder opened.plan.parts.items (map (λ list. list.items) own.replies.items) replies → count ≡ length replies → book ≡ joined_books rest own.books.items
    → AreReplyBodies replies → reading (book_text book) ≡ Ok book → (known → AreHeld new (joined_texts names replies book))
    → IsJoined known old new names count
joined known old new names opened rest own replies book count is_open of_rest of_answers order counted is bodies back written =
    let answers = of_answers.0 in
    let have = of_answers.2 in
    let whole : book ≡ joined_books rest (map (λ answer. answer.rows) answers) = is ∙ ap (joined_books rest) have.books in
    record {
      plan = plan_of opened.plan;
      rest = rest;
      answers = answers;
      folder = record {
        is_plan = is_open.is_plan;
        plan_held = is_open.plan_held;
        book = of_rest.book;
        rest_held = of_rest.rest_held;
        of_rest = of_rest.of_rest;
        opening = of_rest.opening;
        each = of_answers.1;
        are = subst (λ (digest : List ℕ). AreAnswersFrom known old names.folder digest 0 answers) is_open.digest have.are;
      };
      replies = replies;
      order = subst (λ (lists : List (List ReplyBody)). AreInArrivalOrder opened.plan.parts.items lists replies) have.replies order;
      counted = counted;
      bodies = bodies;
      back = subst (λ (rows : Rows). reading (book_text rows) ≡ Ok rows) whole back;
      written = λ k. subst (λ (rows : Rows). AreHeld new (joined_texts names replies rows)) whole (written k);
    }
