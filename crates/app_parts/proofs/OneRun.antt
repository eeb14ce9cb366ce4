-- That parts which are put together are one run.
use Rattle.std.proofs.Common.{◌≡◌, ◌<◌, ◌≤◌, ◌+◌, ◌*◌, ℕ, zero, suc, List, [], ◌∷◌, ◌++◌, length, map, Result, Ok, Err, refl, sym, ap, ◌∙◌, subst, arith}
use Rattle.std.proofs.lemmas.List.{length-append}
use Rattle.std.proofs.lemmas.List.Elements.{All-from_recursion}
use Rattle.std.specs.List.{All, AllByRecursion, flat_map}
use Rattle.sha2.specs.Sha256.{sha256}
use Rattle.sha2.proofs.Facts256.{length-sha256}
use Rattle.byteorder.specs.Endian.{big_bytes}
use Rattle.book_laws.specs.Reading.{IsAnswer, reading}
use Rattle.book_laws.specs.Text.{book_text}
use Rattle.book_laws.specs.declared.text_fault.TextFault.{TextFault}
use Rattle.file_laws.proofs.ReadBack.{replies_alone}
use Rattle.file_batch.specs.Words.{Holding, IsReplyFileOf, replies_text}
use Rattle.issuer_laws.specs.Parts.{bodies}
use Rattle.issuer_words.specs.Words.{Frame, ReplyBody, Rows, replies_to, rows_after}
use Rattle.engine_parts.proofs.OrderLaws.{bodies_zip, parts_zip, zip_below}
use Rattle.parts_books.proofs.Arrival.{one_order}
use Rattle.parts_books.proofs.Whole.{the_whole}
use Rattle.parts_books.specs.PartBooks.{AreInArrivalOrder, each_from, each_part, joined_books, part_replies, part_rows_after, rest_rows}
use Rattle.app_parts_folder.proofs.Fronts.{behind_letters, behind_number, counted, long, numbered, same_plan}
use Rattle.app_parts_folder.specs.PlanTexts.{AreDigests, IsPlan, Plan, digests_text, listed_text, plan_text}
use Rattle.app_parts_folder.proofs.Parts.{length-each}
use Rattle.app_parts_folder.specs.Joining.{Answer, AreAnswersFrom, Names}
use Rattle.app_parts_folder.specs.Parting.{IsPlanned, Parting, batch_of_part, book_of_part, digests_of_part, parted, plan_of_parting, rest_of}
use Rattle.app_parts.specs.Run.{HoldsRun, JoinsOneRun}

-- ---- the plan

digests_from : (p : Parting) (from count : ℕ) → AllByRecursion AreDigests (each_from (digests_of_part p) from count)
digests_from p from zero = tt
digests_from p from (suc count) =
    ((length-sha256 (book_of_part p from), length-sha256 (batch_of_part p from)), digests_from p (suc from) count)

-- how long what a plan has behind its first number is
numbered_length : (plan : Plan) → length plan.rest ≡ 32 → All AreDigests plan.digests → length (numbered plan) ≡ 36 + (64 * length plan.digests + length plan.parts)
numbered_length plan rest digests =
    let four : length (big_bytes 4 (length plan.parts)) ≡ 4 = refl in
    omega (
      arith,
      four,
      rest,
      long plan.digests digests,
      length-append (big_bytes 4 (length plan.parts)) (plan.rest ++ listed_text plan.digests plan.parts),
      length-append plan.rest (listed_text plan.digests plan.parts),
      length-append (flat_map digests_text plan.digests) plan.parts,
    )

-- a text that has the bytes of a plan lists as few messages
few_messages : (one other : Plan) → IsPlan one → length other.rest ≡ 32 → All AreDigests other.digests → length other.digests ≤ 64 → plan_text one ≡ plan_text other
    → length other.parts ≤ 65536
few_messages one other is rest digests few e =
    let numbers = behind_number (length one.digests) (length other.digests) (counted one) (numbered one) (numbered other) (omega (arith, is.listed.few)) (omega (arith, few)) refl
    (behind_letters (plan_text one) (counted one) other refl e) in
    let same : length (numbered one) ≡ length (numbered other) = ap length numbers.1 in
    omega (arith, same, numbers.0, is.listed.fit, numbered_length one is.rest is.listed.digest, numbered_length other rest digests)

is_plan : (p : Parting) → IsPlanned p 64 → length p.parts ≤ 65536 → IsPlan (plan_of_parting p)
is_plan p planned fit =
    let count : length (each_part (digests_of_part p) p.count) ≡ p.count = length-each (digests_of_part p) p.count in
    record {
      rest = length-sha256 (rest_of p);
      listed = record {
        each = refl;
        all = refl;
        some = subst (λ (n : ℕ). 0 < n) (sym count) planned.some;
        few = subst (λ (n : ℕ). n ≤ 64) (sym count) planned.few;
        fit = fit;
        below = All-from_recursion (λ part. part < length (each_part (digests_of_part p) p.count)) p.parts (subst (λ (n : ℕ). AllByRecursion (λ part. part < n) p.parts) (sym count) planned.below);
        digest = All-from_recursion AreDigests (each_part (digests_of_part p) p.count) (digests_from p 0 p.count);
      };
    }

-- a plan with these bytes is this one
the_plan : (p : Parting) → IsPlanned p 64 → (plan : Plan) → IsPlan plan → plan_text plan ≡ plan_text (plan_of_parting p) → plan ≡ plan_of_parting p
the_plan p planned plan is e =
    let count : length (each_part (digests_of_part p) p.count) ≡ p.count = length-each (digests_of_part p) p.count in
    let few = few_messages plan (plan_of_parting p) is (length-sha256 (rest_of p))
    (All-from_recursion AreDigests (each_part (digests_of_part p) p.count) (digests_from p 0 p.count)) (subst (λ (n : ℕ). n ≤ 64) (sym count) planned.few) e in
    same_plan plan (plan_of_parting p) is (is_plan p planned few) e

-- ---- the answers

same_ok : (rows other : Rows) → (let r : Result Rows TextFault = Ok rows in r) ≡ Ok other → rows ≡ other
same_ok rows other e = ap got e
  where
    got : Result Rows TextFault → Rows
    got (Ok b) = b
    got (Err fault) = rows

the_book : (bytes text : List ℕ) (rows other : Rows) → bytes ≡ text → IsAnswer (reading bytes) (Ok rows) → reading text ≡ Ok other → rows ≡ other
the_book bytes text rows other e answer is =
    same_ok rows other (sym answer.0 ∙ ap reading e ∙ is)

module _ (known : Type 0) (holds : Holding) (folder : List ℕ) (most : ℕ) (p : Parting) (h : HoldsRun holds folder most p) where
  -- what the parts answer, from one number on
  the_answers : (plan : List ℕ) (answers : List Answer) (from : ℕ) → from + length answers ≤ p.count → AreAnswersFrom known holds folder plan from answers
      → (map (λ (a : Answer). a.replies) answers ≡ each_from (part_replies p.rows (parted p)) from (length answers))
      × (map (λ (a : Answer). a.rows) answers ≡ each_from (part_rows_after p.rows (parted p)) from (length answers))
  the_answers plan [] from fits are = (refl, refl)
  the_answers plan (a ∷ answers) from fits are =
      let lt : from < p.count = omega (arith, fits) in
      let own = are.0 in
      let replies : a.replies ≡ part_replies p.rows (parted p) from =
      replies_alone (part_replies p.rows (parted p) from) a.replies (h.bodies from lt)
      (subst (λ (bytes : List ℕ). IsReplyFileOf bytes a.replies) (own.replies_held.only (replies_text (part_replies p.rows (parted p) from)) (h.replies from lt)) own.are) in
      let rows : a.rows ≡ part_rows_after p.rows (parted p) from =
      the_book a.book_bytes (book_text (part_rows_after p.rows (parted p) from)) a.rows (part_rows_after p.rows (parted p) from)
      (own.book_held.only (book_text (part_rows_after p.rows (parted p) from)) (h.book from lt)) own.opening (h.book_back from lt) in
      let rest = the_answers plan answers (suc from) (omega (arith, fits)) are.1 in
      (rw (replies, rest.0) refl, rw (rows, rest.1) refl)

-- ---- all of them

pub one_run : (known : Type 0) (old new : Holding) (names : Names) (p : Parting) → JoinsOneRun known old new names p
one_run known old new names p h count joined =
    let folder = joined.folder in
    let plan : joined.plan ≡ plan_of_parting p = the_plan p h.planned joined.plan folder.is_plan (folder.plan_held.only (plan_text (plan_of_parting p)) h.plan) in
    let parts : joined.plan.parts ≡ p.parts = ap (λ (plan : Plan). plan.parts) plan in
    let many : length joined.answers ≡ p.count = folder.each ∙ ap (λ (plan : Plan). length plan.digests) plan ∙ length-each (digests_of_part p) p.count in
    let answers = the_answers known old names.folder 64 p h (sha256 (plan_text joined.plan)) joined.answers 0 (omega (arith, many)) folder.are in
    let whole = the_whole p.rows (parted p) p.count h.planned.apart (zip_below p.count p.parts p.frames h.planned.below) in
    let all : bodies (parted p) ≡ p.frames = bodies_zip p.parts p.frames h.planned.each in
    let numbers : map (λ (m : ℕ × Frame). m.0) (parted p) ≡ p.parts = parts_zip p.parts p.frames h.planned.each in
    let lists : map (λ (a : Answer). a.replies) joined.answers ≡ each_part (part_replies p.rows (parted p)) p.count =
    answers.0 ∙ ap (each_part (part_replies p.rows (parted p))) many in
    let books : map (λ (a : Answer). a.rows) joined.answers ≡ each_part (part_rows_after p.rows (parted p)) p.count =
    answers.1 ∙ ap (each_part (part_rows_after p.rows (parted p))) many in
    let rest : joined.rest ≡ rest_rows p.rows (bodies (parted p)) =
    the_book folder.book (rest_of p) joined.rest (rest_rows p.rows p.frames) (folder.rest_held.only (rest_of p) h.rest) folder.opening h.back.rest ∙ ap (rest_rows p.rows) (sym all) in
    let order : AreInArrivalOrder (map (λ (m : ℕ × Frame). m.0) (parted p)) (each_part (part_replies p.rows (parted p)) p.count) joined.replies =
    subst (λ (ls : List (List ReplyBody)). AreInArrivalOrder (map (λ (m : ℕ × Frame). m.0) (parted p)) ls joined.replies) lists
    (subst (λ (ps : List ℕ). AreInArrivalOrder ps (map (λ (a : Answer). a.replies) joined.answers) joined.replies) (parts ∙ sym numbers) joined.order) in
    record {
      replies_are =
          one_order (map (λ (m : ℕ × Frame). m.0) (parted p)) (each_part (part_replies p.rows (parted p)) p.count) joined.replies (replies_to p.rows (bodies (parted p))) order whole.replies
          ∙ ap (replies_to p.rows) all;
      book_is =
          ap (λ (r : Rows). joined_books r (map (λ (a : Answer). a.rows) joined.answers)) rest
          ∙ ap (joined_books (rest_rows p.rows (bodies (parted p)))) books
          ∙ whole.book
          ∙ ap (rows_after p.rows) all;
    }
