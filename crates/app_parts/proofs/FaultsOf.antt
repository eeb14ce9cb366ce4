-- Why a batch isn't put in parts and a part isn't decided, by why a step of these fails.
use Rattle.std.proofs.Common.{◌≡◌, ◌≤◌, inl, inr, ℕ, List, Err, Some, None, Option, length, slice_get, refl, sym, ap, subst, ◌∙◌}
use Rattle.std.specs.List.{AllByRecursion}
use Rattle.book_laws.specs.Reading.{IsAnswer, reading}
use Rattle.book_laws.specs.declared.json_fault.JsonFault.{JsonFault}
use Rattle.file_batch.specs.Words.{Failing, Holding, batch_magic, bodies_of}
use Rattle.app_jobs.specs.Faults.{IsBatchFault, IsBookFault}
use Rattle.app_jobs.specs.declared.job_fault.JobFault.{JobFault}
use Rattle.app_jobs.specs.declared.job_fault.JobFault.TheVariants as job
use Rattle.app_parts_folder.proofs.Fronts.{same_plan}
use Rattle.app_parts_folder.specs.PlanTexts.{Plan, plan_of, plan_text}
use Rattle.app_parts_folder.specs.declared.part_digests.PartDigests.{PartDigests}
use Rattle.app_parts_folder.proofs.NamesApart.{all_of_decided, all_of_folder, put_fault}
use Rattle.app_parts_folder.specs.Apart.{IsNameFault, IsOneFileFault}
use Rattle.app_parts_folder.specs.Deciding.{IsDecidedFaultOf, made_texts}
use Rattle.app_parts_folder.specs.Faults.{HasPlan, IsDecidingFault, IsOfOtherBatch, IsOfOtherBook, IsPartingFault}
use Rattle.app_parts_folder.specs.Names.{IsOfDecided, IsOfFolder, IsOverRead, part_name}
use Rattle.app_parts_folder.specs.Opening.{IsOpenPlan, IsPlanFault, IsPlannedFileFault}
use Rattle.app_parts_folder.specs.Parting.{Names, Parting, folder_texts}
use Rattle.app_parts_folder.specs.Planning.{IsBatchFaultOf}
use Rattle.app_parts_folder.specs.Texts.{IsHeld, IsPutFault, IsReadingFault, Text}
use Rattle.app_parts_folder.specs.declared.part_fault.PartFault.TheVariants as part
use Rattle.app_parts_folder.specs.declared.part_file.PartFile.TheVariants.{Book, Batch}
use Rattle.app_parts_folder.specs.declared.parts_fault.PartsFault.{PartsFault}
use Rattle.app_parts_folder.specs.declared.parts_fault.PartsFault.TheVariants as fault
use Rattle.app_parts_folder.specs.declared.plan_opening.OpenPlan.{OpenPlan}

-- ---- what was read

-- a file that isn't read gives no book, and no batch
pub unread_book : (holds : Holding) (failing : Failing) (name : List ℕ) (why : JobFault) → IsReadingFault holds failing name why → IsBookFault holds failing name why
unread_book holds failing name job.Unreadable h = h
unread_book holds failing name job.OutOfMemory h = tt
unread_book holds failing name _ h = absurd h

pub unread_batch : (holds : Holding) (failing : Failing) (name : List ℕ) (why : JobFault) → IsReadingFault holds failing name why → IsBatchFault holds failing name why
unread_batch holds failing name job.Unreadable h = h
unread_batch holds failing name job.OutOfMemory h = tt
unread_batch holds failing name _ h = absurd h

-- bytes that a file held are no book
pub held_book : (known : Type 0) (holds : Holding) (failing : Failing) (name bytes : List ℕ) (why : JsonFault) → IsHeld known holds name bytes → IsAnswer (reading bytes) (Err why)
    → IsBookFault holds failing name (job.Book why)
held_book known holds failing name bytes why held h = λ others is. subst (λ (b : List ℕ). IsAnswer (reading b) (Err why)) (held.only others is) h

-- or no batch
pub held_batch : (known : Type 0) (holds : Holding) (failing : Failing) (name bytes : List ℕ) (why : JobFault) → IsHeld known holds name bytes → IsBatchFaultOf bytes why
    → IsBatchFault holds failing name why
held_batch known holds failing name bytes (job.Batch why) held h =
    ((λ others is of_bytes. subst (λ (b : List ℕ). bodies_of batch_magic b ≡ Err why) (held.only others is) (h.0 of_bytes)), λ device. absurd (h.1 device))
held_batch known holds failing name bytes job.OutOfMemory held h = tt
held_batch known holds failing name bytes _ held h = absurd h

-- ---- putting in parts

pub book_is_outside : (known : Type 0) (holds : Holding) (failing : Failing) (names : Names) (why : PartsFault) → IsOneFileFault known names.folder names.book why
    → IsPartingFault known holds failing names why
book_is_outside known holds failing names (fault.OneFile role other) h = λ is_known. inl (h is_known)
book_is_outside known holds failing names (fault.Job job.OutOfMemory) h = inl tt
book_is_outside known holds failing names (fault.Job _) h = absurd h
book_is_outside known holds failing names _ h = absurd h

pub batch_is_outside : (known : Type 0) (holds : Holding) (failing : Failing) (names : Names) (why : PartsFault) → IsOneFileFault known names.folder names.batch why
    → IsPartingFault known holds failing names why
batch_is_outside known holds failing names (fault.OneFile role other) h = λ is_known. inr (h is_known)
batch_is_outside known holds failing names (fault.Job job.OutOfMemory) h = inl tt
batch_is_outside known holds failing names (fault.Job _) h = absurd h
batch_is_outside known holds failing names _ h = absurd h

pub parted_put_fault : (known : Type 0) (holds : Holding) (failing : Failing) (names : Names) (p : Parting) (texts : List Text) (why : JobFault) → p.count ≤ 64
    → texts ≡ folder_texts names.folder p → IsPutFault failing texts why → IsPartingFault known holds failing names (fault.Job why)
parted_put_fault known holds failing names p texts why few are h =
    let all : AllByRecursion (λ text. IsOfFolder names.folder text.name) texts =
    subst (λ (ts : List Text). AllByRecursion (λ text. IsOfFolder names.folder text.name) ts) (sym are) (all_of_folder names.folder p few) in
    inr (inr (put_fault failing (IsOfFolder names.folder) texts why all h))

-- ---- deciding

module _ (known : Type 0) (holds : Holding) (failing : Failing) (folder : List ℕ) (number : ℕ) where
  pub plan_fault : (why : PartsFault) → IsPlanFault holds failing folder why → IsDecidingFault known holds failing folder number why
  plan_fault (fault.Job why) h = inl h
  plan_fault fault.NoPlan h = h
  plan_fault _ h = absurd h

  pub read_fault : (why : PartsFault) → IsNameFault known (IsOverRead folder number) why → IsDecidingFault known holds failing folder number why
  read_fault (fault.OneFile first second) h = h
  read_fault (fault.Job job.OutOfMemory) h = inl tt
  read_fault (fault.Job _) h = absurd h
  read_fault _ h = absurd h

  -- the plan that was opened is the one that the file holds
  the_plan : (opened : OpenPlan) → IsOpenPlan known holds folder opened → (plan : Plan) → HasPlan holds folder plan → plan_of opened.plan ≡ plan
  the_plan opened is plan has = same_plan (plan_of opened.plan) plan is.is_plan has.0 (is.plan_held.only (plan_text plan) has.1)

  pub no_part : (opened : OpenPlan) (why : PartsFault) → IsOpenPlan known holds folder opened → (why ≡ fault.NoPart) × (length opened.plan.digests.items ≤ number)
      → IsDecidingFault known holds failing folder number why
  no_part opened why is h =
      subst (λ (w : PartsFault). IsDecidingFault known holds failing folder number w) (sym h.0)
      (λ plan has. subst (λ (p : Plan). length p.digests ≤ number) (the_plan opened is plan has) h.1)

  abbrev some_digests : PartDigests → Option PartDigests → PartDigests
  some_digests other (Some digests) = digests
  some_digests other None = other

  -- the digests that the plan has are those that were found
  the_digests : (opened : OpenPlan) (digests : PartDigests) → IsOpenPlan known holds folder opened → slice_get opened.plan.digests.items number ≡ Some digests
      → (plan : Plan) (others : PartDigests) → HasPlan holds folder plan → slice_get plan.digests number ≡ Some others → digests ≡ others
  the_digests opened digests is found plan others has at =
      ap (some_digests digests) (sym found ∙ ap (λ (p : Plan). slice_get p.digests number) (the_plan opened is plan has) ∙ at)

  pub book_fault : (opened : OpenPlan) (digests : PartDigests) (why : PartsFault) → IsOpenPlan known holds folder opened → slice_get opened.plan.digests.items number ≡ Some digests
      → IsPlannedFileFault holds failing (part_name folder number Book) digests.book number part.OtherBook why → IsDecidingFault known holds failing folder number why
  book_fault opened digests (fault.Job job.OutOfMemory) is found (inl h) = inl tt
  book_fault opened digests (fault.Job _) is found (inl h) = absurd h
  book_fault opened digests (fault.Part k part.Unreadable) is found (inl h) = (h.0, (Book, h.1))
  book_fault opened digests (fault.Part k _) is found (inl h) = absurd h
  book_fault opened digests _ is found (inl h) = absurd h
  book_fault opened digests why is found (inr h) =
      let other : IsOfOtherBook holds folder number =
      λ plan others book has at held e. h.1 book held (e ∙ ap (λ (d : PartDigests). d.book) (sym (the_digests opened digests is found plan others has at))) in
      subst (λ (w : PartsFault). IsDecidingFault known holds failing folder number w) (sym h.0) (refl, other)

  pub batch_fault : (opened : OpenPlan) (digests : PartDigests) (why : PartsFault) → IsOpenPlan known holds folder opened → slice_get opened.plan.digests.items number ≡ Some digests
      → IsPlannedFileFault holds failing (part_name folder number Batch) digests.batch number part.OtherBatch why → IsDecidingFault known holds failing folder number why
  batch_fault opened digests (fault.Job job.OutOfMemory) is found (inl h) = inl tt
  batch_fault opened digests (fault.Job _) is found (inl h) = absurd h
  batch_fault opened digests (fault.Part k part.Unreadable) is found (inl h) = (h.0, (Batch, h.1))
  batch_fault opened digests (fault.Part k _) is found (inl h) = absurd h
  batch_fault opened digests _ is found (inl h) = absurd h
  batch_fault opened digests why is found (inr h) =
      let other : IsOfOtherBatch holds folder number =
      λ plan others batch has at held e. h.1 batch held (e ∙ ap (λ (d : PartDigests). d.batch) (sym (the_digests opened digests is found plan others has at))) in
      subst (λ (w : PartsFault). IsDecidingFault known holds failing folder number w) (sym h.0) (refl, other)

  pub bytes_fault : (book batch : List ℕ) (why : JobFault) → IsHeld known holds (part_name folder number Book) book → IsHeld known holds (part_name folder number Batch) batch
      → IsDecidedFaultOf book batch why → IsDecidingFault known holds failing folder number (fault.Job why)
  bytes_fault book batch (job.Book why) book_held batch_held h = inr (inl (held_book known holds failing (part_name folder number Book) book why book_held h))
  bytes_fault book batch (job.Batch why) book_held batch_held h =
      inr (inr (inl (held_batch known holds failing (part_name folder number Batch) batch (job.Batch why) batch_held h)))
  bytes_fault book batch job.OutOfMemory book_held batch_held h = inl tt
  bytes_fault book batch _ book_held batch_held h = absurd h

  pub decided_put_fault : (plan replies new_book : List ℕ) (texts : List Text) (why : JobFault) → texts ≡ made_texts folder number plan replies new_book → IsPutFault failing texts why
      → IsDecidingFault known holds failing folder number (fault.Job why)
  decided_put_fault plan replies new_book texts why are h =
      let all : AllByRecursion (λ text. IsOfDecided folder number text.name) texts =
      subst (λ (ts : List Text). AllByRecursion (λ text. IsOfDecided folder number text.name) ts) (sym are) (all_of_decided folder number plan replies new_book) in
      inr (inr (inr (put_fault failing (IsOfDecided folder number) texts why all h)))
