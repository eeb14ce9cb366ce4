-- Parts that are decided or made, by the steps of these.
use Rattle.std.proofs.Common.{◌≡◌, ◌≤◌, ℕ, List, Ok, Some, slice_get, sym, subst, ◌∙◌, arith}
use Rattle.sha2.specs.Sha256.{sha256}
use Rattle.book_laws.specs.Reading.{IsAnswer, reading}
use Rattle.file_devices.specs.Holding.{Holding}
use Rattle.parts_books.specs.PartBooks.{each_part}
use Rattle.app_parts_folder.specs.PlanTexts.{plan_of, plan_text}
use Rattle.app_parts_folder.specs.declared.part_digests.PartDigests.{PartDigests}
use Rattle.app_parts_folder.proofs.NamesApart.{all_of_decided, all_of_folder, decided_distinct, folder_distinct, none_such, outside_none}
use Rattle.app_parts_folder.specs.Apart.{IsOutside}
use Rattle.app_parts_folder.specs.Deciding.{IsDecidedText, made_texts}
use Rattle.app_parts_folder.specs.Joining.{IsPartDecided, decided_texts}
use Rattle.app_parts_folder.specs.Names.{IsOfDecided, IsOfFolder, part_name}
use Rattle.app_parts_folder.specs.Opening.{IsOpenPlan}
use Rattle.app_parts_folder.specs.Parting.{AreReadBack, IsCut, IsParted, IsPlanned, Names, Parting, count_of_part, folder_texts}
use Rattle.app_parts_folder.specs.Texts.{AreDistinct, AreHeld, IsHeld, IsNoneOf, Text}
use Rattle.app_parts_folder.specs.declared.part_count.PartCount.{PartCount}
use Rattle.app_parts_folder.specs.declared.part_file.PartFile.TheVariants.{Book, Batch}
use Rattle.app_parts_folder.specs.declared.plan_opening.OpenPlan.{OpenPlan}

-- ---- a part is decided

-- what is written
the_texts : (folder : List ℕ) (number : ℕ) (opened : OpenPlan) (book batch replies new_book : List ℕ) (count : ℕ) (d : IsDecidedText book batch replies new_book count)
    → opened.digest ≡ sha256 (plan_text (plan_of opened.plan))
    → made_texts folder number opened.digest replies new_book ≡ decided_texts folder number (plan_of opened.plan) d.rows d.frames
the_texts folder number opened book batch replies new_book count d digest =
    (λ i. made_texts folder number (digest i) (d.replies_are i) (d.book_is i))

pub part_decided : (known : Type 0) (old new : Holding) (folder : List ℕ) (number : ℕ) (opened : OpenPlan) (digests : PartDigests) (book batch replies new_book : List ℕ) (count : ℕ) (texts : List Text)
    → IsOpenPlan known old folder opened → slice_get opened.plan.digests.items number ≡ Some digests
    → IsHeld known old (part_name folder number Book) book → sha256 book ≡ digests.book
    → IsHeld known old (part_name folder number Batch) batch → sha256 batch ≡ digests.batch
    → IsDecidedText book batch replies new_book count → texts ≡ made_texts folder number opened.digest replies new_book
    → (known → AreDistinct texts → AreHeld new texts) → IsPartDecided known old new folder number count
part_decided known old new folder number opened digests book batch replies new_book count texts is found book_held of_book batch_held of_batch d are put =
    record {
      plan = plan_of opened.plan;
      is_plan = is.is_plan;
      plan_held = is.plan_held;
      digests = digests;
      planned = found;
      book = book;
      book_held = book_held;
      of_book = of_book;
      batch = batch;
      batch_held = batch_held;
      of_batch = of_batch;
      rows = d.rows;
      opening = d.opening;
      frames = d.frames;
      messages = d.messages;
      counted = d.counted;
      back = d.back;
      bodies = d.bodies;
      written = λ is_known.
          let distinct = subst AreDistinct (sym are) (decided_distinct folder number opened.digest replies new_book) in
          subst (AreHeld new) (are ∙ the_texts folder number opened book batch replies new_book count d is.digest) (put is_known distinct);
    }

-- a file that isn't of the part isn't written
pub not_of_part : (folder : List ℕ) (number : ℕ) (plan replies new_book other : List ℕ) (texts : List Text) → texts ≡ made_texts folder number plan replies new_book
    → ¬ IsOfDecided folder number other → IsNoneOf other texts
not_of_part folder number plan replies new_book other texts are not =
    subst (IsNoneOf other) (sym are) (none_such (IsOfDecided folder number) (made_texts folder number plan replies new_book) other (all_of_decided folder number plan replies new_book) not)

-- ---- a batch is put in parts

pub few_parts : (p : Parting) (most count : ℕ) → count ≡ most → count ≤ 64 → IsPlanned p most → p.count ≤ 64
few_parts p most count is few planned = omega (arith, planned.few, is, few)

pub folder_held : (known : Type 0) (new : Holding) (folder : List ℕ) (p : Parting) (texts : List Text) → p.count ≤ 64 → texts ≡ folder_texts folder p
    → (known → AreDistinct texts → AreHeld new texts) → known → AreHeld new (folder_texts folder p)
folder_held known new folder p texts few are put is_known =
    subst (AreHeld new) are (put is_known (subst AreDistinct (sym are) (folder_distinct folder p few)))

pub parted_folder : (known : Type 0) (old new : Holding) (names : Names) (most : ℕ) (counts : List PartCount) (p : Parting) (book batch : List ℕ) (texts : List Text) → most ≤ 64
    → IsHeld known old names.book book → IsAnswer (reading book) (Ok p.rows) → IsHeld known old names.batch batch → IsCut batch p.bodies p.frames → IsPlanned p most
    → counts ≡ each_part (count_of_part p) p.count → AreReadBack p → texts ≡ folder_texts names.folder p
    → (known → AreDistinct texts → AreHeld new texts) → IsParted known old new names most counts
parted_folder known old new names most counts p book batch texts few book_held opening batch_held cut planned counted back are put =
    record {
      parting = p;
      book = book;
      book_held = book_held;
      opening = opening;
      batch = batch;
      batch_held = batch_held;
      cut = cut;
      planned = planned;
      counted = counted;
      back = back;
      written = folder_held known new names.folder p texts (omega (arith, planned.few, few)) are put;
    }

-- a file that isn't of the folder isn't written
pub not_of_folder : (folder : List ℕ) (p : Parting) (other : List ℕ) (texts : List Text) → p.count ≤ 64 → texts ≡ folder_texts folder p → ¬ IsOfFolder folder other → IsNoneOf other texts
not_of_folder folder p other texts few are not =
    subst (IsNoneOf other) (sym are) (none_such (IsOfFolder folder) (folder_texts folder p) other (all_of_folder folder p few) not)

-- a name outside of the folder is none of its files'
pub not_outside : (folder : List ℕ) (p : Parting) (name : List ℕ) (most : ℕ) (texts : List Text) → p.count ≤ most → texts ≡ folder_texts folder p → IsOutside folder most name → IsNoneOf name texts
not_outside folder p name most texts few are out = subst (IsNoneOf name) (sym are) (outside_none folder p name most few out)
