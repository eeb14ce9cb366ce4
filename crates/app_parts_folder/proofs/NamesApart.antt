-- Names of a folder's files differ.
use Rattle.std.proofs.Common.{◌≡◌, ◌≢◌, inl, inr, ℕ, zero, suc, ◌+◌, ◌%◌, ◌<◌, ◌≤◌, ◌^◌, List, [], ◌∷◌, ◌++◌, get_or, decimal, refl, reverse, sym, ap, subst, ◌∙◌, arith, append_assoc}
use Rattle.std.proofs.lemmas.Fmt.{decimal_by_steps, decimal_injective}
use Rattle.std.proofs.lemmas.List.{append_cancel_left, append_cancel_right, reverse-append}
use Rattle.std.specs.List.{AllByRecursion, flat_map}
use Rattle.file_devices.specs.Failing.{Failing}
use Rattle.app_jobs.specs.Faults.{MayNotBePut}
use Rattle.app_jobs.specs.declared.job_fault.JobFault.{JobFault}
use Rattle.app_jobs.specs.declared.job_fault.JobFault.TheVariants.{InUse, Unwritable, OutOfMemory}
use Rattle.parts_books.specs.PartBooks.{each_from}
use Rattle.app_parts_folder.specs.Deciding.{made_texts}
use Rattle.app_parts_folder.specs.Faults.{IsPutFaultOf}
use Rattle.app_parts_folder.specs.Names.{IsOfDecided, IsOfFolder, part_name, plan_name, rest_name}
use Rattle.app_parts_folder.specs.Parting.{Parting, folder_texts, part_texts, plan_of_parting, rest_of}
use Rattle.app_parts_folder.specs.Apart.{IsOutside}
use Rattle.app_parts_folder.specs.Texts.{AreDistinct, HasOne, IsNoneOf, IsPutFault, Text}
use Rattle.app_parts_folder.specs.declared.part_file.PartFile.TheVariants.{Book, Batch}
use Rattle.app_parts_folder.specs.PlanTexts.{plan_text}

-- ---- lists by their ends

-- texts that end otherwise differ
pub ends_apart : (x y : List ℕ) (a b : ℕ) → a ≢ b → x ++ a ∷ [] ≢ y ++ b ∷ []
ends_apart x y a b apart e =
    apart (ap (λ (xs : List ℕ). get_or xs 0 0) (sym (reverse-append x (a ∷ [])) ∙ ap reverse e ∙ reverse-append y (b ∷ [])))

-- no number's last digit is a `t`
no_t : (n : ℕ) → n < 2 ^ 64 → (x : List ℕ) → decimal n ≢ x ++ 116 ∷ []
no_t n fits =
    decimal_by_steps (λ n ds. (x : List ℕ) → ds ≢ x ++ 116 ∷ [])
    (λ n small x. ends_apart [] x (48 + n) 116 (λ e. absurd (omega (arith, e, small))))
    (λ n ds large before x. ends_apart ds x (48 + n % 10) 116 (λ e. absurd (omega (arith, e)))) n fits

-- a name as its last letter behind the others
ends : (folder : List ℕ) (part : ℕ) (most : List ℕ) (last : ℕ) → folder ++ (47 ∷ (decimal part ++ (most ++ last ∷ []))) ≡ (folder ++ (47 ∷ (decimal part ++ most))) ++ last ∷ []
ends folder part most last =
    ap (λ (x : List ℕ). folder ++ (47 ∷ x)) (sym (append_assoc (decimal part) most (last ∷ [])))
    ∙ sym (append_assoc folder (47 ∷ (decimal part ++ most)) (last ∷ []))

-- two names that end otherwise
files_apart : (folder : List ℕ) (part other : ℕ) (most : List ℕ) (last : ℕ) (most' : List ℕ) (last' : ℕ) → last ≢ last'
    → folder ++ (47 ∷ (decimal part ++ (most ++ last ∷ []))) ≢ folder ++ (47 ∷ (decimal other ++ (most' ++ last' ∷ [])))
files_apart folder part other most last most' last' apart e =
    ends_apart (folder ++ (47 ∷ (decimal part ++ most))) (folder ++ (47 ∷ (decimal other ++ most'))) last last' apart (sym (ends folder part most last) ∙ e ∙ ends folder other most' last')

-- behind the folder and the slash
behind : (folder x y : List ℕ) → folder ++ (47 ∷ x) ≡ folder ++ (47 ∷ y) → x ≡ y
behind folder x y e = append_cancel_left (47 ∷ []) x y (append_cancel_left folder (47 ∷ x) (47 ∷ y) e)

-- two parts' files with one ending
parts_apart : (folder : List ℕ) (part other : ℕ) (ending : List ℕ) → part < 2 ^ 64 → other < 2 ^ 64 → part ≢ other
    → folder ++ (47 ∷ (decimal part ++ ending)) ≢ folder ++ (47 ∷ (decimal other ++ ending))
parts_apart folder part other ending fits fits' apart e =
    apart (decimal_injective part other fits fits' (append_cancel_right (decimal part) (decimal other) ending (behind folder (decimal part ++ ending) (decimal other ++ ending) e)))

-- ---- names of one folder

books_apart : (folder : List ℕ) (part other : ℕ) → part < 2 ^ 64 → other < 2 ^ 64 → part ≢ other → part_name folder part Book ≢ part_name folder other Book
books_apart folder part other fits fits' apart = parts_apart folder part other (46 ∷ 98 ∷ 111 ∷ 111 ∷ 107 ∷ []) fits fits' apart

batches_apart : (folder : List ℕ) (part other : ℕ) → part < 2 ^ 64 → other < 2 ^ 64 → part ≢ other → part_name folder part Batch ≢ part_name folder other Batch
batches_apart folder part other fits fits' apart = parts_apart folder part other (46 ∷ 98 ∷ 97 ∷ 116 ∷ 99 ∷ 104 ∷ []) fits fits' apart

book_and_batch : (folder : List ℕ) (part other : ℕ) → part_name folder part Book ≢ part_name folder other Batch
book_and_batch folder part other =
    files_apart folder part other (46 ∷ 98 ∷ 111 ∷ 111 ∷ []) 107 (46 ∷ 98 ∷ 97 ∷ 116 ∷ 99 ∷ []) 104 (λ e. absurd (omega (arith, e)))

-- a name of the folder as its last letter behind the others
last_of : (folder front : List ℕ) (last : ℕ) → folder ++ (front ++ last ∷ []) ≡ (folder ++ front) ++ last ∷ []
last_of folder front last = sym (append_assoc folder front (last ∷ []))

-- of another ending than a name that stands in the folder
part_and_other : (folder : List ℕ) (part : ℕ) (most : List ℕ) (last : ℕ) (front : List ℕ) (last' : ℕ) → last ≢ last'
    → folder ++ (47 ∷ (decimal part ++ (most ++ last ∷ []))) ≢ folder ++ (front ++ last' ∷ [])
part_and_other folder part most last front last' apart e =
    ends_apart (folder ++ (47 ∷ (decimal part ++ most))) (folder ++ front) last last' apart (sym (ends folder part most last) ∙ e ∙ last_of folder front last')

book_and_plan : (folder : List ℕ) (part : ℕ) → part_name folder part Book ≢ plan_name folder
book_and_plan folder part =
    part_and_other folder part (46 ∷ 98 ∷ 111 ∷ 111 ∷ []) 107 (47 ∷ 112 ∷ 108 ∷ 97 ∷ []) 110 (λ e. absurd (omega (arith, e)))

batch_and_plan : (folder : List ℕ) (part : ℕ) → part_name folder part Batch ≢ plan_name folder
batch_and_plan folder part =
    part_and_other folder part (46 ∷ 98 ∷ 97 ∷ 116 ∷ 99 ∷ []) 104 (47 ∷ 112 ∷ 108 ∷ 97 ∷ []) 110 (λ e. absurd (omega (arith, e)))

batch_and_rest : (folder : List ℕ) (part : ℕ) → part_name folder part Batch ≢ rest_name folder
batch_and_rest folder part =
    part_and_other folder part (46 ∷ 98 ∷ 97 ∷ 116 ∷ 99 ∷ []) 104 (47 ∷ 114 ∷ 101 ∷ 115 ∷ 116 ∷ 46 ∷ 98 ∷ 111 ∷ 111 ∷ []) 107 (λ e. absurd (omega (arith, e)))

book_and_rest : (folder : List ℕ) (part : ℕ) → part < 2 ^ 64 → part_name folder part Book ≢ rest_name folder
book_and_rest folder part fits e =
    no_t part fits (114 ∷ 101 ∷ 115 ∷ [])
    (append_cancel_right (decimal part) (114 ∷ 101 ∷ 115 ∷ 116 ∷ []) (46 ∷ 98 ∷ 111 ∷ 111 ∷ 107 ∷ [])
    (behind folder (decimal part ++ (46 ∷ 98 ∷ 111 ∷ 111 ∷ 107 ∷ [])) (114 ∷ 101 ∷ 115 ∷ 116 ∷ 46 ∷ 98 ∷ 111 ∷ 111 ∷ 107 ∷ []) e))

rest_and_plan : (folder : List ℕ) → rest_name folder ≢ plan_name folder
rest_and_plan folder e =
    ends_apart (folder ++ (47 ∷ 114 ∷ 101 ∷ 115 ∷ 116 ∷ 46 ∷ 98 ∷ 111 ∷ 111 ∷ [])) (folder ++ (47 ∷ 112 ∷ 108 ∷ 97 ∷ [])) 107 110 (λ e. absurd (omega (arith, e)))
    (sym (last_of folder (47 ∷ 114 ∷ 101 ∷ 115 ∷ 116 ∷ 46 ∷ 98 ∷ 111 ∷ 111 ∷ []) 107) ∙ e ∙ last_of folder (47 ∷ 112 ∷ 108 ∷ 97 ∷ []) 110)

-- ---- the files that `part` writes

-- those of so many parts from one on, the rest and the plan
abbrev from_part : List ℕ → Parting → ℕ → ℕ → List Text
from_part folder p part count =
    flat_map (λ texts. texts) (each_from (part_texts folder p) part count)
    ++ record { name = rest_name folder; text = rest_of p } ∷ record { name = plan_name folder; text = plan_text (plan_of_parting p) } ∷ []

book_not_behind : (folder : List ℕ) (p : Parting) (earlier part count : ℕ) → earlier < part → part + count < 2 ^ 64 → IsNoneOf (part_name folder earlier Book) (from_part folder p part count)
book_not_behind folder p earlier part zero lt fits =
    ((λ e. book_and_rest folder earlier (omega (arith, lt, fits)) (sym e)), ((λ e. book_and_plan folder earlier (sym e)), tt))
book_not_behind folder p earlier part (suc count) lt fits = (
  (λ e. books_apart folder earlier part (omega (arith, lt, fits)) (omega (arith, fits)) (λ same. absurd (omega (arith, same, lt))) (sym e)),
  ((λ e. book_and_batch folder earlier part (sym e)), book_not_behind folder p earlier (suc part) count (omega (arith, lt)) (omega (arith, fits))),
)

batch_not_behind : (folder : List ℕ) (p : Parting) (earlier part count : ℕ) → earlier < part → part + count < 2 ^ 64 → IsNoneOf (part_name folder earlier Batch) (from_part folder p part count)
batch_not_behind folder p earlier part zero lt fits =
    ((λ e. batch_and_rest folder earlier (sym e)), ((λ e. batch_and_plan folder earlier (sym e)), tt))
batch_not_behind folder p earlier part (suc count) lt fits = (
  (λ e. book_and_batch folder part earlier e),
  (
    (λ e. batches_apart folder earlier part (omega (arith, lt, fits)) (omega (arith, fits)) (λ same. absurd (omega (arith, same, lt))) (sym e)),
    batch_not_behind folder p earlier (suc part) count (omega (arith, lt)) (omega (arith, fits)),
  ),
)

from_distinct : (folder : List ℕ) (p : Parting) (part count : ℕ) → part + count < 2 ^ 63 → AreDistinct (from_part folder p part count)
from_distinct folder p part zero fits = (((λ e. rest_and_plan folder (sym e)), tt), (tt, tt))
from_distinct folder p part (suc count) fits = (
  ((λ e. book_and_batch folder part part (sym e)), book_not_behind folder p part (suc part) count (omega arith) (omega (arith, fits))),
  (batch_not_behind folder p part (suc part) count (omega arith) (omega (arith, fits)), from_distinct folder p (suc part) count (omega (arith, fits))),
)

-- no two files of a folder have the same name
pub folder_distinct : (folder : List ℕ) (p : Parting) → p.count ≤ 64 → AreDistinct (folder_texts folder p)
folder_distinct folder p few = from_distinct folder p 0 p.count (omega (arith, few))

from_all : (folder : List ℕ) (p : Parting) (part count : ℕ) → part + count < 2 ^ 32 → AllByRecursion (λ text. IsOfFolder folder text.name) (from_part folder p part count)
from_all folder p part zero fits = (inr (inl refl), (inl refl, tt))
from_all folder p part (suc count) fits = (
  inr (inr (part, omega (arith, fits), inl refl)),
  (inr (inr (part, omega (arith, fits), inr refl)), from_all folder p (suc part) count (omega (arith, fits))),
)

-- all are files of the folder
pub all_of_folder : (folder : List ℕ) (p : Parting) → p.count ≤ 64 → AllByRecursion (λ text. IsOfFolder folder text.name) (folder_texts folder p)
all_of_folder folder p few = from_all folder p 0 p.count (omega (arith, few))

from_none : (folder : List ℕ) (p : Parting) (name : List ℕ) (most part count : ℕ) → part + count ≤ most → IsOutside folder most name → IsNoneOf name (from_part folder p part count)
from_none folder p name most part zero fits out = ((λ e. out.rest (sym e)), ((λ e. out.plan (sym e)), tt))
from_none folder p name most part (suc count) fits out =
    let own = out.parts part (omega (arith, fits)) in
    ((λ e. own.0 (sym e)), ((λ e. own.1 (sym e)), from_none folder p name most (suc part) count (omega (arith, fits)) out))

-- a name outside is none of theirs
pub outside_none : (folder : List ℕ) (p : Parting) (name : List ℕ) (most : ℕ) → p.count ≤ most → IsOutside folder most name → IsNoneOf name (folder_texts folder p)
outside_none folder p name most few out = from_none folder p name most 0 p.count (omega (arith, few)) out

-- ---- the files that `decide` writes

pub decided_distinct : (folder : List ℕ) (part : ℕ) (plan replies new_book : List ℕ) → AreDistinct (made_texts folder part plan replies new_book)
decided_distinct folder part plan replies new_book = (
  (
    (λ e. files_apart folder part part (46 ∷ 114 ∷ 101 ∷ 112 ∷ 108 ∷ 105 ∷ 101 ∷ []) 115 (46 ∷ 110 ∷ 101 ∷ 119 ∷ 98 ∷ 111 ∷ 111 ∷ []) 107 (λ e. absurd (omega (arith, e))) (sym e)),
    ((λ e. files_apart folder part part (46 ∷ 114 ∷ 101 ∷ 112 ∷ 108 ∷ 105 ∷ 101 ∷ []) 115 (46 ∷ 100 ∷ 101 ∷ 99 ∷ 105 ∷ 100 ∷ 101 ∷ []) 100 (λ e. absurd (omega (arith, e))) (sym e)), tt),
  ),
  (((λ e. files_apart folder part part (46 ∷ 110 ∷ 101 ∷ 119 ∷ 98 ∷ 111 ∷ 111 ∷ []) 107 (46 ∷ 100 ∷ 101 ∷ 99 ∷ 105 ∷ 100 ∷ 101 ∷ []) 100 (λ e. absurd (omega (arith, e))) (sym e)), tt), (tt, tt)),
)

pub all_of_decided : (folder : List ℕ) (part : ℕ) (plan replies new_book : List ℕ) → AllByRecursion (λ text. IsOfDecided folder part text.name) (made_texts folder part plan replies new_book)
all_of_decided folder part plan replies new_book = (inl refl, (inr (inl refl), (inr (inr refl), tt)))

-- ---- what such names come to

-- a name that isn't such is none of theirs
pub none_such : (is_such : List ℕ → Type 0) (texts : List Text) (other : List ℕ) → AllByRecursion (λ text. is_such text.name) texts → ¬ is_such other → IsNoneOf other texts
none_such is_such [] other all not = tt
none_such is_such (text ∷ texts) other all not = ((λ e. not (subst is_such e all.0)), none_such is_such texts other all.1 not)

-- one of them is such, and of it something holds
one_such : (is_such holds : List ℕ → Type 0) (texts : List Text) → AllByRecursion (λ text. is_such text.name) texts → HasOne holds texts → (name : List ℕ) × is_such name × holds name
one_such is_such holds [] all has = absurd has
one_such is_such holds (text ∷ texts) all (inl has) = (text.name, all.0, has)
one_such is_such holds (text ∷ texts) all (inr has) = one_such is_such holds texts all.1 has

-- why they aren't put into their files
pub put_fault : (failing : Failing) (is_such : List ℕ → Type 0) (texts : List Text) (fault : JobFault) → AllByRecursion (λ text. is_such text.name) texts → IsPutFault failing texts fault
    → IsPutFaultOf failing is_such fault
put_fault failing is_such texts InUse all h = one_such is_such failing.in_use texts all h
put_fault failing is_such texts Unwritable all h = one_such is_such (MayNotBePut failing) texts all h
put_fault failing is_such texts OutOfMemory all h = tt
put_fault failing is_such texts _ all h = absurd h
