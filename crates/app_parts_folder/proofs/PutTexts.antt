-- Texts that are put into their files.
use Rattle.std.proofs.Common.{◌≡◌, inl, inr, ℕ, zero, suc, arith, ◌+◌, ◌<◌, ◌≤◌, List, [], ◌∷◌, ◌++◌, length, get_or, take, string_bytes, refl, sym, subst, ◌∙◌}
use Rattle.std.proofs.lemmas.List.{take_more, take_all}
use Rattle.std.proofs.lemmas.Slice.Zip.{all_zipped_more}
use Rattle.file_batch.specs.Words.{ArePlaced, ClaimFault, Failing, HasOneNamed, Holding, IsNoneNamed, WriteFault, Written}
use Rattle.file_devices.specs.declared.claim_fault.ClaimFault.TheVariants as claim
use Rattle.file_devices.specs.declared.write_fault.WriteFault.TheVariants as write
use Rattle.app_jobs.specs.Faults.{IsPuttingFault, MayNotBePut}
use Rattle.app_jobs.specs.JobFault.{fault_of_claim, fault_of_write}
use Rattle.app_jobs.specs.declared.job_fault.JobFault.{JobFault}
use Rattle.app_jobs.specs.declared.job_fault.JobFault.TheVariants.{Unwritable, OutOfMemory}
use Rattle.app_parts_folder.specs.Texts.{AreDistinct, AreHeld, HasOne, IsNoneOf, IsPutFault, Text, texts_of}
use Rattle.app_parts_folder.specs.Writing.{AreWritten, IsWritten}
use Rattle.app_parts_folder.specs.declared.named_text.NamedText.{NamedText}

-- the first of these were written, and the next one is
pub written_more : {O : Type 0} (is_known : O → Type 0) (written : O → List ℕ) (known : Type 0) (texts : List NamedText) (i : ℕ) (text : NamedText) (all : List (Written O)) (one : Written O)
    → i < length texts → text ≡ get_or texts i text → AreWritten is_known written known (take i texts) all → IsWritten is_known written known text one
    → AreWritten is_known written known (take (i + 1) texts) (all ++ one ∷ [])
written_more is_known written known texts i text all one lt is before next =
    subst (λ (some : List NamedText). AreWritten is_known written known some (all ++ one ∷ [])) (sym (take_more texts i text lt))
    (all_zipped_more (IsWritten is_known written known) (take i texts) all (get_or texts i text) one before (subst (λ (t : NamedText). IsWritten is_known written known t one) is next))

pub written_all : {O : Type 0} (is_known : O → Type 0) (written : O → List ℕ) (known : Type 0) (texts : List NamedText) (i : ℕ) (all : List (Written O))
    → length texts ≤ i → AreWritten is_known written known (take i texts) all → AreWritten is_known written known texts all
written_all is_known written known texts i all le = subst (λ (some : List NamedText). AreWritten is_known written known some all) (take_all i texts le)

-- what is such of one of the texts
pub one_of : (is_such : List ℕ → Type 0) (texts : List NamedText) (i : ℕ) (text : NamedText) → i < length texts → text ≡ get_or texts i text → is_such (string_bytes text.name) → HasOne is_such (texts_of texts)
one_of is_such [] i text lt is such = absurd (omega (arith, lt))
one_of is_such (first ∷ texts) zero text lt is such = inl (subst (λ (t : NamedText). is_such (string_bytes t.name)) is such)
one_of is_such (first ∷ texts) (suc i) text lt is such = inr (one_of is_such texts i text (omega (arith, lt)) is such)

none_named : {O : Type 0} (is_known : O → Type 0) (written : O → List ℕ) (known : Type 0) (name : List ℕ) (texts : List NamedText) (all : List (Written O))
    → AreWritten is_known written known texts all → IsNoneOf name (texts_of texts) → IsNoneNamed name all
unfolding IsNoneNamed
none_named is_known written known name [] [] z none = tt
none_named is_known written known name [] (one ∷ all) z none = absurd z
none_named is_known written known name (text ∷ texts) [] z none = absurd z
none_named is_known written known name (text ∷ texts) (one ∷ all) z none =
    ((λ same. none.0 (sym z.0.0 ∙ same)), none_named is_known written known name texts all z.1 none.1)

-- names that none of the texts has, none of the files has
pub none_of_these : {O : Type 0} (is_known : O → Type 0) (written : O → List ℕ) (known : Type 0) (name : List ℕ) (texts : List NamedText) (all : List (Written O))
    → AreWritten is_known written known texts all → IsNoneOf name (texts_of texts) → IsNoneNamed name all
none_of_these is_known written known name texts all z none = none_named is_known written known name texts all z none

-- files that are placed hold the texts
pub placed_all : {O : Type 0} (is_known : O → Type 0) (written : O → List ℕ) (known : Type 0) (new : Holding) (texts : List NamedText) (all : List (Written O))
    → known → AreWritten is_known written known texts all → ArePlaced is_known written new all → AreDistinct (texts_of texts) → AreHeld new (texts_of texts)
unfolding ArePlaced
placed_all is_known written known new [] [] k z placed distinct = tt
placed_all is_known written known new [] (one ∷ all) k z placed distinct = absurd z
placed_all is_known written known new (text ∷ texts) [] k z placed distinct = absurd z
placed_all is_known written known new (text ∷ texts) (one ∷ all) k z placed distinct =
    let output = z.0.1 k in
    let none : IsNoneNamed (string_bytes one.name) all =
    subst (λ (name : List ℕ). IsNoneNamed name all) (sym z.0.0) (none_named is_known written known (string_bytes text.name) texts all z.1 distinct.0) in
    let first : new (string_bytes text.name) text.text.items =
    subst (λ (bytes : List ℕ). new (string_bytes text.name) bytes) output.1
    (subst (λ (name : List ℕ). new name (written one.output)) z.0.0 (placed.0 output.0 none)) in
    (first, placed_all is_known written known new texts all k z.1 placed.1 distinct.1)

-- one of the files has such a name, so one of the texts has
pub one_refused : {O : Type 0} (is_known : O → Type 0) (written : O → List ℕ) (known : Type 0) (is_such : List ℕ → Type 0) (texts : List NamedText) (all : List (Written O))
    → AreWritten is_known written known texts all → HasOneNamed is_such all → HasOne is_such (texts_of texts)
unfolding HasOneNamed
one_refused is_known written known is_such [] [] z has = absurd has
one_refused is_known written known is_such [] (one ∷ all) z has = absurd z
one_refused is_known written known is_such (text ∷ texts) [] z has = absurd z
one_refused is_known written known is_such (text ∷ texts) (one ∷ all) z (inl has) = inl (subst is_such z.0.0 has)
one_refused is_known written known is_such (text ∷ texts) (one ∷ all) z (inr has) = inr (one_refused is_known written known is_such texts all z.1 has)

-- ---- faults

pub has_more : (is_such others : List ℕ → Type 0) (texts : List Text) → ((name : List ℕ) → is_such name → others name) → HasOne is_such texts → HasOne others texts
has_more is_such others [] more has = absurd has
has_more is_such others (text ∷ texts) more (inl has) = inl (more text.name has)
has_more is_such others (text ∷ texts) more (inr has) = inr (has_more is_such others texts more has)

-- a file isn't claimed
pub unclaimed : (failing : Failing) (texts : List Text) (e : ClaimFault) → (e ≡ claim.InUse → HasOne failing.in_use texts) → IsPutFault failing texts (fault_of_claim e)
unclaimed failing texts claim.InUse h = h refl
unclaimed failing texts claim.OutOfMemory h = tt

-- a file isn't written
pub unwritten : (failing : Failing) (texts : List Text) (may_fail : Type 0) (e : JobFault) → (may_fail → HasOne (MayNotBePut failing) texts) → IsPuttingFault may_fail e → IsPutFault failing texts e
unwritten failing texts may_fail Unwritable h fault = h fault
unwritten failing texts may_fail OutOfMemory h fault = tt
unwritten failing texts may_fail _ h fault = absurd fault

-- files aren't put in place
pub unplaced : (failing : Failing) (texts : List Text) (e : WriteFault) → (e ≡ write.Unwritable → HasOne failing.refused texts) → IsPutFault failing texts (fault_of_write e)
unplaced failing texts write.Unwritable h = has_more failing.refused (MayNotBePut failing) texts (λ name refused. inr refused) (h refl)
unplaced failing texts write.OutOfMemory h = tt
