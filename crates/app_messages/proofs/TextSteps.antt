-- From a text and those behind it to all texts.
use Rattle.std.proofs.Common.{◌≡◌, ◌<◌, ◌≤◌, ℕ, ◌+◌, List, [], ◌∷◌, ◌++◌, length, map, string_bytes, refl, sym, subst, append_assoc, inl, inr, arith}
use Rattle.std.specs.Prelude.{String}
use Rattle.std.specs.Global.{Global}
use Rattle.std.specs.List.{AllByRecursion}
use Rattle.std.proofs.lemmas.List.{append-nil, length-append}
use Rattle.file_batch.specs.Words.{AreBodies, Failing, IsBody}
use Rattle.file_laws.specs.declared.batch_fault.BatchFault.TheVariants.{Count}
use Rattle.app_jobs.specs.Decided.{Holding}
use Rattle.app_jobs.specs.declared.job_fault.JobFault.{JobFault}
use Rattle.app_jobs.specs.declared.job_fault.JobFault.TheVariants.{Batch}
use Rattle.app_messages.specs.Packed.{HasBodies, HaveBlocks, HaveBodies, IsBodiesFault}
use Rattle.file_laws.proofs.Lists.{each_more}

-- ---- bodies one text's behind another's

-- the bodies of one more text
pub one_more_text : (old : Holding) (all : List (List ℕ)) (text : List ℕ) (texts : List (List ℕ)) (bodies own : List (List ℕ))
    → ((more : List (List ℕ)) → HaveBodies old (text ∷ texts) more → HaveBodies old all (bodies ++ more)) → HasBodies old text own
    → (more : List (List ℕ)) → HaveBodies old texts more → HaveBodies old all ((bodies ++ own) ++ more)
one_more_text old all text texts bodies own so_far has more behind =
    subst (HaveBodies old all) (sym (append_assoc bodies own more)) (so_far (own ++ more) (own, more, has, behind, refl))

-- a fault behind one more text
pub one_more_fault : (old : Holding) (failing : Failing) (all : List (List ℕ)) (text : List ℕ) (texts : List (List ℕ)) (bodies own : List (List ℕ))
    → ((fault : JobFault) → IsBodiesFault old failing (length bodies) (text ∷ texts) fault → IsBodiesFault old failing 0 all fault) → HasBodies old text own
    → (fault : JobFault) → IsBodiesFault old failing (length (bodies ++ own)) texts fault → IsBodiesFault old failing 0 all fault
one_more_fault old failing all text texts bodies own so_far has fault behind =
    so_far fault (inr (own, has, inr (subst (λ (n : ℕ). IsBodiesFault old failing n texts fault) (length-append bodies own) behind)))

-- with its bodies there are too many
pub too_many : (old : Holding) (failing : Failing) (text : List ℕ) (texts : List (List ℕ)) (bodies own : List (List ℕ))
    → HasBodies old text own → 65536 < length bodies + length own → IsBodiesFault old failing (length bodies) (text ∷ texts) (Batch Count)
too_many old failing text texts bodies own has more = inr (own, has, inl (refl, more))

-- bodies behind bodies, where they are no more than a batch may have
pub more_bodies : (bodies own : List (List ℕ)) → AreBodies bodies → AreBodies own → length bodies + length own ≤ 65536 → AreBodies (bodies ++ own)
more_bodies bodies own are also few = (rw length-append few, each_more IsBody bodies own are.1 also.1)

-- behind the last text all are read
pub all_texts : (old : Holding) (all : List (List ℕ)) (rest : List (String Global)) (bodies : List (List ℕ)) → length rest ≡ 0
    → ((more : List (List ℕ)) → HaveBodies old (map string_bytes rest) more → HaveBodies old all (bodies ++ more)) → HaveBodies old all bodies
all_texts old all [] bodies none read = subst (HaveBodies old all) (append-nil bodies) (read [] refl)
all_texts old all (name ∷ rest) bodies none read = absurd (omega (arith, none))

-- ---- blocks

-- the block of one more text
pub one_more_block : (old : Holding) (all : List (List ℕ)) (text : List ℕ) (texts : List (List ℕ)) (blocks : List (List (List ℕ))) (own : List (List ℕ))
    → ((more : List (List (List ℕ))) → HaveBlocks old (text ∷ texts) more → HaveBlocks old all (blocks ++ more)) → HasBodies old text own
    → (more : List (List (List ℕ))) → HaveBlocks old texts more → HaveBlocks old all ((blocks ++ own ∷ []) ++ more)
one_more_block old all text texts blocks own so_far has more behind =
    subst (HaveBlocks old all) (sym (append_assoc blocks (own ∷ []) more)) (so_far (own ∷ more) (own, more, has, behind, refl))

pub one_more_block_fits : (blocks : List (List (List ℕ))) (own : List (List ℕ)) → AllByRecursion AreBodies blocks → AreBodies own
    → AllByRecursion AreBodies (blocks ++ own ∷ [])
one_more_block_fits [] own are also = (also, tt)
one_more_block_fits (b ∷ blocks) own are also = (are.0, one_more_block_fits blocks own are.1 also)

-- behind the last text all are read
pub all_blocks : (old : Holding) (all : List (List ℕ)) (rest : List (String Global)) (blocks : List (List (List ℕ))) → length rest ≡ 0
    → ((more : List (List (List ℕ))) → HaveBlocks old (map string_bytes rest) more → HaveBlocks old all (blocks ++ more)) → HaveBlocks old all blocks
all_blocks old all [] blocks none read = subst (HaveBlocks old all) (append-nil blocks) (read [] refl)
all_blocks old all (name ∷ rest) blocks none read = absurd (omega (arith, none))
