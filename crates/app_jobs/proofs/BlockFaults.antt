-- Faults of block files.
use Rattle.std.proofs.Common.{◌≡◌, ◌⊎◌, ℕ, List, inl, inr, refl}
use Rattle.std.specs.Prelude.{IsTrue}
use Rattle.file_blocks.specs.Blocks.{StopsBefore, StopsInHead, StopsInBlocks}
use Rattle.file_batch.specs.Words.{BatchFault, Failing, Names, is_of_bytes}
use Rattle.file_laws.specs.declared.batch_fault.BatchFault.TheVariants.{Device}
use Rattle.issuer_rows.specs.Fold.{Rows}
use Rattle.app_jobs.specs.Decided.{Holding}
use Rattle.app_jobs.specs.declared.job_fault.JobFault.TheVariants.{Batch}
use Rattle.app_jobs.specs.BlockFaults.{FailsAsBlocks, IsBlocksReplyingFault}

-- where blocks stop for what the bytes are, that is the bytes' first fault
pub first_fault : (rows after : Rows) (count : ℕ) (reads : Type 0) (bytes : List ℕ) (puts : Type 0) (start written : List ℕ) (fault : BatchFault) (same failed : Type 0)
    → (failed → ¬ IsTrue (is_of_bytes fault))
    → StopsBefore rows after count reads bytes fault same
    ⊎ (StopsInHead rows after count reads bytes puts start written failed ⊎ StopsInBlocks rows after count reads bytes puts start written fault failed)
    → reads → IsTrue (is_of_bytes fault) → FailsAsBlocks bytes fault
first_fault rows after count reads bytes puts start written fault same failed device (inl before) r t = inl (before.3 r t)
first_fault rows after count reads bytes puts start written fault same failed device (inr (inl head)) r t = absurd (device head.2 t)
first_fault rows after count reads bytes puts start written fault same failed device (inr (inr behind)) r t =
    let kept = behind.3.kept in
    inr (behind.0, behind.1, behind.2 r, (kept.blocks, behind.3.left, kept.read r, rw kept.number (behind.3.fails r t)))

-- a block file is read and replies are written: the fault of both is the block file's or the replies'
pub unreplied_blocks : (old : Holding) (failing : Failing) (names : Names) (fault : BatchFault)
    → ((bytes : List ℕ) → old names.batch bytes → IsTrue (is_of_bytes fault) → FailsAsBlocks bytes fault)
    → (fault ≡ Device → failing.reading names.batch ⊎ failing.writing names.replies) → IsBlocksReplyingFault old failing names (Batch fault)
unreplied_blocks old failing names Device first device = elim (device refl) [ inl r ↦ inl (first, λ d. r) | inr w ↦ inr ((λ t. absurd cc), λ d. w) ]
unreplied_blocks old failing names _ first device = inl (first, λ d. absurd cc)

-- why blocks stop
pub stopped : (old : Holding) (failing : Failing) (names : Names)
    (rows after : Rows) (count : ℕ) (reads : Type 0) (bytes : List ℕ) (puts : Type 0) (start written : List ℕ) (fault : BatchFault) (same failed : Type 0)
    → (failed → ¬ IsTrue (is_of_bytes fault)) → (fault ≡ Device → failing.reading names.batch ⊎ failing.writing names.replies)
    → ((held : List ℕ) → old names.batch held → reads × (bytes ≡ held))
    → StopsBefore rows after count reads bytes fault same
    ⊎ (StopsInHead rows after count reads bytes puts start written failed ⊎ StopsInBlocks rows after count reads bytes puts start written fault failed)
    → IsBlocksReplyingFault old failing names (Batch fault)
stopped old failing names rows after count reads bytes puts start written fault same failed alone device opened h =
    unreplied_blocks old failing names fault
    (λ held o t. rw (← (opened held o).1) (first_fault rows after count reads bytes puts start written fault same failed alone h (opened held o).0 t))
    device
