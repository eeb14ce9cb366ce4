-- What it comes to that files are decided, or that what was written is put in place, whoever does it.
use Rattle.std.specs.Prelude.{◌≡◌, ◌≢◌, ℕ, List, Result, IfOk, IfErr, OnOk, OnErr, Some, None}
use Rattle.file_batch.specs.Counting.{Admits}
use Rattle.file_batch.specs.declared.body_count.BodyCount.{BodyCount}
use Rattle.file_batch.specs.declared.strictness.Strictness.{Strictness}
use Rattle.file_batch.specs.declared.strictness.Strictness.TheVariants.{Lenient}
use Rattle.file_batch.specs.Words.{AreAsTheyWere, BatchFault, Failing, IsAsItWas, Names}
use Rattle.app_jobs.specs.BlockFaults.{IsBlocksFault}
use Rattle.app_jobs.specs.Decided.{Holding, IsDecided}
use Rattle.app_jobs.specs.DecidedBlocks.{AreBlocksDecided, AreBlocksKept}
use Rattle.app_jobs.specs.Faults.{IsDecidingFault, IsPuttingFault}
use Rattle.app_jobs.specs.declared.block_count.BlockCount.{BlockCount}
use Rattle.app_jobs.specs.declared.halt.Halt.{Halt}
use Rattle.app_jobs.specs.declared.job_fault.JobFault.{JobFault}
use Rattle.app_jobs.specs.declared.job_fault.JobFault.TheVariants.{Batch}

-- over files
module _ {F : Type 0} (is_known : F → Type 0) (holds : F → Holding) (failing : F → Failing) where
  -- the batch is decided on the book, and the files hold what that comes to; else the first fault is returned
  pub record DecidesFiles (strictness : Strictness) (old new : F) (names : Names) (result : Result BodyCount JobFault) : Type 0 where
    pub decided : IfOk result (IsDecided (is_known old) (holds old) (holds new) names)
    pub admitted : IfOk result (Admits strictness)
    -- the first fault, in the order of reading: the book's, then the batch's; or it is refused; or a call on one of these files failed, or
    -- memory ran out
    pub fault : IfErr result (IsDecidingFault strictness (holds old) (failing old) names)
    -- after a fault all files are as they were: none is lost, and none is new
    pub kept : OnErr result (AreAsTheyWere (holds old) (holds new))
    -- other files stay as they were
    pub others : (other : List ℕ) → other ≢ names.replies → other ≢ names.new_book → IsAsItWas (holds old) (holds new) other
    pub known : is_known old → is_known new

  -- the blocks are decided, each on the book after those before it, and the files hold what that comes to; else some first ones are kept,
  -- but none where they may be refused
  pub record DecidesBlockFiles (strictness : Strictness) (old new : F) (names : Names) (result : Result BlockCount Halt) : Type 0 where
    pub decided : IfOk result (λ count. AreBlocksDecided (is_known old) (holds old) (holds new) names count.blocks count.messages)
    pub admitted : IfOk result (λ count. Admits strictness count.messages)
    -- blocks are kept behind a fault of the block file, its replies, or out of memory
    pub halted : IfErr result (λ halt. (count : ℕ) → halt.kept ≡ Some count → (strictness ≡ Lenient) × (fault : BatchFault) × (halt.fault ≡ Batch fault)
        × AreBlocksKept (is_known old) (holds old) (holds new) names ((failing old).writing names.replies) fault count)
    -- the first fault, in the order of reading: the book's, then the block file's; or a call on one of these files failed, or memory ran out
    pub fault : IfErr result (λ halt. IsBlocksFault strictness (holds old) (failing old) names halt.fault)
    -- where no block is kept, all files are as they were
    pub kept : IfErr result (λ halt. halt.kept ≡ None → AreAsTheyWere (holds old) (holds new))
    -- other files stay as they were
    pub others : (other : List ℕ) → other ≢ names.replies → other ≢ names.new_book → IsAsItWas (holds old) (holds new) other
    pub known : is_known old → is_known new

-- the same, where no file is read, and what it means that a file may not be put
module _ {F : Type 0} (is_known : F → Type 0) (holds : F → Holding) (may_fail : Type 0) where
  -- replies and the book after them are put in place, both or, after a fault, none; it is known then what the one file holds, and the other
  pub record PutsAnswer (old new : F) (names : Names) (replied booked : Type 0) (result : Result (Unit {0}) JobFault) : Type 0 where
    pub replies : OnOk result (is_known old → names.replies ≢ names.new_book → replied)
    pub book : OnOk result (is_known old → booked)
    pub kept : OnErr result (AreAsTheyWere (holds old) (holds new))
    pub fault : IfErr result (IsPuttingFault may_fail)
    pub others : (other : List ℕ) → other ≢ names.replies → other ≢ names.new_book → IsAsItWas (holds old) (holds new) other
    pub known : is_known old → is_known new
