-- The bodies of a batch, or of a block of a file, as a text, by what the file holds.
use Rattle.std.specs.Prelude.{◌≡◌, ◌≤◌, ⊤, ℕ, List, Option, Some, Err, length, slice_get}
use Rattle.std.specs.Io.KnownBytes.{Appends}
use Rattle.file_batch.specs.Words.{Failing, Holding, IsThere, batch_magic, bodies_of}
use Rattle.file_listing.specs.BlockLines.{AreTextsOf, FailsAsBlockFile}
use Rattle.file_listing.specs.BodyLines.{IsTextOf}
use Rattle.app_jobs.specs.declared.job_fault.JobFault.{JobFault}
use Rattle.app_jobs.specs.declared.job_fault.JobFault.TheVariants.{Unreadable, Batch, OutOfMemory}
use Rattle.app_messages.specs.declared.unpack_asking.UnpackAsked.{UnpackAsked}
use Rattle.app_messages.specs.declared.unpack_asking.UnpackAsked.TheVariants as asked
use Rattle.app_messages.specs.declared.block_fault.BlockFault.{BlockFault}
use Rattle.app_messages.specs.declared.block_fault.BlockFault.TheVariants as block

-- This is the text of the bodies of the batch of this name. Where it is known what files hold, it was there.
pub record IsUnpacked (known : Type 0) (holds : Holding) (name text : List ℕ) : Type 0 where
  pub there : known → IsThere holds name
  pub lines : (bytes : List ℕ) → holds name bytes → IsTextOf bytes text

-- the bytes are read as blocks, and this is the text of the block of this number, from 0 on
abbrev pub IsTextOfBlock : List ℕ → ℕ → List ℕ → Type 0
IsTextOfBlock bytes number text = (texts : List (List ℕ)) × AreTextsOf bytes texts × (slice_get texts number ≡ Some text)

-- This is the text of the block of this number of the file of this name. Where it is known what files hold, it was there.
pub record IsBlockUnpacked (known : Type 0) (holds : Holding) (name : List ℕ) (number : ℕ) (text : List ℕ) : Type 0 where
  pub there : known → IsThere holds name
  pub lines : (bytes : List ℕ) → holds name bytes → IsTextOfBlock bytes number text

-- Why the file of this name is not unpacked: its first fault, as a batch; a call on it failed; or memory ran out.
abbrev pub IsUnpackFault : Holding → Failing → List ℕ → JobFault → Type 0
IsUnpackFault holds failing name (Batch fault) = (bytes : List ℕ) → holds name bytes → bodies_of batch_magic bytes ≡ Err fault
IsUnpackFault holds failing name Unreadable = (bytes : List ℕ) → holds name bytes → failing.reading name
IsUnpackFault holds failing name OutOfMemory = ⊤
IsUnpackFault holds failing name fault = ⊥

-- Why the file of this name is not read as blocks: its first fault, as a file of blocks; a call on it failed; or memory ran out.
abbrev pub IsTextsFault : Holding → Failing → List ℕ → JobFault → Type 0
IsTextsFault holds failing name (Batch fault) = (bytes : List ℕ) → holds name bytes → FailsAsBlockFile bytes fault
IsTextsFault holds failing name Unreadable = (bytes : List ℕ) → holds name bytes → failing.reading name
IsTextsFault holds failing name OutOfMemory = ⊤
IsTextsFault holds failing name fault = ⊥

-- Why the block of this number is not unpacked: the file isn't read; or it has so many blocks, and none of this number.
abbrev pub IsBlockFault : Holding → Failing → List ℕ → ℕ → BlockFault → Type 0
IsBlockFault holds failing name number (block.Job fault) = IsTextsFault holds failing name fault
IsBlockFault holds failing name number (block.Number count) =
    (count ≤ number) × ((bytes : List ℕ) → holds name bytes → (texts : List (List ℕ)) × AreTextsOf bytes texts × (count ≡ length texts))

-- the exit status of a fault
abbrev pub status_of_fault : BlockFault → ℕ
status_of_fault (block.Job fault) = 1
status_of_fault (block.Number count) = 2

-- What is asked for is said, behind what was said before: of a batch, or of a block, the text of its bodies.
abbrev pub IsSaid : Type 0 → Holding → UnpackAsked → Option (List ℕ) → Option (List ℕ) → Type 0
IsSaid known holds (asked.Batch name) before after = (text : List ℕ) × IsUnpacked known holds name.now text × Appends before after text
IsSaid known holds (asked.Block name number) before after =
    (text : List ℕ) × IsBlockUnpacked known holds name.now number text × Appends before after text
IsSaid known holds asked.Help before after = ⊤
IsSaid known holds asked.Wrong before after = ⊥
