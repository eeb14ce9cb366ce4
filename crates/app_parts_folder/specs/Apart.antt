-- Names that are to be of two files.
use Rattle.std.specs.Prelude.{◌≡◌, ◌≢◌, ◌<◌, ℕ, List}
use Rattle.app_parts_folder.specs.Names.{IsOfFolder, part_name, plan_name, rest_name}
use Rattle.app_parts_folder.specs.Opening.{IsNoMemory}
use Rattle.app_parts_folder.specs.declared.part_file.PartFile.TheVariants.{Book, Batch}
use Rattle.app_parts_folder.specs.declared.parts_fault.PartsFault.{PartsFault}
use Rattle.app_parts_folder.specs.declared.parts_fault.PartsFault.TheVariants as fault

-- Two names are refused: they are one, where that is known; or memory ran out.
abbrev pub IsPairFault : Type 0 → List ℕ → List ℕ → PartsFault → Type 0
IsPairFault known first second (fault.OneFile role other) = known → first ≡ second
IsPairFault known first second (fault.Job job) = IsNoMemory job
IsPairFault known first second _ = ⊥

-- A name is refused: it is that of a file of the folder.
abbrev pub IsOneFileFault : Type 0 → List ℕ → List ℕ → PartsFault → Type 0
IsOneFileFault known folder name (fault.OneFile role other) = known → IsOfFolder folder name
IsOneFileFault known folder name (fault.Job job) = IsNoMemory job
IsOneFileFault known folder name _ = ⊥

-- A name is refused: this is so, where that is known; or memory ran out.
abbrev pub IsNameFault : Type 0 → Type 0 → PartsFault → Type 0
IsNameFault known is_one (fault.OneFile role other) = known → is_one
IsNameFault known is_one (fault.Job job) = IsNoMemory job
IsNameFault known is_one _ = ⊥

-- it is no name of a file that is written for this part
abbrev pub IsOutsidePart : List ℕ → ℕ → List ℕ → Type 0
IsOutsidePart folder part name = (name ≢ part_name folder part Book) × (name ≢ part_name folder part Batch)

-- it is no name of a file that is written for at most so many parts
pub record IsOutside (folder : List ℕ) (most : ℕ) (name : List ℕ) : Type 0 where
  pub plan : name ≢ plan_name folder
  pub rest : name ≢ rest_name folder
  pub parts : (part : ℕ) → part < most → IsOutsidePart folder part name
