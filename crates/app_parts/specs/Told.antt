-- What is said of parts, and the exit status.
use Rattle.std.specs.Prelude.{◌≡◌, ◌≤◌, ◌⊎◌, ℕ, suc, List, [], ◌∷◌, ◌++◌, Option, codes, decimal}
use Rattle.std.specs.Io.KnownBytes.{Appends}
use Rattle.file_batch.specs.Words.{AreAsTheyWere, Failing, Holding}
use Rattle.app_parts_folder.specs.Faults.{IsDecidingFault, IsJoiningFault, IsOverFolder, IsPartingFault, status_of}
use Rattle.app_parts_folder.specs.Joining as joining
use Rattle.app_parts_folder.specs.Joining.{IsJoined, IsPartDecided}
use Rattle.app_parts_folder.specs.Names.{IsOfDecided, IsOfFolder}
use Rattle.app_parts_folder.specs.Parting as parting
use Rattle.app_parts_folder.specs.Parting.{IsParted}
use Rattle.app_parts.specs.declared.asking.PartsAsked.{PartsAsked}
use Rattle.app_parts.specs.declared.asking.PartsAsked.TheVariants.{Part, Decide, Join, Help, Wrong}
use Rattle.app_parts_folder.specs.declared.part_count.PartCount.{PartCount}
use Rattle.app_parts_folder.specs.declared.parts_fault.PartsFault.{PartsFault}

-- the line of a part: its number, its messages and its rows
abbrev pub count_line : ℕ → PartCount → List ℕ
count_line part count =
    codes "part " ++ (decimal part ++ (codes ": " ++ (decimal count.messages ++ (codes " messages, " ++ (decimal count.rows ++ codes " rows\n")))))

-- a line for each part, from this number on
abbrev pub count_lines : ℕ → List PartCount → List ℕ
count_lines part [] = []
count_lines part (count ∷ counts) =
    count_line part count ++ count_lines (suc part) counts

-- the line of what was done, with so many messages
abbrev pub done_line : List ℕ → ℕ → List ℕ
done_line done count = done ++ (codes " " ++ (decimal count ++ codes "\n"))

-- The status where this text is to be said behind the work: 0 where it is said, behind what was said before; 1 where it couldn't be said.
abbrev pub IsSaid : Option (List ℕ) → Option (List ℕ) → List ℕ → ℕ → Type 0
IsSaid before after text status = ((status ≡ 0) × Appends before after text) ⊎ (status ≡ 1)

-- A status behind a fault: that of the fault, and all files are as they were.
abbrev pub IsRefused : Holding → Holding → (PartsFault → Type 0) → ℕ → Type 0
IsRefused old new is_fault status = (fault : PartsFault) × (status ≡ status_of fault) × is_fault fault × AreAsTheyWere old new

-- The exit status: 0 where it is done and said; 1, too, where it couldn't be said; else that of the fault. Parts that are put together are not
-- written over a file of the folder. Help and wrong words leave all files as they were; these have status 2.
abbrev pub IsAnswered : Type 0 → Holding → Holding → Failing → PartsAsked → Option (List ℕ) → Option (List ℕ) → ℕ → Type 0
IsAnswered known old new failing (Part names most) before after status =
    ((counts : List PartCount) × IsParted known old new (parting.names_of names) most counts × IsSaid before after (count_lines 0 counts) status)
    ⊎ IsRefused old new (IsPartingFault known old failing (parting.names_of names)) status
IsAnswered known old new failing (Decide folder part) before after status =
    ((count : ℕ) × IsPartDecided known old new folder.now part count × IsSaid before after (done_line (codes "decided") count) status)
    ⊎ IsRefused old new (IsDecidingFault known old failing folder.now part) status
IsAnswered known old new failing (Join names) before after status =
    ((count : ℕ) × IsJoined known old new (joining.names_of names) count × (known → ¬ IsOverFolder old (joining.names_of names))
    × IsSaid before after (done_line (codes "joined") count) status)
    ⊎ IsRefused old new (IsJoiningFault known old failing (joining.names_of names)) status
IsAnswered known old new failing (Help text) before after status = (status ≤ 1) × AreAsTheyWere old new
IsAnswered known old new failing (Wrong usage) before after status = (status ≡ 2) × AreAsTheyWere old new

-- the file of this name may be written
abbrev pub IsWritten : PartsAsked → List ℕ → Type 0
IsWritten (Part names most) name = IsOfFolder names.folder.now name
IsWritten (Decide folder part) name = IsOfDecided folder.now part name
IsWritten (Join names) name = (name ≡ names.replies.now) ⊎ (name ≡ names.new_book.now)
IsWritten _ name = ⊥
