-- The names of the files of a folder of parts.
use Rattle.std.specs.Prelude.{◌≡◌, ◌⊎◌, ◌<◌, ◌^◌, ℕ, List, ◌++◌, codes, decimal}
use Rattle.app_parts_folder.specs.declared.part_file.PartFile.{PartFile}
use Rattle.app_parts_folder.specs.declared.part_file.PartFile.TheVariants.{Book, Batch, Replies, NewBook, Decided}

-- how the name of a part's file ends
abbrev pub ending_of : PartFile → List ℕ
ending_of Book = codes ".book"
ending_of Batch = codes ".batch"
ending_of Replies = codes ".replies"
ending_of NewBook = codes ".newbook"
ending_of Decided = codes ".decided"

-- the folder, a slash, the part's number in decimal digits, and the ending
abbrev pub part_name : List ℕ → ℕ → PartFile → List ℕ
part_name folder part file = folder ++ (codes "/" ++ (decimal part ++ ending_of file))

abbrev pub plan_name : List ℕ → List ℕ
plan_name folder = folder ++ codes "/plan"

abbrev pub rest_name : List ℕ → List ℕ
rest_name folder = folder ++ codes "/rest.book"

-- it is the name of a file that `part` writes into the folder
abbrev pub IsOfFolder : List ℕ → List ℕ → Type 0
IsOfFolder folder name =
    (name ≡ plan_name folder) ⊎ ((name ≡ rest_name folder)
    ⊎ ((part : ℕ) × (part < 2 ^ 32) × ((name ≡ part_name folder part Book) ⊎ (name ≡ part_name folder part Batch))))

-- it is the name of a file that `decide` writes for this part
abbrev pub IsOfDecided : List ℕ → ℕ → List ℕ → Type 0
IsOfDecided folder part name =
    (name ≡ part_name folder part Replies) ⊎ ((name ≡ part_name folder part NewBook) ⊎ (name ≡ part_name folder part Decided))

-- it is the name of a file that `decide` reads for this part
abbrev pub IsOfRead : List ℕ → ℕ → List ℕ → Type 0
IsOfRead folder part name = (name ≡ plan_name folder) ⊎ ((name ≡ part_name folder part Book) ⊎ (name ≡ part_name folder part Batch))

-- a file that `decide` writes for this part is one that it reads
abbrev pub IsOverRead : List ℕ → ℕ → Type 0
IsOverRead folder part = (name : List ℕ) × IsOfDecided folder part name × IsOfRead folder part name

-- it is the name of a file of this part
abbrev pub IsOfPart : List ℕ → ℕ → List ℕ → Type 0
IsOfPart folder part name = (file : PartFile) × (name ≡ part_name folder part file)

-- it is the name of a file of a folder of so many parts
abbrev pub IsOfParts : List ℕ → ℕ → List ℕ → Type 0
IsOfParts folder count name =
    (name ≡ plan_name folder) ⊎ ((name ≡ rest_name folder) ⊎ ((part : ℕ) × (part < count) × IsOfPart folder part name))
