-- Which file holds which bytes, and what of that stays.
use Rattle.std.specs.Prelude.{◌≢◌, ◌⊎◌, ⊤, ℕ, List, [], ◌∷◌, string_bytes}
use Rattle.file_devices.specs.declared.written.Written.{Written}

-- which file holds which bytes
abbrev pub Holding : Type 1
Holding = List ℕ → List ℕ → Type 0

-- there is a file of this name
abbrev pub IsThere : Holding → List ℕ → Type 0
IsThere holding name = (bytes : List ℕ) × holding name bytes

-- the file of this name is as it was: it holds what it held, and where there was none, there is none
pub record IsAsItWas (old new : Holding) (name : List ℕ) : Type 0 where
  pub kept : (bytes : List ℕ) → old name bytes → new name bytes
  pub no_other : (bytes : List ℕ) → new name bytes → old name bytes

-- all files are as they were
abbrev pub AreAsTheyWere : Holding → Holding → Type 0
AreAsTheyWere old new = (name : List ℕ) → IsAsItWas old new name

-- none of these files is put under this name
unfoldable pub IsNoneNamed : {O : Type 0} → List ℕ → List (Written O) → Type 0
IsNoneNamed name [] = ⊤
IsNoneNamed name (file ∷ files) = (string_bytes file.name ≢ name) × IsNoneNamed name files

-- one of these files has a name of which this holds
unfoldable pub HasOneNamed : {O : Type 0} → (List ℕ → Type 0) → List (Written O) → Type 0
HasOneNamed is_such [] = ⊥
HasOneNamed is_such (file ∷ files) = is_such (string_bytes file.name) ⊎ HasOneNamed is_such files

-- each of these files that is known holds what was written to it, unless a later one has its name
unfoldable pub ArePlaced : {O : Type 0} → (O → Type 0) → (O → List ℕ) → Holding → List (Written O) → Type 0
ArePlaced is_known written new [] = ⊤
ArePlaced is_known written new (file ∷ files) =
    (is_known file.output → IsNoneNamed (string_bytes file.name) files → new (string_bytes file.name) (written file.output))
    × ArePlaced is_known written new files
