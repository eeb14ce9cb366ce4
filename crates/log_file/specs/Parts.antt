-- What stands next behind the whole entries of a log, as it is read.
use Rattle.std.specs.Prelude.{◌≡◌, ◌≢◌, ℕ, List, ◌++◌, length}
use Rattle.sha2.specs.Sha256.{sha256}
use Rattle.file_laws.specs.Files.{AreBodies}
use Rattle.file_laws.specs.Tails.{BeginsWith, IsBroken, IsTorn}
use Rattle.file_laws.specs.Texts.{entry_text, next_digest, payload_text}
use Rattle.log_file.specs.declared.part.Part.{Part}
use Rattle.log_file.specs.declared.part.Part.TheVariants.{Entry, Torn, Broken}
use Rattle.log_file.specs.declared.part.Checked.{Checked}
use Rattle.log_file.specs.declared.part.Checked.TheVariants.{Whole, NoBodies, Unmatched}

-- behind the entry of this digest, the bytes begin with that part, and these are left
abbrev pub IsPart : List ℕ → List ℕ → List ℕ → Part → Type 0
IsPart before bytes left (Entry entry) =
    BeginsWith before bytes entry.bodies left × (entry.digest ≡ next_digest before entry.bodies) × (entry.size ≡ length (entry_text before entry.bodies))
IsPart before bytes left (Torn tail) = IsTorn before bytes × (tail ≡ length bytes)
IsPart before bytes left Broken = IsBroken before bytes

-- whether a payload has bodies, and this digest
abbrev pub IsChecked : List ℕ → List ℕ → List ℕ → Checked → Type 0
IsChecked before payload digest (Whole bodies) = (digest ≡ sha256 (before ++ payload)) × AreBodies bodies × (payload ≡ payload_text bodies)
IsChecked before payload digest NoBodies = (digest ≡ sha256 (before ++ payload)) × ((bodies : List (List ℕ)) → AreBodies bodies → payload ≢ payload_text bodies)
IsChecked before payload digest Unmatched = digest ≢ sha256 (before ++ payload)
