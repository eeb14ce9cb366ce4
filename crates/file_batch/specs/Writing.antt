-- What is written to a sink.
use Rattle.std.specs.Prelude.{◌≡◌, ℕ, List, ◌++◌, length}
use Rattle.std.specs.List.{flat_map}
use Rattle.file_laws.specs.Files.{framed, head_text}
pub use Rattle.file_devices.specs.Appending.{AppendsPart}

-- a file with these letters and these items, each behind its length
abbrev pub items_text : {A : Type 0} → (A → List ℕ) → List ℕ → List A → List ℕ
items_text text magic items = head_text magic (length items) ++ flat_map (λ item. framed (text item)) items

-- a front of what was to be written was appended, and the rest is still to be written
abbrev pub Moves : List ℕ → List ℕ → List ℕ → List ℕ → Type 0
Moves old new before after = (front : List ℕ) × (new ≡ old ++ front) × (before ≡ front ++ after)
