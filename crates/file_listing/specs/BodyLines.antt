-- The text of a batch: a line for each body, in hexadecimal digits of lower case. A line ends with a line feed, 10.
use Rattle.std.specs.Prelude.{◌≡◌, ℕ, List, [], ◌∷◌, ◌++◌, Ok}
use Rattle.std.specs.List.{flat_map}
use Rattle.hex.specs.Hex.{encode_lower}
use Rattle.file_laws.specs.Files.{batch_text}
use Rattle.file_laws.specs.Reading.{batch_magic, bodies_at}
use Rattle.file_laws.specs.Reading as batch
use Rattle.file_listing.specs.Bodies as listing

-- the line of a body
abbrev pub body_line : List ℕ → List ℕ
body_line body = encode_lower body ++ 10 ∷ []

-- a line for each body, in order
abbrev pub body_lines : List (List ℕ) → List ℕ
body_lines bodies = flat_map body_line bodies

-- the bytes are read as a batch, and this is the text of its bodies
abbrev pub IsTextOf : List ℕ → List ℕ → Type 0
IsTextOf bytes text = (bodies : List (List ℕ)) × (batch.bodies_of batch_magic bytes ≡ Ok bodies) × (text ≡ body_lines bodies)

-- so many bodies are read, this is their text, and these bytes are left
abbrev pub HasLinesOf : ℕ → List ℕ → List ℕ → List ℕ → Type 0
HasLinesOf count bytes text left = (bodies : List (List ℕ)) × (bodies_at count bytes ≡ Ok (bodies, left)) × (text ≡ body_lines bodies)

-- the text has bodies, and this is the batch file of them
abbrev pub IsPackedFrom : List ℕ → List ℕ → Type 0
IsPackedFrom text bytes = (bodies : List (List ℕ)) × (listing.bodies_of text ≡ Ok bodies) × (bytes ≡ batch_text bodies)
