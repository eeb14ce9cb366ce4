-- Texts in HTML.
use Rattle.std.specs.Prelude.{◌≡◌, ◌≢◌, ◌⊎◌, ℕ, ◌==◌, if◌then◌else◌, List, [], ◌∷◌, ◌++◌, codes}
use Rattle.std.specs.List.{AllByRecursion, flat_map}

-- a character as it stands in a page: < > & and " as entities
abbrev pub escaped_byte : ℕ → List ℕ
escaped_byte c =
    if c == 60 then codes "&lt;"
    else (if c == 62 then codes "&gt;"
    else (if c == 38 then codes "&amp;"
    else (if c == 34 then codes "&quot;" else c ∷ [])))

-- a text as it stands in a page
abbrev pub escaped : List ℕ → List ℕ
escaped text = flat_map escaped_byte text

-- no < and no >, which would begin or end markup
abbrev pub IsPlain : List ℕ → Type 0
IsPlain html = AllByRecursion (λ c. (c ≢ 60) × (c ≢ 62)) html

-- what a reader of HTML takes for one character at the front: an entity for its character, and each other but < > & for itself
abbrev pub BeginsWith : List ℕ → ℕ → List ℕ → Type 0
BeginsWith html c rest =
    ((c ≡ 60) × (html ≡ codes "&lt;" ++ rest))
    ⊎ (((c ≡ 62) × (html ≡ codes "&gt;" ++ rest))
    ⊎ (((c ≡ 38) × (html ≡ codes "&amp;" ++ rest))
    ⊎ (((c ≡ 34) × (html ≡ codes "&quot;" ++ rest))
    ⊎ ((c ≢ 60) × (c ≢ 62) × (c ≢ 38) × (html ≡ c ∷ rest)))))

-- a reader of HTML takes it for this text
abbrev pub IsReadAs : List ℕ → List ℕ → Type 0
IsReadAs html [] = html ≡ []
IsReadAs html (c ∷ text) = (rest : List ℕ) × BeginsWith html c rest × IsReadAs rest text
