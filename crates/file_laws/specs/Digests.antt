-- What the digests of a log are taken over.
use Rattle.std.specs.Prelude.{◌≡◌, ◌≢◌, ◌⊎◌, ℕ, List, ◌∷◌, ◌++◌}
use Rattle.sha2.specs.Sha256.{sha256}
use Rattle.file_laws.specs.Texts.{header_text, last_digest, payload_text}

-- a digest of this log is taken over this text: it is the header, or the digest before one of its entries and that entry's payload
abbrev pub IsHashed : List ℕ → List (List (List ℕ)) → List ℕ → Type 0
IsHashed book entries text =
    (text ≡ header_text book)
    ⊎ ((front : List (List (List ℕ))) × (bodies : List (List ℕ)) × (behind : List (List (List ℕ)))
    × (entries ≡ front ++ bodies ∷ behind) × (text ≡ last_digest book front ++ payload_text bodies))

-- a text of the one log and one of the other that differ and have one digest: a collision of SHA-256
pub record Collide (book : List ℕ) (entries others : List (List (List ℕ))) : Type 0 where
  pub text : List ℕ
  pub other : List ℕ
  pub hashed : IsHashed book entries text
  pub other_hashed : IsHashed book others other
  pub differ : text ≢ other
  pub one_digest : sha256 text ≡ sha256 other
