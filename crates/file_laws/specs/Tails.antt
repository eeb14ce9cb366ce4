-- What may stand behind the whole entries of a log.
use Rattle.std.specs.Prelude.{◌≡◌, ◌≢◌, ◌⊎◌, ◌<◌, ◌^◌, ◌+◌, ℕ, List, ◌++◌, length}
use Rattle.std.specs.List.{AllByRecursion}
use Rattle.sha2.specs.Sha256.{sha256}
use Rattle.file_laws.specs.Files.{AreBodies}
use Rattle.file_laws.specs.Texts.{entry_head, entry_text}

-- every byte is 0
abbrev pub AreZeros : List ℕ → Type 0
AreZeros bytes = AllByRecursion (λ byte. byte ≡ 0) bytes

-- the head of an entry, and less than the payload and the digest that have to follow
pub record IsCutShort (tail : List ℕ) : Type 0 where
  pub size : ℕ
  pub rest : List ℕ
  pub fits : size < 2 ^ 32
  pub is : tail ≡ entry_head size ++ rest
  pub short : length rest < size + 32

-- one entry whose digest isn't that of its payload, behind the digest before it
pub record IsUnmatched (before tail : List ℕ) : Type 0 where
  pub payload : List ℕ
  pub digest : List ℕ
  pub fits : length payload < 2 ^ 32
  pub is : tail ≡ entry_head (length payload) ++ payload ++ digest
  pub width : length digest ≡ 32
  pub other : digest ≢ sha256 (before ++ payload)

-- A torn tail, behind the entry of this digest, up to the end of the file: less than the head of an entry, or a head and less than its
-- entry, or one entry whose digest doesn't fit, or zeros.
abbrev pub IsTorn : List ℕ → List ℕ → Type 0
IsTorn before tail = (length tail < 8) ⊎ (IsCutShort tail ⊎ (IsUnmatched before tail ⊎ AreZeros tail))

-- an entry stands at the beginning, and these bytes behind it
pub record BeginsWith (before bytes : List ℕ) (bodies : List (List ℕ)) (left : List ℕ) : Type 0 where
  pub are : AreBodies bodies
  pub is : bytes ≡ entry_text before bodies ++ left

-- no torn tail, and no entry
pub record IsBroken (before left : List ℕ) : Type 0 where
  pub not_torn : ¬ IsTorn before left
  pub no_entry : (bodies : List (List ℕ)) (rest : List ℕ) → ¬ BeginsWith before left bodies rest
