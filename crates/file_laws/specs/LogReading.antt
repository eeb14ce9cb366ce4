-- Reading a log: its entries and its torn tail, or a fault.
use Rattle.std.specs.Prelude.{◌≡◌, ◌≢◌, ◌⊎◌, ◌<◌, ◌≤◌, ℕ, List, [], ◌++◌, length, take, drop, Result, Ok, Err}
use Rattle.std.specs.List.{AllByRecursion}
use Rattle.file_laws.specs.Files.{AreBodies}
use Rattle.file_laws.specs.Tails.{AreZeros, IsBroken, IsTorn}
use Rattle.file_laws.specs.Texts.{header_text, last_digest, log_letters, log_text, log_version}
use Rattle.file_laws.specs.declared.log_fault.LogFault.{LogFault}
use Rattle.file_laws.specs.declared.log_fault.LogFault.TheVariants.{NoLog, Version, OtherBook, Broken}

-- entries as a log can have them: each of at most 65,536 bodies of 1 to 512 bytes
abbrev pub AreEntries : List (List (List ℕ)) → Type 0
AreEntries entries = AllByRecursion AreBodies entries

-- the bytes are the log of these entries, and behind it these bytes are left
pub record Stands (book bytes : List ℕ) (entries : List (List (List ℕ))) (left : List ℕ) : Type 0 where
  pub are : AreEntries entries
  pub is : bytes ≡ log_text book entries ++ left

-- the bytes are the log of these entries, whose opening book's text has this digest, and a torn tail
pub record IsLogOf (book bytes : List ℕ) (entries : List (List (List ℕ))) (tail : List ℕ) : Type 0 where
  pub stands : Stands book bytes entries tail
  pub torn : IsTorn (last_digest book entries) tail

-- behind so many entries stands what is no entry and no torn tail
pub record IsBrokenAt (book bytes : List ℕ) (number : ℕ) : Type 0 where
  pub entries : List (List (List ℕ))
  pub left : List ℕ
  pub stands : Stands book bytes entries left
  pub count : length entries ≡ number
  pub broken : IsBroken (last_digest book entries) left

-- less than a header, or other letters than a log's
abbrev pub IsNoLog : List ℕ → Type 0
IsNoLog bytes = (length bytes < 38) ⊎ (take 4 bytes ≢ log_letters)

-- a header of another version
pub record IsOfAnotherVersion (bytes : List ℕ) : Type 0 where
  pub long : 38 ≤ length bytes
  pub letters : take 4 bytes ≡ log_letters
  pub version : take 2 (drop 4 bytes) ≢ log_version

-- a header of version 1 with the digest of another book
pub record IsOfAnotherBook (book bytes : List ℕ) : Type 0 where
  pub long : 38 ≤ length bytes
  pub letters : take 4 bytes ≡ log_letters
  pub version : take 2 (drop 4 bytes) ≡ log_version
  pub other : take 32 (drop 6 bytes) ≢ book

-- what reading the bytes gives as the log of a book whose text has this digest: the entries and the torn tail, or the fault
abbrev pub IsReading : List ℕ → List ℕ → Result (List (List (List ℕ)) × List ℕ) LogFault → Type 0
IsReading book bytes (Ok (entries, tail)) = IsLogOf book bytes entries tail
IsReading book bytes (Err NoLog) = IsNoLog bytes
IsReading book bytes (Err Version) = IsOfAnotherVersion bytes
IsReading book bytes (Err OtherBook) = IsOfAnotherBook book bytes
IsReading book bytes (Err (Broken number)) = IsBrokenAt book bytes number
IsReading book bytes (Err _) = ⊥

-- no log was begun yet: less than the header, as a crash leaves it where one is begun, or at most so many zeros
abbrev pub IsUnbegun : List ℕ → List ℕ → Type 0
IsUnbegun book bytes =
    ((rest : List ℕ) × (rest ≢ []) × (header_text book ≡ bytes ++ rest)) ⊎ ((length bytes ≤ 38) × AreZeros bytes)
