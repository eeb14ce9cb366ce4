-- Texts that files are to hold.
use Rattle.std.specs.Prelude.{◌≡◌, ◌≢◌, ◌⊎◌, ⊤, ℕ, List, [], ◌∷◌, map, string_bytes}
use Rattle.std.specs.List.{AllByRecursion}
use Rattle.file_batch.specs.Words.{Failing, Holding}
use Rattle.app_jobs.specs.Faults.{MayNotBePut}
use Rattle.app_jobs.specs.declared.job_fault.JobFault.{JobFault}
use Rattle.app_jobs.specs.declared.job_fault.JobFault.TheVariants.{InUse, Unreadable, Unwritable, OutOfMemory}
use Rattle.app_parts_folder.specs.declared.named_text.NamedText.{NamedText}

-- the file of this name is to hold this text
pub record Text : Type 0 where
  pub name : List ℕ
  pub text : List ℕ

abbrev pub text_of : NamedText → Text
text_of text = record { name = string_bytes text.name; text = text.text.items }

abbrev pub texts_of : List NamedText → List Text
texts_of texts = map text_of texts

-- each of the files holds its text
abbrev pub AreHeld : Holding → List Text → Type 0
AreHeld holds texts = AllByRecursion (λ text. holds text.name text.text) texts

-- the name is none of theirs
abbrev pub IsNoneOf : List ℕ → List Text → Type 0
IsNoneOf name texts = AllByRecursion (λ text. text.name ≢ name) texts

-- no two have the same name
abbrev pub AreDistinct : List Text → Type 0
AreDistinct [] = ⊤
AreDistinct (text ∷ texts) = IsNoneOf text.name texts × AreDistinct texts

-- one of the names is such
abbrev pub HasOne : (List ℕ → Type 0) → List Text → Type 0
HasOne is_such [] = ⊥
HasOne is_such (text ∷ texts) = is_such text.name ⊎ HasOne is_such texts

-- Why texts aren't put into their files: another run writes one of these; one isn't written or put in its place; or memory ran out.
abbrev pub IsPutFault : Failing → List Text → JobFault → Type 0
IsPutFault failing texts InUse = HasOne failing.in_use texts
IsPutFault failing texts Unwritable = HasOne (MayNotBePut failing) texts
IsPutFault failing texts OutOfMemory = Unit {0}
IsPutFault failing texts _ = ⊥

-- These bytes were read from the file of this name: it holds them, where it is known what files hold, and no others.
pub record IsHeld (known : Type 0) (holds : Holding) (name bytes : List ℕ) : Type 0 where
  pub there : known → holds name bytes
  pub only : (others : List ℕ) → holds name others → bytes ≡ others

-- why a file isn't read: a call on it failed, or it isn't there; or memory ran out
abbrev pub IsReadingFault : Holding → Failing → List ℕ → JobFault → Type 0
IsReadingFault holds failing name Unreadable = (bytes : List ℕ) → holds name bytes → failing.reading name
IsReadingFault holds failing name OutOfMemory = Unit {0}
IsReadingFault holds failing name _ = ⊥
