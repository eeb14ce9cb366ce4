-- The body that a type and words make, and why they make none.
use Rattle.std.specs.Prelude.{◌≡◌, ◌≢◌, ⊤, ℕ, List, ◌∷◌, ◌++◌, length, Ok, Err, None}
use Rattle.iso8583.specs.declared.codec_fault.CodecFault.TheVariants.{BadMti}
use Rattle.iso8583.specs.declared.message.Message.{Message}
use Rattle.iso_laws.specs.Messages.{Spells}
use Rattle.iso_laws.specs.Reading.{mti_at, reading}
use Rattle.iso_laws.specs.Spelling.{fields, spelling}
use Rattle.iso_laws.specs.Types.{taken_in}
use Rattle.iso_laws.specs.declared.mti.Mti.{Mti}
use Rattle.message_text.specs.Givens.{AreGiven, HasWrongValue, IsGivenBy, NamesNone, texts_of}
use Rattle.message_text.specs.declared.given.Given.{Given}
use Rattle.message_text.specs.declared.make_fault.MakeFault.{MakeFault}
use Rattle.message_text.specs.declared.make_fault.MakeFault.TheVariants.{Kind, Word, Twice, Value, Body, OutOfMemory}

-- the bytes are the spelling of this type with the elements that the words give
pub record IsSpelledBy (kind : List ℕ) (words : List (List ℕ)) (bytes : List ℕ) : Type 0 where
  pub mti : Mti
  pub named : mti_at taken_in kind ≡ Ok mti
  pub givens : List Given
  pub given : AreGiven words givens
  pub spelled : bytes ≡ spelling mti (fields (texts_of givens))

-- the same, and they spell a message
pub record IsMade (kind : List ℕ) (words : List (List ℕ)) (body : List ℕ) : Type 0 where
  pub by : IsSpelledBy kind words body
  pub message : Message
  pub spells : Spells body message

-- the words before this one give elements, each once
pub record IsBehind (words : List (List ℕ)) (front : List (List ℕ)) (givens : List Given) (word : List ℕ) : Type 0 where
  pub more : List (List ℕ)
  pub parts : words ≡ front ++ word ∷ more
  pub given : AreGiven front givens

-- a word behind those that give elements is the first that such a thing holds of
abbrev pub FirstWord : List (List ℕ) → (List (List ℕ) → List Given → List ℕ → Type 0) → Type 0
FirstWord words is =
    (front : List (List ℕ)) × (givens : List Given) × (word : List ℕ) × IsBehind words front givens word × is front givens word

-- what is wrong with the word at this place
abbrev pub IsWordFault : ℕ → List ℕ → MakeFault → Type 0
IsWordFault place word (Word n) = (n ≡ place) × NamesNone word
IsWordFault place word (Value e) = HasWrongValue word e
IsWordFault place word OutOfMemory = ⊤
IsWordFault _ _ _ = ⊥

-- Why words don't give elements: the first one that gives none, has a wrong value, or gives one again; or memory ran out.
abbrev pub IsGivingFault : List (List ℕ) → MakeFault → Type 0
IsGivingFault words (Word n) = FirstWord words (λ front givens word. IsWordFault (length front) word (Word n))
IsGivingFault words (Value e) = FirstWord words (λ front givens word. IsWordFault (length front) word (Value e))
IsGivingFault words (Twice e) =
    FirstWord words (λ front givens word. (given : Given) × IsGivenBy word given × (given.element ≡ e) × (texts_of givens e ≢ None))
IsGivingFault words OutOfMemory = ⊤
IsGivingFault _ _ = ⊥

-- Why no body is made: the type is none; a word gives no element as it should; the fault of the bytes that type and elements spell; or
-- memory ran out.
abbrev pub IsMakeFault : List ℕ → List (List ℕ) → MakeFault → Type 0
IsMakeFault kind words Kind = mti_at taken_in kind ≡ Err BadMti
IsMakeFault kind words (Body fault) = (bytes : List ℕ) × IsSpelledBy kind words bytes × (reading taken_in bytes ≡ Err fault)
IsMakeFault kind words fault = IsGivingFault words fault
