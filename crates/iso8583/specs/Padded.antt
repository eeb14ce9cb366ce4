-- A text whose length may vary, kept in an array with zeros behind it.
use Rattle.std.specs.Prelude.{◌≡◌, ℕ, ◌-◌, ◌≤◌, List, ◌++◌, length, take, drop, replicate}
use Rattle.std.proofs.lemmas.List.{length-take-le, take-append-drop}
use Rattle.iso8583.specs.Class.{IsDigits, IsPrintable}

-- from `min` to `max` digits
abbrev pub HasDigits : ℕ → ℕ → List ℕ → Type 0
HasDigits min max text = (min ≤ length text) × (length text ≤ max) × IsDigits text

-- from `min` to `max` printable characters
abbrev pub HasPrintable : ℕ → ℕ → List ℕ → Type 0
HasPrintable min max text = (min ≤ length text) × (length text ≤ max) × IsPrintable text

-- an array of `max` bytes has a text of a class, from `min` to `max` characters, and zeros behind it
pub record IsPadded (IsOfClass : List ℕ → Type 0) (min max : ℕ) (bytes : List ℕ) (len : ℕ) : Type 0 where
  pub size : length bytes ≡ max
  pub at_least : min ≤ len
  pub at_most : len ≤ max
  pub zeros : drop len bytes ≡ replicate (max - len) 0
  pub class : IsOfClass (take len bytes)

module _ (IsOfClass : List ℕ → Type 0) (min max : ℕ) (bytes : List ℕ) (len : ℕ) (h : IsPadded IsOfClass min max bytes len) where
  -- the text's length is that of the field
  pub length_back : length (take len bytes) ≡ len
  length_back =
      let within : len ≤ length bytes = rw h.size h.at_most in
      length-take-le len bytes within

  -- the text with zeros behind it is the array
  pub bytes_back : take len bytes ++ replicate (max - length (take len bytes)) 0 ≡ bytes
  bytes_back =
      rw (length_back, ← h.zeros) (take-append-drop len bytes)
