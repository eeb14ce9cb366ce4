-- Reading a batch from left to right, with the first fault that is met.
use Rattle.std.specs.Prelude.{◌≡◌, ℕ, zero, suc, ◌||◌, List, [], ◌∷◌, length, take, drop, Result, Ok, Err, nat_lt, ◌==◌, if◌then◌else◌, codes, IsTrue}
use Rattle.std.specs.Str.{bytes_eq}
use Rattle.byteorder.specs.Endian.{big_number}
use Rattle.file_laws.specs.BatchFault.{is_of_bytes}
use Rattle.file_laws.specs.declared.batch_fault.BatchFault.{BatchFault}
use Rattle.file_laws.specs.declared.batch_fault.BatchFault.TheVariants.{Magic, Version, Count, Length, Ended, Trailing}

infixl 10 ◌>>=◌
-- go on with what was read, or stay at the first fault
abbrev pub ◌>>=◌ : {A B : Type 0} → Result A BatchFault → (A → Result B BatchFault) → Result B BatchFault
(Ok x) >>= f = f x
(Err e) >>= f = Err e

-- so many bytes, and the bytes after them
abbrev pub field_at : ℕ → List ℕ → Result (List ℕ × List ℕ) BatchFault
field_at size bytes = if nat_lt (length bytes) size then Err Ended else Ok (take size bytes, drop size bytes)

-- four bytes that are these letters
unfoldable pub magic_at : List ℕ → List ℕ → Result (List ℕ × List ℕ) BatchFault
magic_at magic bytes = do
  x ← field_at 4 bytes
  if bytes_eq x.0 magic then Ok x else Err Magic

-- a number of so many bytes, the highest first
unfoldable pub number_at : ℕ → List ℕ → Result (ℕ × List ℕ) BatchFault
number_at size bytes = do
  x ← field_at size bytes
  Ok (big_number size x.0, x.1)

-- version 1
unfoldable pub version_at : List ℕ → Result (ℕ × List ℕ) BatchFault
version_at bytes = do
  version ← number_at 2 bytes
  if version.0 == 1 then Ok version else Err Version

-- how many bodies follow: at most 65,536
unfoldable pub count_at : List ℕ → Result (ℕ × List ℕ) BatchFault
count_at bytes = do
  count ← number_at 4 bytes
  if nat_lt 65536 count.0 then Err Count else Ok count

-- the letters, version 1, and the count
unfoldable pub head_at : List ℕ → List ℕ → Result (ℕ × List ℕ) BatchFault
head_at magic bytes = do
  letters ← magic_at magic bytes
  version ← version_at letters.1
  count_at version.1

-- a length from 1 to 512
unfoldable pub length_at : List ℕ → Result (ℕ × List ℕ) BatchFault
length_at bytes = do
  n ← number_at 2 bytes
  if n.0 == 0 || nat_lt 512 n.0 then Err Length else Ok n

-- a length and a body of so many bytes
unfoldable pub body_at : List ℕ → Result (List ℕ × List ℕ) BatchFault
body_at bytes = do
  n ← length_at bytes
  field_at n.0 n.1

-- so many bodies
unfoldable pub bodies_at : ℕ → List ℕ → Result (List (List ℕ) × List ℕ) BatchFault
bodies_at zero bytes = Ok ([], bytes)
bodies_at (suc n) bytes = do
  body ← body_at bytes
  others ← bodies_at n body.1
  Ok (body.0 ∷ others.0, others.1)

-- nothing is left
abbrev pub ended : List ℕ → Result (Unit {0}) BatchFault
ended [] = Ok tt
ended (byte ∷ bytes) = Err Trailing

-- the bodies of a file that begins with these letters, or the first fault
unfoldable pub bodies_of : List ℕ → List ℕ → Result (List (List ℕ)) BatchFault
bodies_of magic bytes = do
  count ← head_at magic bytes
  bodies ← bodies_at count.0 count.1
  _ ← ended bodies.1
  Ok bodies.0

-- the letters of a batch file, and of a reply file
abbrev pub batch_magic : List ℕ
batch_magic = codes "I83B"

abbrev pub replies_magic : List ℕ
replies_magic = codes "I83R"

-- what a function returned, seen by view, with these bytes left, is what reading gives, unless the device or memory failed
abbrev pub Gives : {X Y : Type 0} → (X → Y) → Result X BatchFault → List ℕ → Result (Y × List ℕ) BatchFault → Type 0
Gives view (Ok x) left read = read ≡ Ok (view x, left)
Gives view (Err e) left read = IsTrue (is_of_bytes e) → read ≡ Err e

-- the same of a function that leaves nothing
abbrev pub GivesWhole : {X Y : Type 0} → (X → Y) → Result X BatchFault → Result Y BatchFault → Type 0
GivesWhole view (Ok x) read = read ≡ Ok (view x)
GivesWhole view (Err e) read = IsTrue (is_of_bytes e) → read ≡ Err e
