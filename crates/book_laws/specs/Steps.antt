-- Readings that stop at the first fault.
use Rattle.std.specs.Prelude.{◌≡◌, Bool, Option, Some, None, Result, Ok, Err, if◌then◌else◌}
use Rattle.book_laws.specs.declared.text_fault.TextFault.{TextFault}
use Rattle.book_laws.specs.declared.text_fault.TextFault.TheVariants.{Syntax, Shape, Range, OutOfMemory}

infixl 10 ◌>>=◌
-- go on with what was read, or stay at the first fault
abbrev pub ◌>>=◌ : {A B : Type 0} → Result A TextFault → (A → Result B TextFault) → Result B TextFault
(Ok x) >>= f = f x
(Err e) >>= f = Err e

-- the value, or the fault where there is none
abbrev pub or_fault : {A : Type 0} → TextFault → Option A → Result A TextFault
or_fault fault None = Err fault
or_fault fault (Some x) = Ok x

-- the value where the test holds; else it is out of range
abbrev pub in_range : {A : Type 0} → Bool → A → Result A TextFault
in_range fits x = if fits then Ok x else Err Range

-- what a function returned, seen by view, is what is read
abbrev pub Gives : {X Y : Type 0} → (X → Y) → Result X TextFault → Result Y TextFault → Type 0
Gives view (Ok x) read = read ≡ Ok (view x)
Gives view (Err e) read = read ≡ Err e

-- the fault is the first one that is read, or memory ran out
abbrev pub IsFaultOrMemory : {Y : Type 0} → TextFault → Result Y TextFault → Type 0
IsFaultOrMemory Syntax read = read ≡ Err Syntax
IsFaultOrMemory (Shape part) read = read ≡ Err (Shape part)
IsFaultOrMemory Range read = read ≡ Err Range
IsFaultOrMemory OutOfMemory read = Unit {0}

-- what a function returned, seen by view, is what is read, or memory ran out
abbrev pub GivesOrMemory : {X Y : Type 0} → (X → Y) → Result X TextFault → Result Y TextFault → Type 0
GivesOrMemory view (Ok x) read = read ≡ Ok (view x)
GivesOrMemory view (Err e) read = IsFaultOrMemory e read
