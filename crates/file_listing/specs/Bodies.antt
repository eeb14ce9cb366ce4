-- The text of a batch: one body a line, in hexadecimal. Lines end at a line feed, 10; a comment begins with `#`, 35.
use Rattle.std.specs.Prelude.{◌≡◌, ◌≢◌, ℕ, ◌+◌, ◌<◌, ◌==◌, ◌&&◌, nat_le, if◌then◌else◌, List, [], ◌∷◌, ◌++◌, length, Option, Some, None, Result, Ok, Err}
use Rattle.std.specs.List.{AllByRecursion}
use Rattle.hex.specs.Hex.{decode_of}
use Rattle.hex.specs.declared.FromHexError.{FromHexError}

abbrev pub with_first : ℕ → List (List ℕ) → List (List ℕ)
with_first c [] = (c ∷ []) ∷ []
with_first c (line ∷ lines) = (c ∷ line) ∷ lines

-- the lines, without their line feeds; behind the last line feed stands one more, which may be empty
abbrev pub lines_of : List ℕ → List (List ℕ)
lines_of [] = [] ∷ []
lines_of (c ∷ cs) = if c == 10 then [] ∷ lines_of cs else with_first c (lines_of cs)

abbrev pub fitting : Result (List ℕ) FromHexError → Option (List ℕ)
fitting (Ok body) = if nat_le 1 (length body) && nat_le (length body) 512 then Some body else None
fitting (Err e) = None

-- the body that these digits stand for, if they are 1 to 512 pairs of hexadecimal digits, in either case
abbrev pub body_of : List ℕ → Option (List ℕ)
body_of digits = fitting (decode_of digits)

abbrev pub alone : Option (List ℕ) → Option (List (List ℕ))
alone (Some body) = Some (body ∷ [])
alone None = None

-- the bodies of one line: none where it is empty or a comment, else the one that it stands for; `None` is a wrong line
abbrev pub line_bodies : List ℕ → Option (List (List ℕ))
line_bodies [] = Some []
line_bodies (c ∷ cs) = if c == 35 then Some [] else alone (body_of (c ∷ cs))

-- the text has no line feed
abbrev pub HasNoFeed : List ℕ → Type 0
HasNoFeed text = AllByRecursion (λ c. c ≢ 10) text

-- the line's bodies are added
pub record AddsBodies (line : List ℕ) (old new : List (List ℕ)) : Type 0 where
  pub bodies : List (List ℕ)
  pub are : line_bodies line ≡ Some bodies
  pub added : new ≡ old ++ bodies

abbrev pub behind : List (List ℕ) → Result (List (List ℕ)) ℕ → Result (List (List ℕ)) ℕ
behind front (Ok bodies) = Ok (front ++ bodies)
behind front (Err n) = Err n

abbrev pub then_bodies : ℕ → Option (List (List ℕ)) → Result (List (List ℕ)) ℕ → Result (List (List ℕ)) ℕ
then_bodies n (Some bodies) rest = behind bodies rest
then_bodies n None rest = Err n

-- the bodies of all lines, of which the first has this number; or the number of the first wrong line
abbrev pub bodies_from : ℕ → List (List ℕ) → Result (List (List ℕ)) ℕ
bodies_from n [] = Ok []
bodies_from n (line ∷ lines) = then_bodies n (line_bodies line) (bodies_from (n + 1) lines)

-- the bodies of a text, or the number of its first wrong line, counted from 1
abbrev pub bodies_of : List ℕ → Result (List (List ℕ)) ℕ
bodies_of text = bodies_from 1 (lines_of text)

-- the text has more bodies than a batch may have
abbrev pub HasTooMany : List ℕ → Type 0
HasTooMany text = (bodies : List (List ℕ)) × (bodies_of text ≡ Ok bodies) × (65536 < length bodies)
