-- What decides the blocks of a block file.
use Rattle.std.specs.Prelude.{◌≡◌, ◌≤◌, List, length, Result, IfOk, OnErr}
use Rattle.std.specs.declared.alloc.AllocError.{AllocError}
use Rattle.issuer_fold.specs.InPlace.{IsInPlace}
use Rattle.issuer_fold.specs.declared.in_place.InPlace.{InPlace}
use Rattle.issuer_words.specs.Words.{Frame, Rows}

-- a block of these bodies was decided on the book itself, which can be given back what it was; or, without memory, the book is what it was
abbrev pub DecidesInPlace : Rows → List Frame → Rows → Result InPlace AllocError → Type 0
DecidesInPlace opening bodies after answer = IfOk answer (IsInPlace opening bodies after) × OnErr answer (after ≡ opening)

-- What decides blocks: it may be called with one, and decides it in place. A book and a block that it is called with are seen as these rows
-- and these frames.
pub record IsBlockDecider {D B S : Type 0} (pre : D → B → S → Type 0) (post : D → B → S → Result InPlace AllocError → B → Type 0)
    (rows_of : B → Rows) (frames_of : S → List Frame) (decide : D) : Type 0 where
  pub called : (book : B) (block : S) → length (frames_of block) ≤ 65536 → pre decide book block
  pub in_place : (book after : B) (block : S) (answer : Result InPlace AllocError) → post decide book block answer after
      → DecidesInPlace (rows_of book) (frames_of block) (rows_of after) answer
