-- How far a batch is committed.
use Rattle.std.specs.Prelude.{◌≡◌, ℕ, ◌+◌, ◌≤◌, List, Some, length, slice_get, take, refl}
use Rattle.std.specs.Coded.{Coded, code_by, coded×, coded_list, coded_ℕ}
use Rattle.std.specs.FinMap as map
use Rattle.issuer_words.specs.Words.{Agrees, Executed, Frame, ReplyBody, Rows, replies_to, rows_after}

-- the opening book, the bodies, and how many of them are committed
pub record Progress : Type 0 where
  pub opening : Rows
  pub frames : List Frame
  pub count : ℕ

-- the book after the messages that are committed
abbrev pub book_of : Progress → Rows
book_of p = rows_after p.opening (take p.count p.frames)

-- the replies to them
abbrev pub replies_of : Progress → List ReplyBody
replies_of p = replies_to p.opening (take p.count p.frames)

-- none is committed
abbrev pub opened : Rows → List Frame → Progress
opened opening frames = record { opening = opening; frames = frames; count = 0 }

-- one more is committed
abbrev pub further : Progress → Progress
further p = record { opening = p.opening; frames = p.frames; count = p.count + 1 }

-- an execution may be committed: it is of the next body, and the book after those before it agrees with what it read
pub record IsNext (p : Progress) (e : Executed) : Type 0 where
  pub frame : slice_get p.frames p.count ≡ Some e.frame
  pub reads : Agrees e.reads (map.get (book_of p))

-- these are the replies and the book of deciding the committed messages one after another
pub record IsFold (p : Progress) (replies : List ReplyBody) (book : Rows) : Type 0 where
  pub few : length p.frames ≤ 65536
  pub within : p.count ≤ length p.frames
  pub replies_are : replies ≡ replies_of p
  pub book_is : book ≡ book_of p

-- progress is stored as its parts
abbrev pub progress_code : Coded Rows → Coded Frame → Coded Progress
progress_code rows frame =
    code_by (Rows × (List Frame × ℕ)) (coded× rows (coded× (coded_list frame) coded_ℕ))
    (λ p. (p.opening, (p.frames, p.count))) (λ q. record { opening = q.0; frames = q.1.0; count = q.1.1 }) (λ _. refl)
