-- Parts that are decided.
use Rattle.std.specs.Prelude.{◌≡◌, ℕ, ◌<◌, ◌++◌, List, [], ◌∷◌, Option, Some, None, drop, length, map, slice_index, slice_index_or, zip}
use Rattle.issuer_laws.specs.Parts.{of_part}
use Rattle.issuer_words.specs.Words.{Frame, ReplyBody, Rows, replies_to}
use Rattle.engine_parts.specs.TwoBooks.{joined, rows_of_part, rows_written}
use Rattle.engine_parts.specs.declared.decided_part.DecidedPart.{DecidedPart}

-- the bodies of a part, in their order
abbrev pub bodies_of : ℕ → List ℕ → List Frame → List Frame
bodies_of part parts frames = of_part part (zip parts frames)

-- these bodies are decided on this book: their replies, and the rows that they write
pub record AreDecided (opening : Rows) (frames : List Frame) (decided : DecidedPart) : Type 0 where
  pub replies : decided.replies.items ≡ replies_to opening frames
  pub rows : decided.rows ≡ rows_of_part opening frames

-- of these bodies some are decided over this book, with these replies and these rows, and those are left
pub record AreDecidedTo (opening : Rows) (all : List Frame) (replies : List ReplyBody) (written : Rows) (left : List Frame) : Type 0 where
  pub answers : replies ++ replies_to (joined opening written) left ≡ replies_to opening all
  pub rows : rows_written written (joined opening written) left ≡ rows_of_part opening all

-- the list of a part
abbrev pub list_at : {A : Type 0} → List (List A) → ℕ → List A
list_at lists part = slice_index_or lists part []

-- the list of each part has what all have at its places
abbrev pub HaveParts : {A : Type 0} → List ℕ → List A → List (List A) → Type 0
HaveParts parts all lists = (part : ℕ) → part < length lists → list_at lists part ≡ of_part part (zip parts all)

-- the replies of the other parts, and of the last one
abbrev pub replies_of : List DecidedPart → List ReplyBody → List (List ReplyBody)
replies_of others last = map (λ (part : DecidedPart). part.replies.items) others ++ last ∷ []

-- a list with what was read behind it, if there is something
abbrev pub with_next : {A : Type 0} → List A → Option A → List A
with_next items None = items
with_next items (Some item) = items ++ item ∷ []

-- the first of all are in order, and each part's list is read as far
abbrev pub AreInOrder : {A : Type 0} → List ℕ → List (List A) → ℕ → List ℕ → List A → Type 0
AreInOrder {A} parts lists count next ordered =
    (all : List A) → length all ≡ length parts → HaveParts parts all lists
    → (ordered ++ drop count all ≡ all) × ((part : ℕ) → part < length lists → drop (slice_index next part) (list_at lists part) ≡ of_part part (drop count (zip parts all)))
