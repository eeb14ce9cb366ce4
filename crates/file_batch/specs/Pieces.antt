-- The pieces in which a batch goes from the thread that reads it to the one that decides it, and back.
use Rattle.std.specs.Prelude.{◌≡◌, List, ℕ, length, count_by}
use Rattle.std.specs.List.{flat_map}
use Rattle.rtrb.specs.Ring.{sent, received, IsPair}
use Rattle.issuer_words.specs.Words.{Frame, ReplyBody, Rows, replies_to, rows_after}
use Rattle.file_batch.specs.Counting.{is_unreadable}
use Rattle.file_batch.specs.InOrder.{HasReplies}
use Rattle.file_batch.specs.declared.piece.Piece.{Piece}
use Rattle.file_batch.specs.declared.reader.Reader.{Reader}
use Rattle.file_batch.specs.declared.decider.Decider.{Decider}

-- the frames of pieces, one behind another
abbrev pub frames_in : List Piece → List Frame
frames_in pieces = flat_map (λ piece. piece.frames.items) pieces

-- the replies in them
abbrev pub replies_in : List Piece → List ReplyBody
replies_in pieces = flat_map (λ piece. piece.replies.items) pieces

-- so many bodies came in, of which so many are no message
abbrev pub HasCounted : Decider → Type 0
HasCounted decider =
    (decider.prefix.count ≡ length (frames_in (received decider.inbound)))
    × (decider.unreadable ≡ count_by is_unreadable (frames_in (received decider.inbound)))

-- what came in is decided one after another on this book, and the replies to it are handed back
abbrev pub HasDecided : Rows → Decider → Type 0
HasDecided book decider =
    (decider.prefix.book ≡ rows_after book (frames_in (received decider.inbound)))
    × HasCounted decider
    × (replies_in (sent decider.outbound) ≡ replies_to book (frames_in (received decider.inbound)))

-- the texts of the replies that came back stand behind this head
abbrev pub HasTold : List ℕ → Reader → Type 0
HasTold head reader = HasReplies head (replies_in (received reader.inbound)) reader.out.items

-- what the one hands over comes to the other, both ways
abbrev pub AreJoined : Reader → Decider → Type 0
AreJoined reader decider = IsPair reader.outbound decider.inbound × IsPair decider.outbound reader.inbound
