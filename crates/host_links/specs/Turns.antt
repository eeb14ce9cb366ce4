-- What came on several links, turn after turn, and what each link is given for it.
use Rattle.std.specs.Prelude.{◌≡◌, ℕ, ◌+◌, ◌==◌, if◌then◌else◌, List, [], ◌∷◌, ◌++◌}
use Rattle.std.specs.List.{flat_map, AllByRecursion}
use Rattle.issuer_words.specs.Words.{Frame, Rows, replies_to, rows_after}
use Rattle.file_laws.specs.Frames.{AreFramesOf}
use Rattle.link_frames.specs.Incoming.{Incoming, IsIncoming, frames_of, bodies_of, requests_behind, merged}
use Rattle.link_frames.specs.Link.{AreFrames}
use Rattle.host_serving.specs.Turn.{entry_of}
use Rattle.host_links.specs.declared.link_turn.LinkTurn.{LinkTurn}

-- The bytes of a turn are whole frames; its bodies and its requests are what these have, in order; and its messages are those that the bodies
-- spell, or the faults of bodies that spell none.
pub record IsTurnOfLink (turn : LinkTurn) : Type 0 where
  pub incoming : List Incoming
  pub came : AreFrames turn.bytes (frames_of incoming) []
  pub are : AllByRecursion IsIncoming incoming
  pub bodies : turn.bodies ≡ bodies_of incoming
  pub requests : turn.requests ≡ requests_behind 0 incoming
  pub read : AreFramesOf turn.bodies turn.messages

-- how many of the turns are this link's
abbrev pub turns_of : ℕ → List LinkTurn → ℕ
turns_of link [] = 0
turns_of link (turn ∷ turns) = (if turn.link == link then 1 else 0) + turns_of link turns

-- the bytes that came on this link in its turns
abbrev pub came_on : ℕ → List LinkTurn → List ℕ
came_on link [] = []
came_on link (turn ∷ turns) = (if turn.link == link then turn.bytes else []) ++ came_on link turns

-- What is given for one turn, on this book: the replies to its messages, decided one after another, and those to its requests, in the order
-- of the frames.
abbrev pub answer_to_turn : Rows → LinkTurn → List ℕ
answer_to_turn book turn = merged turn.requests (replies_to book turn.messages)

-- What this link is given: the answers to its own turns, each on the book after the messages of all turns before it, of whichever link.
abbrev pub given_to : ℕ → Rows → List LinkTurn → List ℕ
given_to link book [] = []
given_to link book (turn ∷ turns) = (if turn.link == link then answer_to_turn book turn else []) ++ given_to link (rows_after book turn.messages) turns

-- the messages of all turns, in order
abbrev pub messages_of : List LinkTurn → List Frame
messages_of turns = flat_map (λ turn. turn.messages) turns

-- the entries of all turns: each turn with a body is one
abbrev pub entries_of : List LinkTurn → List (List (List ℕ))
entries_of turns = flat_map (λ turn. entry_of turn.bodies) turns

-- the messages at hand behind a turn of these bodies: those that were decided last, where there is a body
abbrev pub messages_at : List (List ℕ) → List Frame → List Frame
messages_at [] frames = []
messages_at (body ∷ bodies) frames = frames
