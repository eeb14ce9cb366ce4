-- What came on a link in one turn.
use Rattle.std.specs.Prelude.{◌≡◌, ℕ, List, [], ◌∷◌}
use Rattle.std.specs.List.{AllByRecursion}
use Rattle.link_frames.specs.Incoming.{Incoming, IsIncoming, frames_of, bodies_of, requests_behind, bodies_behind}
use Rattle.link_frames.specs.Link.{AreFrames}
use Rattle.host_serving.specs.declared.turn.Turn.{Turn}

-- the bodies that came, and the network management requests, each at its place between them
pub record IsTurn (incoming : List Incoming) (turn : Turn) : Type 0 where
  pub bodies : turn.bodies ≡ bodies_of incoming
  pub requests : turn.requests.items ≡ requests_behind 0 incoming
  pub between : turn.between ≡ bodies_behind 0 incoming

-- the bytes are frames of all that came in this turn, and these are left
pub record HasTaken (bytes left : List ℕ) (turn : Turn) : Type 0 where
  pub incoming : List Incoming
  pub came : AreFrames bytes (frames_of incoming) left
  pub are : AllByRecursion IsIncoming incoming
  pub taken : IsTurn incoming turn

-- the entry of these bodies; none where there is no body
abbrev pub entry_of : List (List ℕ) → List (List (List ℕ))
entry_of [] = []
entry_of (body ∷ bodies) = (body ∷ bodies) ∷ []
