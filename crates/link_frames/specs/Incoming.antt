-- What comes on a link: bodies that are decided, and network management, which the link answers itself.
use Rattle.std.specs.Prelude.{ℕ, ◌+◌, List, [], ◌∷◌, ◌++◌, take, drop}
use Rattle.issuer_rows.specs.declared.reply_body.ReplyBody.{ReplyBody}
use Rattle.file_laws.specs.Files.{framed}
use Rattle.link_frames.specs.Network.{IsNetwork, SpellsNetwork, network_spelling, network_reply_spelling}
use Rattle.link_frames.specs.declared.network_message.NetworkMessage.{NetworkMessage}
use Rattle.link_frames.specs.Replies.{reply_frame, reply_frames}
use Rattle.link_frames.specs.declared.network_request.NetworkRequest.{NetworkRequest}

-- what a frame has: a network management request, or a body that is decided
pub data Incoming : Type 0 where
  Network : NetworkMessage → Incoming
  Body : List ℕ → Incoming

-- the body of its frame
abbrev pub body_in : Incoming → List ℕ
body_in (Network message) = network_spelling message
body_in (Body body) = body

-- a request that there is, or a body that spells none
abbrev pub IsIncoming : Incoming → Type 0
IsIncoming (Network message) = IsNetwork message
IsIncoming (Body body) = (message : NetworkMessage) → ¬ SpellsNetwork body message

-- the bodies of all frames, in order
abbrev pub frames_of : List Incoming → List (List ℕ)
frames_of [] = []
frames_of (item ∷ incoming) = body_in item ∷ frames_of incoming

-- those that are decided
abbrev pub bodies_of : List Incoming → List (List ℕ)
bodies_of [] = []
bodies_of (Network message ∷ incoming) = bodies_of incoming
bodies_of (Body body ∷ incoming) = body ∷ bodies_of incoming

-- the reply to a network management request, 1814, in its frame
abbrev pub network_frame : NetworkMessage → List ℕ
network_frame message = framed (network_reply_spelling message)

-- What a link is given, in the order of its frames: the reply to each network management request, and these replies to the bodies, none for
-- one that is no message.
abbrev pub answers_of : List Incoming → List ReplyBody → List ℕ
answers_of [] replies = []
answers_of (Network message ∷ incoming) replies = network_frame message ++ answers_of incoming replies
answers_of (Body body ∷ incoming) [] = answers_of incoming []
answers_of (Body body ∷ incoming) (reply ∷ replies) = reply_frame reply ++ answers_of incoming replies

-- the requests in order, each with how many bodies came between it and the one before it; so many came before these
abbrev pub requests_behind : ℕ → List Incoming → List NetworkRequest
requests_behind count [] = []
requests_behind count (Network message ∷ incoming) = record { bodies_before = count; message = message } ∷ requests_behind 0 incoming
requests_behind count (Body body ∷ incoming) = requests_behind (count + 1) incoming

-- how many bodies came behind the last request; so many came before these
abbrev pub bodies_behind : ℕ → List Incoming → ℕ
bodies_behind count [] = count
bodies_behind count (Network message ∷ incoming) = bodies_behind 0 incoming
bodies_behind count (Body body ∷ incoming) = bodies_behind (count + 1) incoming

-- the frames of the replies to bodies, with the reply to each request at its place between them
abbrev pub merged : List NetworkRequest → List ReplyBody → List ℕ
merged [] replies = reply_frames replies
merged (request ∷ requests) replies =
    reply_frames (take request.bodies_before replies) ++ network_frame request.message ++ merged requests (drop request.bodies_before replies)

-- bodies alone, without network management
abbrev pub only_bodies : List (List ℕ) → List Incoming
only_bodies [] = []
only_bodies (body ∷ bodies) = Body body ∷ only_bodies bodies
