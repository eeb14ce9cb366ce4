-- What the bytes of a link are: bodies, each in its frame, and the first fault behind them.
use Rattle.std.specs.Prelude.{◌≡◌, ◌≢◌, ◌⊎◌, ⊤, ℕ, List, [], ◌++◌, length, Err}
use Rattle.std.specs.List.{flat_map, AllByRecursion}
use Rattle.file_laws.specs.Files.{framed, IsBody}
use Rattle.file_laws.specs.Reading.{body_at}
use Rattle.file_laws.specs.declared.batch_fault.BatchFault.TheVariants as batch
use Rattle.link_frames.specs.declared.link_fault.LinkFault.{LinkFault}
use Rattle.link_frames.specs.declared.link_fault.LinkFault.TheVariants.{Ended, Length}

-- the bytes are these bodies, each of 1 to 512 bytes behind two bytes of its length, and then these bytes
abbrev pub AreFrames : List ℕ → List (List ℕ) → List ℕ → Type 0
AreFrames bytes bodies left = AllByRecursion IsBody bodies × (bytes ≡ flat_map framed bodies ++ left)

-- the bytes are so many bodies in their frames, and nothing else
abbrev pub AreSoMany : ℕ → List ℕ → Type 0
AreSoMany count bytes = (bodies : List (List ℕ)) × (length bodies ≡ count) × AllByRecursion IsBody bodies × (bytes ≡ flat_map framed bodies)

-- a whole frame stands first
abbrev pub HasFrame : List ℕ → Type 0
HasFrame bytes = (body : List ℕ) × (behind : List ℕ) × IsBody body × (bytes ≡ framed body ++ behind)

-- less than a frame: fewer bytes than a length has, or fewer behind it than it says
abbrev pub IsPart : List ℕ → Type 0
IsPart bytes = body_at bytes ≡ Err batch.Ended

-- a length of 0, or over 512
abbrev pub HasWrongLength : List ℕ → Type 0
HasWrongLength bytes = body_at bytes ≡ Err batch.Length

-- no frame begins here
abbrev pub IsNoFrame : List ℕ → Type 0
IsNoFrame bytes = IsPart bytes ⊎ HasWrongLength bytes

-- Where no other bytes come on a link than these: it ended within a frame, or a wrong length comes. Other faults are not of its bytes.
abbrev pub HasFault : List ℕ → LinkFault → Type 0
HasFault left Ended = IsPart left × (left ≢ [])
HasFault left Length = HasWrongLength left
HasFault left fault = ⊤
