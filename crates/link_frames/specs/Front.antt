-- What some bytes of a link begin with.
use Rattle.std.specs.Prelude.{◌≡◌, ℕ, List, ◌++◌}
use Rattle.file_laws.specs.Files.{framed, IsBody}
use Rattle.link_frames.specs.Link.{IsPart, HasWrongLength}
use Rattle.link_frames.specs.declared.front.Front.{Front}
use Rattle.link_frames.specs.declared.front.Front.TheVariants.{Frame, Part, Wrong}

-- a frame with this body, and these bytes behind it; or less than a frame; or a wrong length
abbrev pub IsFront : List ℕ → Front → Type 0
IsFront bytes (Frame body behind) = IsBody body.now × (bytes ≡ framed body.now ++ behind.now)
IsFront bytes Part = IsPart bytes
IsFront bytes Wrong = HasWrongLength bytes
