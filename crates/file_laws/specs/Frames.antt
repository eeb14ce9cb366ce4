-- The frames of the bodies of a batch.
use Rattle.std.specs.Prelude.{◌≡◌, ℕ, List, Result, Ok, Err, IsTrue}
use Rattle.std.specs.Global.{Vec}
use Rattle.std.specs.List.{AllZip}
use Rattle.iso_laws.specs.Messages.{Spells}
use Rattle.iso_laws.specs.Reading.{reading}
use Rattle.iso_laws.specs.Types.{taken_in}
use Rattle.issuer_rows.specs.declared.frame.Frame.{Frame}
use Rattle.issuer_rows.specs.declared.frame.Frame.TheVariants.{Good, Bad}
use Rattle.file_laws.specs.BatchFault.{is_of_bytes}
use Rattle.file_laws.specs.Reading.{bodies_of, batch_magic}
use Rattle.file_laws.specs.declared.batch_fault.BatchFault.{BatchFault}

-- the body spells this message, or it spells none and has this fault before all others
abbrev pub IsFrameOf : List ℕ → Frame → Type 0
IsFrameOf body (Good message) = Spells body message
IsFrameOf body (Bad fault) = reading taken_in body ≡ Err fault

-- a frame for each body, in order
abbrev pub AreFramesOf : List (List ℕ) → List Frame → Type 0
AreFramesOf bodies frames = AllZip IsFrameOf bodies frames

-- the bytes are read as a batch, and these are its frames
abbrev pub IsBatchOf : List ℕ → List Frame → Type 0
IsBatchOf bytes frames = (bodies : List (List ℕ)) × (bodies_of batch_magic bytes ≡ Ok bodies) × AreFramesOf bodies frames

-- frames of the bodies that reading gives, with these bytes left, or its fault
abbrev pub GivesFrames : Result (Vec Frame) BatchFault → List ℕ → Result (List (List ℕ) × List ℕ) BatchFault → Type 0
GivesFrames (Ok frames) left read = (bodies : List (List ℕ)) × (read ≡ Ok (bodies, left)) × AreFramesOf bodies frames.items
GivesFrames (Err e) left read = IsTrue (is_of_bytes e) → read ≡ Err e

-- the frames of a batch, or its first fault
abbrev pub GivesBatch : Result (Vec Frame) BatchFault → List ℕ → Type 0
GivesBatch (Ok frames) bytes = IsBatchOf bytes frames.items
GivesBatch (Err e) bytes = IsTrue (is_of_bytes e) → bodies_of batch_magic bytes ≡ Err e
