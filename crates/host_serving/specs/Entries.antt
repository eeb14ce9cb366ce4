-- The entries of a log as messages.
use Rattle.std.specs.Prelude.{◌≢◌, ℕ, List, []}
use Rattle.issuer_rows.specs.declared.frame.Frame.{Frame}
pub use Rattle.file_laws.specs.Files.{all_bodies}
use Rattle.file_laws.specs.Frames.{AreFramesOf}

-- each body of these entries in order, as the message that it spells, or the fault of one that spells none
abbrev pub AreMessagesOf : List (List (List ℕ)) → List Frame → Type 0
AreMessagesOf entries messages = AreFramesOf (all_bodies entries) messages

-- an entry has a body
abbrev pub HasBody : List (List ℕ) → Type 0
HasBody bodies = bodies ≢ []
