-- What a window shows.
use Rattle.std.specs.Prelude.{◌≡◌, ℕ, ◌+◌, ◌≤◌, List, ◌++◌, slice_range, Result, Ok, Err, IsTrue}
use Rattle.issuer_rows.specs.declared.frame.Frame.{Frame}
use Rattle.file_laws.specs.BatchFault.{is_of_bytes}
use Rattle.file_laws.specs.Frames.{IsFrameOf}
use Rattle.file_laws.specs.Reading.{body_at}
use Rattle.file_laws.specs.declared.batch_fault.BatchFault.{BatchFault}
use Rattle.file_batch.specs.declared.window.Window.{Window}

-- the bytes of a piece from start to end
abbrev pub part : List ℕ → ℕ → ℕ → List ℕ
part piece start end = slice_range piece start end

-- the bytes that are still to be read: those of the window that were not, and what is left in its source
abbrev pub ahead : Window → List ℕ → List ℕ
ahead window left = part window.piece.items window.start window.end ++ left

-- the next body is in the window, whole, so many bytes behind the two of its length: whatever is left in the source, it is what is read
pub record HasBody (window : Window) (size : ℕ) : Type 0 where
  pub within : window.start + 2 + size ≤ window.end
  pub next : (left : List ℕ) → body_at (ahead window left) ≡ Ok (part window.piece.items (window.start + 2) (window.start + 2 + size), part window.piece.items (window.start + 2 + size) window.end ++ left)

-- the frame of the body that reading gives, with these bytes left, or its fault
abbrev pub GivesFrame : Result Frame BatchFault → List ℕ → Result (List ℕ × List ℕ) BatchFault → Type 0
GivesFrame (Ok frame) left read = (body : List ℕ) × (read ≡ Ok (body, left)) × IsFrameOf body frame
GivesFrame (Err e) left read = IsTrue (is_of_bytes e) → read ≡ Err e
