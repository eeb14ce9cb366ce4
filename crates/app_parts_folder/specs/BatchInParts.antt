-- A batch in parts in memory.
use Rattle.std.specs.Prelude.{◌≡◌, ◌≤◌, ℕ, List, length}
use Rattle.std.specs.Global.{Vec}
use Rattle.file_batch.specs.Bodies.{bytes_of}
use Rattle.issuer_words.specs.Words.{Frame, Rows}
use Rattle.engine_parts.specs.Plan.{Planned}
use Rattle.app_parts_folder.specs.Parting.{IsPlanned, Parting}

-- what it is, of these rows, these bodies and frames, and this plan
abbrev pub parting_of : Rows → List (Vec ℕ) → List Frame → Planned → Parting
parting_of rows bodies frames plan = record { rows = rows; bodies = bytes_of bodies; frames = frames; parts = plan.parts; count = plan.count }

-- it is in at most 64 parts, has a frame for each body, and no more messages than a batch has
pub record IsInParts (p : Parting) : Type 0 where
  pub planned : IsPlanned p 64
  pub each : length p.bodies ≡ length p.frames
  pub few : length p.frames ≤ 65536
