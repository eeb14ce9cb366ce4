-- A batch that is put in parts.
use Rattle.std.proofs.Common.{◌≡◌, ◌≤◌, ℕ, List, Ok, length, ap, sym, ◌∙◌, arith}
use Rattle.file_laws.proofs.FrameLaws.{as_many}
use Rattle.file_batch.specs.Words.{IsBatchOf, batch_magic, bodies_of}
use Rattle.app_parts_folder.specs.BatchInParts.{IsInParts}
use Rattle.app_parts_folder.specs.Parting.{IsPlanned, Parting}

-- what is planned of one is as it has to be
pub in_parts : (bytes : List ℕ) (p : Parting) (most : ℕ) → IsPlanned p most → most ≤ 64 → bodies_of batch_magic bytes ≡ Ok p.bodies → IsBatchOf bytes p.frames → length p.frames ≤ 65536 → IsInParts p
in_parts bytes p most planned few_parts read batch few =
    let same : p.bodies ≡ batch.0 = cc in
    record {
      planned = record { some = planned.some; few = omega (arith, planned.few, few_parts); each = planned.each; below = planned.below; apart = planned.apart };
      each = ap length same ∙ sym (as_many batch.0 p.frames batch.2);
      few = few;
    }
