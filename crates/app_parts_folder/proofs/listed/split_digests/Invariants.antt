use Rattle.std.proofs.Common.{◌≡◌, ◌≤◌, ◌-◌, ◌*◌, ◌++◌, length, All}
use Rattle.std.specs.List.{flat_map}
use Rattle.app_parts_folder.specs.PlanTexts.{AreDigests, digests_text}
use Rattle.app_parts_folder.proofs.listed.split_digests.Given as goal

abbrev pub invariant-loop : goal.invariant-loop
invariant-loop l = record {
  is : l.bytes ≡ flat_map digests_text l.digests.items ++ l.rest;
  each : length l.digests.items ≡ l.counter;
  digest : All AreDigests l.digests.items;
  long : 64 * (l.count - l.counter) ≤ length l.rest;
}
