use Rattle.std.proofs.Common.{◌<◌, [], arith, subst}
use Rattle.std.proofs.lemmas.Bool.Decides.{nat_tests}
use Rattle.std.proofs.lemmas.Result.{on_ok_weaker}
use Rattle.file_devices.proofs.Placing.{one_named}
use Rattle.file_devices.specs.Holding.{ArePlaced}
use Rattle.switch.proofs.stream_files.StreamFilesFiles.put_in_place.Goals as goal

pub returns-in-Ok-clause-placed : goal.returns-in-Ok-clause-placed
returns-in-Ok-clause-placed g c =
    on_ok_weaker {Q = ⊥ → ArePlaced (λ output. ⊥) (λ output. []) (λ name bytes. ⊥) c.args.files.items} c.put_in_place.result (λ placed none. absurd none) c.put_in_place.ensures.placed

pub returns-in-Ok-clause-refused : goal.returns-in-Ok-clause-refused
returns-in-Ok-clause-refused g c =
    let some : 0 < c.args.files.len = grind (arith, nat_tests, c.if-is_empty.ensures) in
    λ refused. one_named (λ name. Unit {0}) c.args.files.items (subst (λ n. 0 < n) c.args.files.ok.0 some) (λ name. tt)
