use Rattle.std.proofs.Common.{length, map, string_bytes}
use Rattle.app_commands.specs.Apart.{AreApart, IsApartFault, made_apart}
use Rattle.app_commands.specs.declared.fault.Fault.{Fault}
use Rattle.app_commands.proofs.apart.check_made.Given as goal

-- where the file that is made is none of the rest, it is none of all; and a fault of the rest is one of all
abbrev pub invariant-loop-text : goal.invariant-loop-text
invariant-loop-text g l =
    let known = g.F.Files.is_known l.files in
    let rest = made_apart l.made.name.now (map string_bytes l.rest) in
    let all = made_apart l.made.name.now (map string_bytes l.texts) in
    record {
      apart : (known → AreApart rest) → known → AreApart all;
      fails : (fault : Fault) → IsApartFault known rest fault → IsApartFault known all fault;
    }

abbrev pub decreases-loop-text : goal.decreases-loop-text
decreases-loop-text g l = length l.rest
