use Rattle.std.proofs.Common.{◌≢◌, map, string_bytes}
use Rattle.app_commands.proofs.ApartSteps.{behind_fault}
use Rattle.app_commands.proofs.apart.check_made.Goals as goal

pub loop-text-preserved : goal.loop-text-preserved
loop-text-preserved g c =
    let known = g.F.Files.is_known c.args.files.now in
    let made = c.args.made.now.name.now in
    let text = string_bytes c.in-Some.text.now in
    let more = map string_bytes c.in-Some.more.now in
    let are = c.in-Some.ensures.cases.0 in
    let apart : known → made ≢ text = rw (c.new.ensures, c.as_str.ensures.value) at c.in_ok-check_pair.ensures.apart in
    record {
      apart = λ behind. (rw are at c.loop-text.invariant.apart) (λ k. (apart k, behind k));
      fails = λ fault h. (rw are at c.loop-text.invariant.fails) fault (behind_fault known made text more fault h);
    }
