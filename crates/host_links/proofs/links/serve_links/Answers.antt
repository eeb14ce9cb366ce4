use Rattle.std.proofs.Common.{[]}
use Rattle.host_links.proofs.Merges.{none_behind}
use Rattle.host_links.proofs.links.serve_links.Goals as goal

pub returns-in_default : goal.returns-in_default
returns-in_default g c =
    let file = g.G.GrowingFile in
    record {
      turns = [];
      stands = ∣ none_behind file.is_known file.synced file.unsynced c.args.host ∣₁;
      each = λ has link other less. absurd cc;
    }
