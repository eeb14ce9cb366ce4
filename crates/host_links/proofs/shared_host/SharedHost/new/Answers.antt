use Rattle.host_links.proofs.Merges.{kept_none}
use Rattle.host_links.proofs.shared_host.SharedHost.new.Goals as goal

pub invariant_of-result : goal.invariant_of-result
invariant_of-result g c =
    let file = g.G.GrowingFile in
    record {
      kept = ∣ kept_none file.is_known file.synced file.unsynced g.J.Before.opening g.J.Before.tally g.J.Before.log c.args.host c.args.counts.items _ c.args.front c.requires.none
          c.requires.book c.requires.tally c.requires.log c.requires.counts ∣₁;
    }
