use Rattle.std.proofs.Math.Logic.{∥∥₁_map}
use Rattle.host_serving.specs.Entering.{book_of}
use Rattle.host_links.proofs.Merges.{kept_behind}
use Rattle.host_links.proofs.Merging.{merged_for}
use Rattle.host_links.proofs.links.serve_named.Goals as goal

pub returns : goal.returns
returns g c =
    let file = g.G.GrowingFile in
    let behind = c.serve_shared-behind.result.0 in
    record {
      turns = behind.front;
      stands = ∥∥₁_map c.into_parts-host.ensures
          (kept_behind file.is_known file.synced file.unsynced g.J.Before.opening g.J.Before.tally g.J.Before.log c.args.host c.into_parts-host.result.0 c.into_parts-host.result.2 behind.counts.items behind.front
          c.requires.book c.requires.tally c.requires.log);
      each = λ has link other less.
          merged_for _ _ _ _ link g.J.Before.opening (book_of c.args.host) behind.front _ _ c.requires.book (c.serve_shared-behind.ensures has link other less);
    }
