use Rattle.std.proofs.Common.{refl}
use Rattle.host_links.proofs.ServedLaws.{closed_served, closed_stopped, stopped_at}
use Rattle.host_links.proofs.link_server.LinkServer.serve_seat.Goals as goal

pub returns-in-Ok : goal.returns-in-Ok
returns-in-Ok g c =
    let ends = c.serve_fresh-seen.ensures in
    let serves = ends.serves in
    let turns = c.serve_fresh-seen.result.0.trace.seen.log in
    let ok = closed_served c.args.link g.J.Before.opening turns _ _ _ _ _ _ _ (λ known. c.close.ensures.bytes (serves.sink known)) (rw c.in-Ok.is at serves.ok) in
    record {
      seen = c.serve_fresh-seen.result.0;
      is = refl;
      of = ends.book;
      count = serves.count;
      served = λ _. ok;
      stopped = stopped_at c.args.link g.J.Before.opening turns _ _ _ _ _ _ ok;
    }

pub returns-in-Err : goal.returns-in-Err
returns-in-Err g c =
    let ends = c.serve_fresh-seen.ensures in
    let serves = ends.serves in
    let turns = c.serve_fresh-seen.result.0.trace.seen.log in
    record {
      seen = c.serve_fresh-seen.result.0;
      is = refl;
      of = ends.book;
      count = serves.count;
      served = λ none. absurd cc;
      stopped = closed_stopped c.args.link g.J.Before.opening turns _ _ _ _ _ _ (λ known. c.close.ensures.bytes (serves.sink known)) (rw c.in-Err.is at serves.stopped);
    }
