use Rattle.std.proofs.Common.{ℕ, List, length, drop, ap}
use Rattle.std.proofs.lemmas.Result.{on_ok_weaker, IfErr-weaker}
use Rattle.rtrb.specs.Ring.{received}
use Rattle.link_frames.proofs.AheadFronts.{none_taken}
use Rattle.host_commands.proofs.SameLink.{served_for, stopped_for, stopped_at_once}
use Rattle.host_commands.proofs.ahead.serve_named.Goals as goal

pub returns-in_default-clause-stopped : goal.returns-in_default-clause-stopped
returns-in_default-clause-stopped g c = stopped_at_once _ _ _ c.args.host.now _ _ _ _

pub returns-in_default-ends_of_link-clause-stopped : goal.returns-in_default-ends_of_link-clause-stopped
returns-in_default-ends_of_link-clause-stopped g c = stopped_at_once _ _ _ c.args.host.now _ _ _ _

pub returns-in-Some-clause-ok : goal.returns-in-Some-clause-ok
returns-in-Some-clause-ok g c =
    let ahead = c.in-Ok-ends_of_link.ahead in
    let fresh = c.in-Ok-ends_of_link.ensures.fresh in
    on_ok_weaker c.in-Some.served
    (served_for _ _ _ c.args.host.now c.serve_together-has_read.new.host _ g.L.Link.is_known _ g.L.Link.bytes _ _ _ _
    (none_taken g.L.Link.is_known g.L.Link.bytes (received ahead.inbound) ahead.last fresh.none fresh.last)
    (λ known. ap (λ (x : List ℕ). drop (length x) g.L.Link.bytes) fresh.none))
    (rw c.in-Some.is at c.serve_together-has_read.ensures.ok)

pub returns-in-Some-clause-stopped : goal.returns-in-Some-clause-stopped
returns-in-Some-clause-stopped g c =
    let ahead = c.in-Ok-ends_of_link.ahead in
    let fresh = c.in-Ok-ends_of_link.ensures.fresh in
    IfErr-weaker c.in-Some.served _ _
    (λ e. stopped_for _ _ _ e c.args.host.now c.serve_together-has_read.new.host _ g.L.Link.is_known _ g.L.Link.bytes _ _ _
    (none_taken g.L.Link.is_known g.L.Link.bytes (received ahead.inbound) ahead.last fresh.none fresh.last)
    (λ known. ap (λ (x : List ℕ). drop (length x) g.L.Link.bytes) fresh.none))
    (rw c.in-Some.is at c.serve_together-has_read.ensures.stopped)

pub returns-then-has_read-clause-stopped : goal.returns-then-has_read-clause-stopped
returns-then-has_read-clause-stopped g c =
    let none = rw c.in_default-served.is at c.serve_together-has_read.ensures.none in
    rw (none.0, none.1) (stopped_at_once _ _ _ c.args.host.now _ _ _ _)

pub returns-clause-ok : goal.returns-clause-ok
returns-clause-ok g c =
    let none = rw c.in_default-served.is at c.serve_together-has_read.ensures.none in
    let unread = c.serve_together-has_read.ensures.unread c.if-has_read.false in
    on_ok_weaker c.serve_link-served.result
    (served_for _ _ _ c.args.host.now c.serve_link-served.new.self _ g.L.Link.is_known _ g.L.Link.bytes _ _ _ _
    (λ known. (c.requires.known known).0) (λ known. (c.requires.known known).1))
    (rw (none.0, none.1, unread) at c.serve_link-served.ensures.ok)

pub returns-clause-stopped : goal.returns-clause-stopped
returns-clause-stopped g c =
    let none = rw c.in_default-served.is at c.serve_together-has_read.ensures.none in
    let unread = c.serve_together-has_read.ensures.unread c.if-has_read.false in
    IfErr-weaker c.serve_link-served.result _ _
    (λ e. stopped_for _ _ _ e c.args.host.now c.serve_link-served.new.self _ g.L.Link.is_known _ g.L.Link.bytes _ _ _
    (λ known. (c.requires.known known).0) (λ known. (c.requires.known known).1))
    (rw (none.0, none.1, unread) at c.serve_link-served.ensures.stopped)
