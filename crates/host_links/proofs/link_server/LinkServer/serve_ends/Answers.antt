use Rattle.std.proofs.Common.{refl}
use Rattle.host_links.proofs.ServedLaws.{none_serves, opened_serves}
use Rattle.host_links.proofs.link_server.LinkServer.serve_ends.Goals as goal

pub returns-then-is_err : goal.returns-then-is_err
returns-then-is_err g c =
    let fresh = c.requires in
    none_serves _ _ _ _ c.args.link g.J.Before.opening c.args.state.now.front c.args.state.now.count _ _ _ _ fresh.unseen fresh.count (λ known. known) (λ _. refl)

pub returns-then-is_err-2 : goal.returns-then-is_err-2
returns-then-is_err-2 g c =
    let fresh = c.requires in
    none_serves _ _ _ _ c.args.link g.J.Before.opening c.args.state.now.front c.args.state.now.count _ _ _ _ fresh.unseen fresh.count c.open-2.ensures.known c.open-2.ensures.bytes

pub returns : goal.returns
returns g c =
    opened_serves _ _ _ _ c.args.link g.J.Before.opening _ _ _ _ _ _ _ c.serve_turns.result c.open.ensures.known c.open.ensures.bytes c.open-2.ensures.known c.open-2.ensures.bytes c.serve_turns.ensures
