use Rattle.std.proofs.Common.{◌∙◌, refl}
use Rattle.host_links.proofs.ServedLaws.{none_serves}
use Rattle.host_links.proofs.link_server.LinkServer.serve_fresh.Goals as goal

pub returns-in_default-clause-serves : goal.returns-in_default-clause-serves
returns-in_default-clause-serves g c =
    none_serves _ _ _ _ c.args.link g.J.Before.opening c.trace.result.seen.log 0 _ _ _ _ (c.trace.ensures.seen ∙ c.requires) refl (λ known. known) (λ _. refl)
