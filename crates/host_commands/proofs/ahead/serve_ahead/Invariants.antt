use Rattle.host_commands.proofs.ahead.serve_ahead.Given as goal

-- the link is what the source has at the call
abbrev pub ghosts-serve_named : goal.ghosts-serve_named
ghosts-serve_named g a = record {
  is_known = g.I.Source.is_known a.source.now;
  bytes = g.I.Source.remaining a.source.now;
  may_fail = g.I.Source.may_fail a.source.now;
}
