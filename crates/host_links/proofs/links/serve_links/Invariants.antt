use Rattle.std.proofs.Common.{Some}
use Rattle.host_serving.specs.Entering.{book_of}
use Rattle.host_links.proofs.links.serve_links.Given as goal

-- the history is the one that was opened
abbrev pub ghosts-serve_named-J-Naming : goal.ghosts-serve_named-J-Naming
ghosts-serve_named-J-Naming g a = record { book = a.opened.seen.book }

-- the host is as it is at the call
abbrev pub ghosts-serve_named-J-Before : goal.ghosts-serve_named-J-Before
ghosts-serve_named-J-Before g a = record { opening = book_of a.host; tally = a.host.decider.tally; log = Some a.host.log }
