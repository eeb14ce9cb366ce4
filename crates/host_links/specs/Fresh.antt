-- A served link before its first turn.
use Rattle.std.specs.Prelude.{◌≡◌, []}
use Rattle.link_frames.specs.Reader.{kept}
use Rattle.host_links.specs.declared.served_link.ServedLink.{ServedLink}

-- nothing has come on it, and it has seen no turn
pub record IsFresh {J : Type 0} (state : ServedLink J) : Type 0 where
  pub none : kept state.reader ≡ []
  pub unseen : state.front ≡ []
  pub count : state.count ≡ 0
