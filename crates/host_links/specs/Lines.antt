-- What one of several links comes to: what came on it, and what was written on it.
use Rattle.std.specs.Prelude.{◌≡◌, ℕ, List, [], ◌++◌, Result, OnErr, OnOk}
use Rattle.issuer_rows.specs.Fold.{Rows}
use Rattle.link_frames.specs.Replies.{AppendsPart}
use Rattle.host_serving.specs.declared.host_fault.HostFault.{HostFault}
use Rattle.host_links.specs.Turns.{came_on, given_to, turns_of}
use Rattle.host_links.specs.declared.link_turn.LinkTurn.{LinkTurn}

-- The bytes that came on the link are those of its turns, and these are left; and it was given the answers to its turns.
pub record LinkServed (link : ℕ) (opening : Rows) (turns : List LinkTurn) (reads : Type 0) (bytes left : List ℕ) (puts : Type 0) (had has : List ℕ) : Type 0 where
  pub came : reads → bytes ≡ came_on link turns ++ left
  pub given : puts → has ≡ had ++ given_to link opening turns

-- It stopped with a fault: the bytes of its turns are a beginning of those that came, and it was given a beginning of the answers to them.
pub record LinkStopped (link : ℕ) (opening : Rows) (turns : List LinkTurn) (reads : Type 0) (bytes : List ℕ) (puts : Type 0) (had has : List ℕ) : Type 0 where
  pub left : List ℕ
  pub came : reads → bytes ≡ came_on link turns ++ left
  pub given : puts → AppendsPart had has (given_to link opening turns)

-- From one front of the history to a longer one the link had a turn of these bytes, and these are left; it is given more for it, of which so
-- much was written.
pub record TakesTurn (link : ℕ) (opening : Rows) (before after : List LinkTurn) (reads : Type 0) (left rest : List ℕ) (written : List ℕ → Type 0) : Type 0 where
  pub bytes : List ℕ
  pub replies : List ℕ
  pub came : came_on link after ≡ came_on link before ++ bytes
  pub read : reads → left ≡ bytes ++ rest
  pub given : given_to link opening after ≡ given_to link opening before ++ replies
  pub answered : written replies

-- over its source and its sink
module _ {I O : Type 0} (is_known : I → Type 0) (remaining : I → List ℕ) (puts : O → Type 0) (written : O → List ℕ) where
  -- What serving a link comes to: so many of the turns that it has seen are its own. Without a fault all that came was served and answered; with
  -- one a beginning was.
  pub record ServesLink (link : ℕ) (opening : Rows) (turns : List LinkTurn) (own : ℕ) (source : I) (old new : O) (result : Result (Unit {0}) HostFault) : Type 0 where
    pub count : turns_of link turns ≡ own
    pub sink : puts old → puts new
    pub ok : OnOk result (LinkServed link opening turns (is_known source) (remaining source) [] (puts old) (written old) (written new))
    pub stopped : OnErr result (LinkStopped link opening turns (is_known source) (remaining source) (puts old) (written old) (written new))
