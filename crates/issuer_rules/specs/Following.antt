-- A decision on its way through its table: which rows it has read, as the table needs them, and what is left of its plan.
use Rattle.std.specs.Prelude.{◌≡◌, ℕ, List, [], ◌∷◌, map}
use Rattle.issuer_words.specs.Words.{Agrees, Decided, Frame, Lookup, Plan, Reads, ReplyBody, RowKey, Writes, after_look, carried_out, decision, keys_read, kind_of}
use Rattle.issuer_view.specs.Recording.{Recording}

-- a decision that needed these rows before, in their order
abbrev pub after_looks : List RowKey → Decided → Decided
after_looks [] d = d
after_looks (key ∷ keys) d = after_look key (after_looks keys d)

-- the kinds of the rows that were read, in their order
abbrev pub kinds_read : Reads → List ℕ
kinds_read reads = map (λ read. kind_of read.0) reads

-- nothing is written yet, and on all rows that agree with those that were read, the decision needed just these so far, and what is left
-- of it is this plan
pub record Follows (frame : Frame) (reads : Reads) (writes : Writes) (plan : Plan) : Type 0 where
  pub unput : writes ≡ []
  pub left : (look : Lookup) → Agrees reads look → decision look frame ≡ after_looks (keys_read reads) (carried_out plan look)

-- the decision follows this plan, and the rows that it has read are of these kinds, in their order
pub record IsAt {S : Type 0} (frame : Frame) (rows : Recording S) (read : List ℕ) (plan : Plan) : Type 0 where
  pub follows : Follows frame rows.reads rows.writes plan
  pub kinds : kinds_read rows.reads ≡ read

-- on all rows that agree with those that were read, the decision is this reply and these rows, and needed just those
abbrev pub Concludes : Frame → Reads → Writes → ReplyBody → Type 0
Concludes frame reads writes reply =
    (look : Lookup) → Agrees reads look → decision look frame ≡ record { reply = reply; writes = writes; needs = keys_read reads }
