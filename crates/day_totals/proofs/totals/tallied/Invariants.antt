use Rattle.std.proofs.Common.{◌≤◌, ◌*◌, ◌^◌, ℕ, List, String, take, unwrap_or}
use Rattle.std.specs.BTreeMap.{get_by_text, BTreeMap}
use Rattle.day_totals.specs.Day.{AreTallied}
use Rattle.day_totals.specs.declared.exchange.Exchange.{Exchange}
use Rattle.day_totals.specs.declared.figure.Figure.{Figure}
use Rattle.day_totals.proofs.totals.tallied.Given as goal

-- the totals of the exchanges so far, each below 10^12 for each of them
pub record SoFar {Y : Type 0} (f : Figure) (day : List Exchange) (index : ℕ) (totals : BTreeMap (String Y) ℕ) : Type 0 where
  pub so_far : AreTallied f (take index day) totals
  pub few : (name : List ℕ) → unwrap_or (get_by_text totals name) 0 ≤ index * 10 ^ 12

abbrev pub invariant-loop-index : goal.invariant-loop-index
invariant-loop-index l = SoFar l.figure l.day l.index l.tally
