-- Rows that are given back what they were.
use Rattle.std.specs.Prelude.{◌≡◌, ◌≢◌, List, [], ◌∷◌, Option, None, IfSome}
use Rattle.std.specs.FinMap as map
use Rattle.std.specs.List.{AllByRecursion}
use Rattle.issuer_fold.specs.Former.{with_former}
use Rattle.issuer_words.specs.Words.{IsOfKind, RowKey, RowVal, Rows}

-- what a row was before it was written: its value, or that it was absent
abbrev pub Former : Type 0
Former = RowKey × Option RowVal

-- each of these values is of its key's kind
abbrev pub AreFormersOfKind : List Former → Type 0
AreFormersOfKind formers = AllByRecursion (λ former. IfSome former.1 (IsOfKind former.0)) formers

-- the rows where these, which were written in this order, are as they were: the one that was written last is given back first
abbrev pub given_back : Rows → List Former → Rows
given_back rows [] = rows
given_back rows (former ∷ formers) = with_former (given_back rows formers) former.0 former.1

-- each row is there when it is given back what it was, so that this needs no memory
abbrev pub AreThere : Rows → List Former → Type 0
AreThere rows [] = Unit {0}
AreThere rows (former ∷ formers) = (map.get (given_back rows formers) former.0 ≢ None) × AreThere rows formers

-- given back what they were, which needs no memory, the rows are the earlier ones
pub record LeadsBack (rows : Rows) (formers : List Former) (earlier : Rows) : Type 0 where
  pub there : AreThere rows formers
  pub same : given_back rows formers ≡ earlier
