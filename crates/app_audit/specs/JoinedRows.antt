-- A row of two books whose rows are joined by their keys.
use Rattle.std.specs.Prelude.{◌≡◌, ◌≢◌}
use Rattle.itertools.specs.declared.either_or_both.EitherOrBoth.{EitherOrBoth}
use Rattle.itertools.specs.declared.either_or_both.EitherOrBoth.TheVariants.{Both, Left, Right}
use Rattle.issuer_words.specs.Words.{RowKey, RowVal}

-- both books have a row of the key, with one value
abbrev pub AreSame : EitherOrBoth (RowKey × RowVal) (RowKey × RowVal) → Type 0
AreSame (Both mine theirs) = mine.1 ≡ theirs.1
AreSame (Left mine) = ⊥
AreSame (Right theirs) = ⊥

-- one book alone has a row of this key, or both do, with two values
abbrev pub DifferAt : EitherOrBoth (RowKey × RowVal) (RowKey × RowVal) → RowKey → Type 0
DifferAt (Both mine theirs) key = (key ≡ mine.0) × (mine.1 ≢ theirs.1)
DifferAt (Left mine) key = key ≡ mine.0
DifferAt (Right theirs) key = key ≡ theirs.0
