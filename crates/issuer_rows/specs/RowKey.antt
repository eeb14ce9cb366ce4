-- The order of row keys: by kind, and inside a kind by the bytes of what names the row.
use Rattle.std.specs.Prelude.{ℕ, Bool, ◌&&◌, ◌==◌, List, [], ◌∷◌}
use Rattle.std.specs.Cmp.Lexicographic.{pointwise, slice_cmp}
use Rattle.std.specs.Ordering.{nat_cmp, on, then_cmp}
use Rattle.std.specs.declared.cmp.Ordering.{Ordering}
use Rattle.issuer_rows.specs.declared.row_key.RowKey.{RowKey}
use Rattle.issuer_rows.specs.declared.row_key.RowKey.TheVariants as key

-- the place of a key's kind among the five
abbrev pub kind_of : RowKey → ℕ
kind_of (key.Card pan) = 0
kind_of (key.Velocity pan day) = 1
kind_of (key.Budget prefix) = 2
kind_of (key.Original identity) = 3
kind_of (key.Account id) = 4

-- the text that a key's order looks at first: card number, prefix, acquirer, account
abbrev pub first_text : RowKey → List ℕ
first_text (key.Card pan) = pan.0
first_text (key.Velocity pan day) = pan.0
first_text (key.Budget prefix) = prefix.0
first_text (key.Original identity) = identity.acquirer.0
first_text (key.Account id) = id.0

-- the text that it looks at next: the day, or the trace number
abbrev pub second_text : RowKey → List ℕ
second_text (key.Card pan) = []
second_text (key.Velocity pan day) = day
second_text (key.Budget prefix) = []
second_text (key.Original identity) = identity.stan.0
second_text (key.Account id) = []

-- the text that it looks at last: the local date and time
abbrev pub third_text : RowKey → List ℕ
third_text (key.Card pan) = []
third_text (key.Velocity pan day) = []
third_text (key.Budget prefix) = []
third_text (key.Original identity) = identity.stamp
third_text (key.Account id) = []

-- the order of texts: by the bytes, and a text before each that it begins
abbrev pub text_cmp : List ℕ → List ℕ → Ordering
text_cmp = slice_cmp nat_cmp

-- the test whether two texts are the same
abbrev pub text_eq : List ℕ → List ℕ → Bool
text_eq = pointwise ◌==◌

-- which of two keys comes first by their texts
abbrev pub texts_cmp : RowKey → RowKey → Ordering
texts_cmp = then_cmp (on first_text text_cmp) (then_cmp (on second_text text_cmp) (on third_text text_cmp))

-- which of two keys comes first: Card, Velocity, Budget, Original, Account; inside a kind by their texts
abbrev pub key_cmp : RowKey → RowKey → Ordering
key_cmp = then_cmp (on kind_of nat_cmp) texts_cmp

-- the test whether two keys name the same row
abbrev pub key_eq : RowKey → RowKey → Bool
key_eq a b = (kind_of a == kind_of b) && (text_eq (first_text a) (first_text b) && (text_eq (second_text a) (second_text b) && text_eq (third_text a) (third_text b)))

-- what a hasher is fed of a key: its texts, one write each
abbrev pub fed_texts : RowKey → List (List ℕ)
fed_texts (key.Card pan) = pan.0 ∷ []
fed_texts (key.Velocity pan day) = pan.0 ∷ day ∷ []
fed_texts (key.Budget prefix) = prefix.0 ∷ []
fed_texts (key.Original identity) = identity.acquirer.0 ∷ identity.stan.0 ∷ identity.stamp ∷ []
fed_texts (key.Account id) = id.0 ∷ []
