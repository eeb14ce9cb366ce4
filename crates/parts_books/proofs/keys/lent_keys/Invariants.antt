use Rattle.std.proofs.Common.{◌≡◌, take}
use Rattle.parts_books.specs.PartBooks.{lent_keys}
use Rattle.parts_books.proofs.keys.lent_keys.Given as goal

-- the accounts of the rows under the keys before this one are there
abbrev pub invariant-loop-key : goal.invariant-loop-key
invariant-loop-key l = l.lent.items ≡ lent_keys l.book (take l.key-index l.keys)
