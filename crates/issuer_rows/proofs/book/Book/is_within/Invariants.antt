use Rattle.std.proofs.Common.{◌≡◌, ◌↔◌, Some}
use Rattle.std.specs.FinMap as map
use Rattle.std.specs.List.{AllByRecursion}
use Rattle.issuer_rows.specs.Book.{IsWithin}
use Rattle.issuer_rows.proofs.book.Book.is_within.Given as goal

abbrev pub invariant-loop-key : goal.invariant-loop-key
invariant-loop-key l = AllByRecursion (λ row. map.get l.other row.0 ≡ Some row.1) l.key-iterator ↔ IsWithin l.self l.other
