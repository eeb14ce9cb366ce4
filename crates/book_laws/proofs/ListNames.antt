-- A list is determined by its part's number.
use Rattle.std.proofs.Common.{◌≡◌, ℕ, ◌==◌, true, cond, refl, ap, sym, ◌∙◌}
use Rattle.std.proofs.lemmas.Bool.Decides.{Decides-eqb}
use Rattle.issuer_rows.specs.declared.row_val.RowVal.{RowVal}
use Rattle.book_laws.specs.Parts.{part_number, list_part, list_of, is_in}
use Rattle.book_laws.specs.declared.row_list.RowList.{RowList}
use Rattle.book_laws.specs.declared.row_list.RowList.TheVariants.{Cards, Days, Budgets, Originals, Ahead, Accounts}

named : ℕ → RowList
named n = cond (n == 2) Cards (cond (n == 3) Days (cond (n == 4) Budgets (cond (n == 5) Originals (cond (n == 6) Ahead Accounts))))

its_name : (list : RowList) → named (part_number (list_part list)) ≡ list
unfolding named
its_name Cards = refl
its_name Days = refl
its_name Budgets = refl
its_name Originals = refl
its_name Ahead = refl
its_name Accounts = refl

-- the list that a row stands in is the one by what it holds
pub list_told : (list : RowList) (held : RowVal) → is_in list held ≡ true → list_of held ≡ list
list_told list held is = sym (its_name (list_of held)) ∙ ap named (sym ((Decides-eqb _ _).0 is)) ∙ its_name list
