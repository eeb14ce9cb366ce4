-- What is found in a list is found in the lists, and what is found in a book in the top object.
use Rattle.std.proofs.Common.{◌≡◌, ℕ, suc, ◌<◌, List, take, drop, get_or, length, Option, Some, None, Result, Ok, Err, inr, subst}
use Rattle.std.specs.Prelude.{IfNone, IfOk, IfSome}
use Rattle.std.specs.FinMap as map
use Rattle.std.proofs.Math.Seq.{split_at}
use Rattle.issuer_rows.specs.Fold.{Rows}
use Rattle.serde_json.specs.Data.{Data}
use Rattle.book_laws.specs.Reading.{add_lists, all_lists, value_of, version_of}
use Rattle.book_laws.specs.declared.book_version.BookVersion.{BookVersion}
use Rattle.book_laws.specs.declared.row_list.RowList.{RowList}
use Rattle.book_laws.specs.declared.row_list.RowList.TheVariants.{Cards}
use Rattle.book_places.specs.Places.{IsInList, IsInLists, IsInTop, IsUnsound, IsWrongBook}
use Rattle.book_places.specs.declared.wrong_book.WrongBook.{WrongBook}

pub in_lists : (version : BookVersion) (lists : List RowList) (i : ℕ) (top : Data) (rows mid : Rows) (wrong : WrongBook) → i < length lists
    → add_lists version (take i lists) top rows ≡ Ok mid → IsInList version (get_or lists i Cards) top mid wrong → IsInLists version lists top rows wrong
in_lists version lists i top rows mid wrong within read is = record {
  before = take i lists;
  list = get_or lists i Cards;
  behind = drop (suc i) lists;
  cut = split_at lists i Cards within;
  with_them = mid;
  read = read;
  is = is;
}

pub in_book : (version : BookVersion) (top : Data) (rows : Rows) (found : Option WrongBook) → version_of top ≡ Ok version
    → add_lists version all_lists top map.empty ≡ Ok rows → IfSome found (IsUnsound version top rows) → IfSome found (IsInTop top)
in_book version top rows None has read is = tt
in_book version top rows (Some wrong) has read is = inr (version, has, inr (rows, read, is))

pub in_text : {E : Type 0} (text : List ℕ) (top : Data) (found : Result (Option WrongBook) E) → value_of text ≡ Some top
    → IfOk found (λ wrong. IfSome wrong (IsInTop top)) → IfOk found (λ wrong. IfSome wrong (IsWrongBook text))
in_text text top (Ok None) has is = tt
in_text text top (Ok (Some wrong)) has is = inr (top, has, is)
in_text text top (Err e) has is = tt

-- what holds where nothing is found
pub where_none : {A : Type 0} (found : Option A) (P : Type 0) → found ≡ None → IfNone found P → P
where_none None P is holds = holds
where_none (Some x) P is holds = absurd cc

-- what holds of what is found
pub where_some : {A : Type 0} (found : Option A) (x : A) (P : A → Type 0) → found ≡ Some x → IfSome found P → P x
where_some None x P is holds = absurd cc
where_some (Some y) x P is holds = let same : y ≡ x = cc in subst P same holds
