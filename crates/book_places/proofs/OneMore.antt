-- One entry or one list more behind those that were read.
use Rattle.std.proofs.Common.{◌≡◌, List, [], ◌∷◌, ◌++◌, Result, Ok, Err, refl}
use Rattle.issuer_rows.specs.Fold.{Rows}
use Rattle.serde_json.specs.View.{view, items_view}
use Rattle.serde_json.specs.declared.value.Value.{Value}
use Rattle.serde_json.specs.Data.{Data, no_items}
use Rattle.book_laws.specs.Lists.{add_entry, add_entries, add_list}
use Rattle.book_laws.specs.Reading.{add_lists}
use Rattle.book_laws.specs.Steps.{◌>>=◌, IsFaultOrMemory}
use Rattle.book_laws.specs.declared.book_version.BookVersion.{BookVersion}
use Rattle.book_laws.specs.declared.row_list.RowList.{RowList}
use Rattle.book_laws.specs.declared.text_fault.TextFault.{TextFault}
use Rattle.book_laws.specs.declared.text_fault.TextFault.TheVariants.{Syntax, Shape, Range, OutOfMemory}

behind_one : (read : Result Rows TextFault) (those all : Rows → Result Rows TextFault) (mid more : Rows) → ((rows : Rows) → those rows ≡ Ok mid → all rows ≡ Ok more)
    → (read >>= those) ≡ Ok mid → (read >>= all) ≡ Ok more
behind_one (Ok rows) those all mid more step so_far = step rows so_far
behind_one (Err e) those all mid more step so_far = absurd cc

last_one : (version : BookVersion) (list : RowList) (read : Result Rows TextFault) (more : Rows) → read ≡ Ok more → (read >>= add_entries version list no_items) ≡ Ok more
unfolding add_entries
last_one version list read more is = rw is refl

ok_is : (x y : Rows) → Path (Result Rows TextFault) (Ok x) (Ok y) → x ≡ y
ok_is x y same = cc

-- a fault that isn't of memory is the first one that is read
pub refused : (fault : TextFault) (read : Result Rows TextFault) → (fault ≡ OutOfMemory → ⊥) → IsFaultOrMemory fault read → read ≡ Err fault
refused Syntax read other is = is
refused (Shape part) read other is = is
refused Range read other is = is
refused OutOfMemory read other is = absurd (other refl)

pub one_more : (version : BookVersion) (list : RowList) (front : List Value) (entry : Value) (rows mid more : Rows) → add_entries version list (items_view front) rows ≡ Ok mid
    → add_entry version list (view entry) mid ≡ Ok more → add_entries version list (items_view (front ++ entry ∷ [])) rows ≡ Ok more
unfolding add_entries
one_more version list [] entry rows mid more so_far next =
    let same : rows ≡ mid = ok_is rows mid so_far in
    rw same (last_one version list (add_entry version list (view entry) mid) more next)
one_more version list (first ∷ front) entry rows mid more so_far next =
    behind_one (add_entry version list (view first) rows) (add_entries version list (items_view front)) (add_entries version list (items_view (front ++ entry ∷ []))) mid more
    (λ after read. one_more version list front entry after mid more read next) so_far

last_list : (version : BookVersion) (top : Data) (read : Result Rows TextFault) (more : Rows) → read ≡ Ok more → (read >>= add_lists version [] top) ≡ Ok more
unfolding add_lists
last_list version top read more is = rw is refl

pub one_more_list : (version : BookVersion) (lists : List RowList) (list : RowList) (top : Data) (rows mid more : Rows) → add_lists version lists top rows ≡ Ok mid
    → add_list version list top mid ≡ Ok more → add_lists version (lists ++ list ∷ []) top rows ≡ Ok more
unfolding add_lists
one_more_list version [] list top rows mid more so_far next =
    let same : rows ≡ mid = ok_is rows mid so_far in
    rw same (last_list version top (add_list version list top mid) more next)
one_more_list version (first ∷ lists) list top rows mid more so_far next =
    behind_one (add_list version first top rows) (add_lists version lists top) (add_lists version (lists ++ list ∷ []) top) mid more
    (λ after read. one_more_list version lists list top after mid more read next) so_far
