-- Lists of entries, one entry after another.
use Rattle.std.proofs.Common.{◌≡◌, ◌<◌, ◌+◌, ◌∷◌, List, Result, Ok, refl, ap, ◌∙◌, sym, length, nat_eq, map, Bor, ℕ, [], drop, get_or, ne_eqb, arith}
use Rattle.std.proofs.lemmas.List.{drop_more}
use Rattle.issuer_rows.specs.Fold.{Rows}
use Rattle.serde_json.specs.View.{view, items_view}
use Rattle.serde_json.specs.Data.{Data, no_members}
use Rattle.serde_json.specs.declared.value.Value.{Value}
use Rattle.book_laws.specs.Fields.{are_keys}
use Rattle.book_laws.specs.Lists.{add_entry, add_entries, add_list}
use Rattle.book_laws.specs.Reading.{add_lists}
use Rattle.book_laws.specs.Steps.{◌>>=◌, IsFaultOrMemory}
use Rattle.book_laws.specs.declared.book_version.BookVersion.{BookVersion}
use Rattle.book_laws.specs.declared.text_fault.TextFault.{TextFault}
use Rattle.book_laws.specs.declared.text_fault.TextFault.TheVariants.{Syntax, Shape, Range, OutOfMemory}
use Rattle.book_laws.specs.declared.row_list.RowList.{RowList}

-- no member is left exactly where no key is
pub no_more : (rest : List (Bor (List ℕ))) → nat_eq (length rest) 0 ≡ are_keys (map (λ key. key.now) rest) no_members
no_more [] = refl
no_more (key ∷ keys) = ne_eqb (length (key ∷ keys)) 0 (λ e. omega arith)

-- a fault stays, whatever is read behind it
pub stays : {A B : Type 0} (fault : TextFault) (read : Result A TextFault) (f : A → Result B TextFault) → IsFaultOrMemory fault read → IsFaultOrMemory fault (read >>= f)
stays {A = A} {B = B} Syntax read f is = ap (λ (r : Result A TextFault). r >>= f) is
stays {A = A} {B = B} (Shape part) read f is = ap (λ (r : Result A TextFault). r >>= f) is
stays {A = A} {B = B} Range read f is = ap (λ (r : Result A TextFault). r >>= f) is
stays OutOfMemory read f is = tt

-- a fault of one reading is that of another that is the same
pub also : {A : Type 0} (fault : TextFault) (read other : Result A TextFault) → read ≡ other → IsFaultOrMemory fault read → IsFaultOrMemory fault other
also Syntax read other same is = sym same ∙ is
also (Shape part) read other same is = sym same ∙ is
also Range read other same is = sym same ∙ is
also OutOfMemory read other same is = tt

-- what is left of a list begins with an entry
pub entries_at : (version : BookVersion) (list : RowList) (vs rest : List Value) (x : Value) (rows : Rows) → vs ≡ x ∷ rest
    → (add_entry version list (view x) rows >>= λ more. add_entries version list (items_view rest) more) ≡ add_entries version list (items_view vs) rows
unfolding add_entries
entries_at version list vs rest x rows e = rw e refl

pub none_left : (version : BookVersion) (list : RowList) (vs : List Value) (rows : Rows) → vs ≡ [] → add_entries version list (items_view vs) rows ≡ Ok rows
unfolding add_entries
none_left version list vs rows e = rw e refl

-- what is left of the lists begins with one
pub lists_at : (version : BookVersion) (lists rest : List RowList) (list : RowList) (top : Data) (rows : Rows) → lists ≡ list ∷ rest
    → (add_list version list top rows >>= λ more. add_lists version rest top more) ≡ add_lists version lists top rows
unfolding add_lists
lists_at version lists rest list top rows e = rw e refl

pub no_list_left : (version : BookVersion) (lists : List RowList) (top : Data) (rows : Rows) → lists ≡ [] → add_lists version lists top rows ≡ Ok rows
unfolding add_lists
no_list_left version lists top rows e = rw e refl

-- the element at a place, and those behind it
pub here : {A : Type 0} (vs : List A) (i : ℕ) (x : A) → i < length vs → x ≡ get_or vs i x → drop i vs ≡ x ∷ drop (i + 1) vs
here {A = A} vs i x within is = drop_more vs i x within ∙ ap (λ (y : A). y ∷ drop (i + 1) vs) (sym is)

-- what was read goes on
pub goes_on : {A B : Type 0} (x : A) (read : Result A TextFault) (f : A → Result B TextFault) → read ≡ Ok x → f x ≡ (read >>= f)
goes_on {A = A} {B = B} x read f is = sym (ap (λ (r : Result A TextFault). r >>= f) is)
