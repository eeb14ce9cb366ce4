-- The lists of a text of version 1 or 2, one after another.
use Rattle.std.proofs.Common.{◌≡◌, ℕ, ◌+◌, true, false, cond, List, [], ◌∷◌, Option, Some, None, option_and_then, Result, Ok, refl, sym, ap, subst, ◌∙◌, arith}
use Rattle.std.specs.Prelude.{unwrap_or}
use Rattle.std.proofs.lemmas.Bool.{false≢true}
use Rattle.std.specs.FinMap as map
use Rattle.std.specs.List.{sum_by, AllByRecursion}
use Rattle.std.proofs.lemmas.List.{nil_from_length}
use Rattle.issuer_words.specs.Words.{AccountId, Pan, RowVal, Rows, account_in, available_in, backing_of_account, is_from_account, kept_in, key_cmp, stay_if, stays}
use Rattle.issuer_rows.specs.declared.row_key.RowKey.TheVariants as key
use Rattle.serde_json.specs.Data.{Data, Items, no_items}
use Rattle.serde_json.specs.Find.{get, as_array}
use Rattle.book_laws.specs.Cards.{own_account}
use Rattle.book_laws.specs.Lists.{add_entries, add_list}
use Rattle.book_laws.specs.Originals.{original_entry_of}
use Rattle.book_laws.specs.Parts.{list_part, list_key, has_card_money, has_list}
use Rattle.book_laws.specs.Reading.{add_lists, all_lists, book_of}
use Rattle.book_laws.specs.Steps.{◌>>=◌, or_fault}
use Rattle.book_laws.specs.declared.book_version.BookVersion.{BookVersion}
use Rattle.book_laws.specs.declared.book_version.BookVersion.TheVariants.{One, Two, Three}
use Rattle.book_laws.specs.declared.old_card.OldCard.{OldCard}
use Rattle.book_laws.specs.declared.row_list.RowList.{RowList}
use Rattle.book_laws.specs.declared.row_list.RowList.TheVariants.{Cards, Days, Budgets, Originals, Ahead, Accounts}
use Rattle.book_laws.specs.declared.text_fault.TextFault.{TextFault}
use Rattle.book_laws.specs.declared.text_fault.TextFault.TheVariants.{Shape}
use Rattle.book_changes.specs.Migration.{entries_in, cards_in, originals_in, stay_from, card_backing, available_of, all_available, IsMigrated, KeepsAvailable, KeepsBackings}
use Rattle.book_changes.proofs.Puts.{Row, Plainly, IsPlainList, plain_list, HasOwn, cards_list, bound, same_ok}
use Rattle.book_changes.proofs.Shapes.{each_ok, IsAside, day_aside, budget_aside, mark_aside, stay_read, original_row, stays_total, nothing_total}

-- ---- one list

next : (version : BookVersion) (list : RowList) (lists : List RowList) (top : Data) (m rows : Rows) → add_lists version (list ∷ lists) top m ≡ Ok rows
    → (more : Rows) × (add_list version list top m ≡ Ok more) × (add_lists version lists top more ≡ Ok rows)
unfolding add_lists
next version list lists top m rows h = bound (add_list version list top m) (λ more. add_lists version lists top more) rows h

last : (version : BookVersion) (top : Data) (m rows : Rows) → add_lists version [] top m ≡ Ok rows → m ≡ rows
unfolding add_lists
last version top m rows h = same_ok m rows h

list_read : (version : BookVersion) (list : RowList) (top : Data) (m more : Rows) → has_list version list ≡ true → add_list version list top m ≡ Ok more
    → add_entries version list (entries_in list top) m ≡ Ok more
unfolding add_list
list_read version list top m more has h =
    let found : (or_fault (Shape (list_part list)) (option_and_then as_array (get (list_key list) top)) >>= λ entries. add_entries version list entries m) ≡ Ok more =
    sym (ap (λ t. cond t (or_fault (Shape (list_part list)) (option_and_then as_array (get (list_key list) top)) >>= λ entries. add_entries version list entries m) (Ok m)) has) ∙ h in
    elim (option_and_then as_array (get (list_key list) top)) as (λ o. (or_fault (Shape (list_part list)) o >>= λ entries. add_entries version list entries m) ≡ Ok more → add_entries version list (unwrap_or o no_items) m ≡ Ok more) [
      | Some items ↦ λ e. e
      | None ↦ λ e. absurd cc
    ] found

list_passed : (version : BookVersion) (list : RowList) (top : Data) (m more : Rows) → has_list version list ≡ false → add_list version list top m ≡ Ok more → m ≡ more
unfolding add_list
list_passed version list top m more lacks h =
    same_ok m more (sym (ap (λ t. cond t (or_fault (Shape (list_part list)) (option_and_then as_array (get (list_key list) top)) >>= λ entries. add_entries version list entries m) (Ok m)) lacks) ∙ h)

-- nothing of money
no_more : Pan → ℕ
no_more pan = 0

unmoved : (m more : Rows) → m ≡ more → Plainly m more no_more
unfolding no_more
unmoved m more same = subst (λ (x : Rows). Plainly m x (λ pan. 0)) same (record { available = refl; accounts = λ id. refl; stays = λ pan. omega arith })

aside_list : (version : BookVersion) (list : RowList) → IsPlainList version list (λ pan d. 0) → (items : Items) (m more : Rows) → add_entries version list items m ≡ Ok more → Plainly m more no_more
unfolding no_more
aside_list version list is items m more h =
    let all = plain_list version list (λ pan d. 0) is items m more h in record {
      available = all.available;
      accounts = all.accounts;
      stays = λ pan. let s = all.stays pan in let n = nothing_total items in omega (arith, s, n);
    }

day_list : (version : BookVersion) → IsPlainList version Days (λ pan d. 0)
day_list version = record {
  old = refl;
  plain = λ d row e. (each_ok IsAside _ row e (day_aside d)).0;
  weighs = λ d row pan e. (each_ok IsAside _ row e (day_aside d)).1 (is_from_account (own_account pan));
}

budget_list : (version : BookVersion) → IsPlainList version Budgets (λ pan d. 0)
budget_list version = record {
  old = refl;
  plain = λ d row e. (each_ok IsAside _ row e (budget_aside d)).0;
  weighs = λ d row pan e. (each_ok IsAside _ row e (budget_aside d)).1 (is_from_account (own_account pan));
}

mark_list : (version : BookVersion) → IsPlainList version Ahead (λ pan d. 0)
mark_list version = record {
  old = refl;
  plain = λ d row e. (each_ok IsAside _ row e (mark_aside d)).0;
  weighs = λ d row pan e. (each_ok IsAside _ row e (mark_aside d)).1 (is_from_account (own_account pan));
}

original_list : (version : BookVersion) → has_card_money version ≡ true → IsPlainList version Originals (λ pan d. stay_read pan (original_entry_of version d))
original_list version old = record {
  old = refl;
  plain = λ d row e. (original_row version d row old e).0;
  weighs = λ d row pan e. (original_row version d row old e).1 pan;
}

marks_read : (version : BookVersion) (top : Data) (m more : Rows) → add_list version Ahead top m ≡ Ok more → Plainly m more no_more
marks_read version top m more h =
    elim (has_list version Ahead) as (λ b. has_list version Ahead ≡ b → Plainly m more no_more) [
      | true ↦ λ has. aside_list version Ahead (mark_list version) (entries_in Ahead top) m more (list_read version Ahead top m more has h)
      | false ↦ λ lacks. unmoved m more (list_passed version Ahead top m more lacks h)
    ] refl

no_accounts : (version : BookVersion) → has_card_money version ≡ true → has_list version Accounts ≡ false
no_accounts One h = refl
no_accounts Two h = refl
no_accounts Three h = absurd (false≢true h)

-- ---- the empty book

no_entries : map.entries (map.empty {X = RowVal} {R = key_cmp}) ≡ []
no_entries = nil_from_length (map.entries (map.empty {X = RowVal} {R = key_cmp})) (sym (map.len-entries map.empty) ∙ map.len-empty key_cmp RowVal)

-- ---- all lists

-- what a book has that was read from a text of version 1 or 2
record HasMigrated (version : BookVersion) (top : Data) (rows : Rows) : Type 0 where
  available : all_available rows ≡ sum_by (λ card. card.available) (cards_in top)
  has : AllByRecursion (HasOwn rows) (cards_in top)
  stays : (pan : Pan) → stays (is_from_account (own_account pan)) rows ≡ sum_by (stay_from pan) (originals_in version top)

moved : (before after : Rows) (cards : List OldCard) → ((id : AccountId) → map.get after (key.Account id) ≡ map.get before (key.Account id)) → AllByRecursion (HasOwn before) cards → AllByRecursion (HasOwn after) cards
moved before after [] same h = tt
moved before after (card ∷ cards) same h = (same (own_account card.pan) ∙ h.0, moved before after cards same h.1)

has_migrated : (version : BookVersion) (top : Data) (rows : Rows) → has_card_money version ≡ true → add_lists version all_lists top map.empty ≡ Ok rows → HasMigrated version top rows
unfolding no_more
has_migrated version top rows old h =
    let l1 = next version Cards _ top map.empty rows h in
    let l2 = next version Days _ top l1.0 rows l1.2 in
    let l3 = next version Budgets _ top l2.0 rows l2.2 in
    let l4 = next version Originals _ top l3.0 rows l3.2 in
    let l5 = next version Ahead _ top l4.0 rows l4.2 in
    let l6 = next version Accounts _ top l5.0 rows l5.2 in
    let cards = cards_list version old (entries_in Cards top) map.empty l1.0 (λ pan _. map.get-empty key_cmp (key.Account (own_account pan))) (list_read version Cards top map.empty l1.0 refl l1.1) in
    let days = aside_list version Days (day_list version) (entries_in Days top) l1.0 l2.0 (list_read version Days top l1.0 l2.0 refl l2.1) in
    let budgets = aside_list version Budgets (budget_list version) (entries_in Budgets top) l2.0 l3.0 (list_read version Budgets top l2.0 l3.0 refl l3.1) in
    let originals = plain_list version Originals (λ pan d. stay_read pan (original_entry_of version d)) (original_list version old) (entries_in Originals top) l3.0 l4.0 (list_read version Originals top l3.0 l4.0 refl l4.1) in
    let marks = marks_read version top l4.0 l5.0 l5.1 in
    let accounts = unmoved l5.0 l6.0 (list_passed version Accounts top l5.0 l6.0 (no_accounts version old) l6.1) in
    let same = last version top l6.0 rows l6.2 in
    let nothing : all_available map.empty ≡ 0 = ap (sum_by (λ (row : Row). available_of row.1)) no_entries in
    subst (HasMigrated version top) same (record {
      available = accounts.available ∙ marks.available ∙ originals.available ∙ budgets.available ∙ days.available ∙ (let c = cards.available in omega (arith, c, nothing));
      has = moved l1.0 l6.0 (cards_in top) (λ id. accounts.accounts id ∙ marks.accounts id ∙ originals.accounts id ∙ budgets.accounts id ∙ days.accounts id) cards.has;
      stays = λ pan.
          let none : stays (is_from_account (own_account pan)) map.empty ≡ 0 = ap (sum_by (λ (row : Row). stay_if (is_from_account (own_account pan)) (kept_in row.0 row.1))) no_entries in
          let s1 = cards.stays pan in
          let s2 = days.stays pan in
          let s3 = budgets.stays pan in
          let s4 = originals.stays pan in
          let s5 = marks.stays pan in
          let s6 = accounts.stays pan in
          let all = stays_total version pan (entries_in Originals top) in
          omega (arith, none, s1, s2, s3, s4, s5, s6, all);
    })

lists_of : (version : BookVersion) (top : Data) (rows : Rows) → IsMigrated version top rows → add_lists version all_lists top map.empty ≡ Ok rows
unfolding book_of
lists_of version top rows h = sym (ap (λ (r : Result BookVersion TextFault). r >>= λ v. add_lists v all_lists top map.empty) h.stated) ∙ h.read

pub keeps_available : (version : BookVersion) (top : Data) (rows : Rows) → KeepsAvailable version top rows
keeps_available version top rows h = (has_migrated version top rows h.old (lists_of version top rows h)).available

backed : (version : BookVersion) (top : Data) (rows : Rows) (cards : List OldCard) → ((pan : Pan) → stays (is_from_account (own_account pan)) rows ≡ sum_by (stay_from pan) (originals_in version top))
    → AllByRecursion (HasOwn rows) cards → AllByRecursion (λ card. backing_of_account rows (own_account card.pan) ≡ card_backing version top card) cards
backed version top rows [] s h = tt
backed version top rows (card ∷ cards) s h = (
  ap (λ (o : Option RowVal). available_in (account_in o) + stays (is_from_account (own_account card.pan)) rows) h.0 ∙ ap (λ n. card.available + n) (s card.pan),
  backed version top rows cards s h.1,
)

pub keeps_backings : (version : BookVersion) (top : Data) (rows : Rows) → KeepsBackings version top rows
keeps_backings version top rows h =
    let all = has_migrated version top rows h.old (lists_of version top rows h) in
    backed version top rows (cards_in top) all.stays all.has
