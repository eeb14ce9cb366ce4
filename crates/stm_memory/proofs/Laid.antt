-- A book, each row as a message sees it.
use Rattle.std.proofs.Common.{◌≡◌, ◌≢◌, ℕ, ◌+◌, ◌<◌, ◌≤◌, [], length, cond, Bool, Option, Some, None, refl, sym, ap, ◌∙◌, subst, ◌⊎◌, inl, inr, arith}
use Rattle.std.proofs.lemmas.Bool.{cases_lt}
use Rattle.std.proofs.lemmas.Option.{none-some, same_Some, slice_get_within}
use Rattle.std.specs.FinMap as finite
use Rattle.std.specs.Ordering.{eq_by_cmp}
use Rattle.issuer_rows.proofs.KeyLaws.{key_cmp_total}
use Rattle.issuer_words.specs.Words.{RowKey, RowVal, Rows, key_cmp}
use Rattle.issuer_view.specs.Words.{IsOnceEach, value_in}
use Rattle.stm_memory.specs.Words.{Chain, Chains, Entries, IsLaidOver, Resolves, found, held}
use Rattle.stm_memory.specs.Words.{links_in, placed, row_at, row_under, stands}
use Rattle.stm_memory.specs.declared.seen.Seen.{Seen}
use Rattle.stm_memory.specs.declared.version.Version.{Version}
use Rattle.stm_memory.proofs.ListLaws.{standing, same_tied, other_tied}
use Rattle.stm_memory.proofs.Placed.{held_placed}
use Rattle.stm_memory.proofs.RowLaws.{row_here, rows_cases}
use Rattle.stm_memory.proofs.SeenLaws.{same_under, seen_alike}
use Rattle.stm_memory.specs.declared.seen.Seen.TheVariants.{Base, Value, Estimate}

-- the row is as it was, or the value that is seen of it
abbrev pub IsUnder : Chains → ℕ → Rows → Rows → RowKey → Type 0
IsUnder chains index book laid r = (seen : Seen) → Resolves (stands chains) r index seen → finite.get laid r ≡ row_under (finite.get book r) seen

-- the rows with numbers below this one are done, and no row is changed otherwise
pub record Laying (chains : Chains) (index : ℕ) (book laid : Rows) (number : ℕ) : Type 0 where
  pub each : (r : RowKey) → (finite.get laid r ≡ finite.get book r) ⊎ IsUnder chains index book laid r
  pub done : (n : ℕ) (r : RowKey) → n < number → row_at chains n ≡ Some r → IsUnder chains index book laid r

-- one more row is done, and the others stay
one_more : (chains : Chains) (index : ℕ) (book laid new : Rows) (number : ℕ) (row : RowKey) → Laying chains index book laid number → row_at chains number ≡ Some row → IsUnder chains index book new row → ((r : RowKey) → r ≢ row → finite.get new r ≡ finite.get laid r) → Laying chains index book new (number + 1)
one_more chains index book laid new number row so_far at own others = record {
  each = λ r. elim (rows_cases r row) [
    | inl same ↦ inr (subst (IsUnder chains index book new) (sym same) own)
    | inr ne ↦ elim (so_far.each r) [
      | inl kept ↦ inl (others r ne ∙ kept)
      | inr under ↦ inr (λ seen is. others r ne ∙ under seen is)
    ]
  ];
  done = λ n r l named. elim (rows_cases r row) [
    | inl same ↦ subst (IsUnder chains index book new) (sym same) own
    | inr ne ↦ elim (cases_lt n number) [
      | inl before ↦ λ seen is. others r ne ∙ so_far.done n r before named seen is
      | inr now_at ↦ let here : n ≡ number = omega arith in absurd (ne (same_Some r row (sym named ∙ ap (row_at chains) here ∙ at)))
    ]
  ];
}

-- a value is seen of the row, and is written
pub laid_value : (chains : Chains) (index : ℕ) (book laid new : Rows) (number : ℕ) (row : RowKey) (seen : Seen) (value : RowVal) → Laying chains index book laid number → row_at chains number ≡ Some row → Resolves (stands chains) row index seen → row_under (finite.get book row) seen ≡ Some value → new ≡ finite.insert laid row value → Laying chains index book new (number + 1)
laid_value chains index book laid new number row seen value so_far at is under put =
    let gets : (r : RowKey) → finite.get new r ≡ cond (eq_by_cmp key_cmp r row) (Some value) (finite.get laid r) = λ r. ap (λ (m : Rows). finite.get m r) put ∙ finite.get-insert key_cmp_total laid row value r in
    one_more chains index book laid new number row so_far at
    (λ other also. gets row ∙ ap (λ (b : Bool). cond b (Some value) (finite.get laid row)) (same_tied row row refl) ∙ sym under ∙ same_under (stands chains row) index seen other (finite.get book row) is also)
    (λ r ne. gets r ∙ ap (λ (b : Bool). cond b (Some value) (finite.get laid r)) (other_tied r row ne))

-- no value is seen of the row, and it stays
pub laid_nothing : (chains : Chains) (index : ℕ) (book laid : Rows) (number : ℕ) (row : RowKey) (seen : Seen) → Laying chains index book laid number → row_at chains number ≡ Some row → Resolves (stands chains) row index seen → row_under (finite.get book row) seen ≡ finite.get book row → Laying chains index book laid (number + 1)
laid_nothing chains index book laid number row seen so_far at is under =
    one_more chains index book laid laid number row so_far at
    (elim (so_far.each row) [
      | inl kept ↦ λ other also. kept ∙ sym under ∙ same_under (stands chains row) index seen other (finite.get book row) is also
      | inr done ↦ done
    ])
    (λ r ne. refl)

-- nothing is seen of a row without a chain
nothing_seen : (chains : Chains) (r : RowKey) (index : ℕ) (seen : Seen) (was : Option RowVal) → value_in chains r ≡ None → Resolves (stands chains) r index seen → row_under was seen ≡ was
nothing_seen chains r index Base was none is = refl
nothing_seen chains r index (Value version value) was none is = absurd (none-some _ (sym (ap (λ (o : Option Chain). found (links_in o) version.index) none) ∙ is.1))
nothing_seen chains r index (Estimate at) was none is = refl

-- all rows are done
pub laid_all : (chains : Chains) (index : ℕ) (book laid : Rows) (number : ℕ) → Laying chains index book laid number → length chains ≤ number → IsLaidOver (stands chains) index book laid
laid_all chains index book laid number so_far all row seen is =
    elim (so_far.each row) [
      | inr under ↦ under seen is
      | inl kept ↦ elim (value_in chains row) as (λ o. value_in chains row ≡ o → finite.get laid row ≡ row_under (finite.get book row) seen) [
        | None ↦ λ none. kept ∙ sym (nothing_seen chains row index seen (finite.get book row) none is)
        | Some chain ↦ λ some.
            let there = standing chains row chain some in
            so_far.done there.0 row (let l = slice_get_within chains there.0 (row, chain) there.1 in omega arith) (row_here chains there.0 (row, chain) there.1) seen is
      ] refl
    ]

-- the same, by the entries that the chains hold
pub laid_entries : (chains : Chains) (index : ℕ) (book laid : Rows) (entries : Entries) → IsOnceEach chains → finite.from_entries (placed chains) ≡ entries → IsLaidOver (stands chains) index book laid → IsLaidOver (held entries) index book laid
laid_entries chains index book laid entries once same over row seen is =
    over row seen (seen_alike (held entries row) (stands chains row) index seen (λ i. sym (ap (λ (es : Entries). held es row i) same) ∙ held_placed chains row i once) is)

-- what isn't a value leaves the row
pub no_value : (seen : Seen) (was : Option RowVal) → ((v : Version) (x : RowVal) → seen ≡ Value v x → ⊥) → row_under was seen ≡ was
no_value Base was not_value = refl
no_value (Value v x) was not_value = absurd (not_value v x refl)
no_value (Estimate at) was not_value = refl
