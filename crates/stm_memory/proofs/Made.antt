-- Chains after a row's chain is made.
use Rattle.std.proofs.Common.{◌≡◌, ◌≢◌, ℕ, suc, ◌+◌, ◌<◌, Bool, true, false, cond, not, List, [], ◌∷◌, ◌++◌, Some, None, Result, Ok, Err, IfOk, OnOk, OnErr, refl, sym, ap, ◌∙◌, subst, ◌⊎◌, inl, inr, arith}
use Rattle.std.proofs.lemmas.Option.{none-some}
use Rattle.std.specs.List.{position_or_len}
use Rattle.indexmap.proofs.CallerLemmas.{insert_entry-new}
use Rattle.indexmap.specs.IndexMap.{IndexMap, insert_index}
use Rattle.issuer_rows.proofs.KeyLaws.{key_eq_decides}
use Rattle.issuer_words.specs.Words.{RowKey, key_eq}
use Rattle.issuer_view.specs.Words.{IsOnceEach, value_in}
use Rattle.stm_memory.proofs.RowLaws.{row_at-append}
use Rattle.stm_memory.specs.Chains.{Chain, Chains, found, links_in, room_in, stands, room_of, rows_of, row_at, AreSound, IsMade}
use Rattle.stm_memory.specs.declared.link.Link.{Link}

-- nothing changed, or a chain without links is appended
pub Grown : Chains → Chains → RowKey → Type 0
Grown es new row = (new ≡ es) ⊎ ((chain : Chain) × (chain.links ≡ []) × (new ≡ es ++ (row, chain) ∷ []))

-- making a row's chain does so, whether it succeeds or not
pub grown : {S E : Type 0} (m : IndexMap RowKey Chain S) (new : Chains) (row : RowKey) (r : Result ℕ E) → OnOk r (IsMade m.entries new row) → OnErr r (new ≡ m.entries) → Grown m.entries new row
unfolding Grown
grown m new row (Err e) made err = inl err
grown m new row (Ok n) made err =
    elim (value_in m.entries row) as (λ o. value_in m.entries row ≡ o → (new ≡ m.entries) ⊎ ((chain : Chain) × (chain.links ≡ []) × (new ≡ m.entries ++ (row, chain) ∷ []))) [
      | None ↦ λ e. let one = made.1 e in inr (one.0, one.1, one.2 ∙ insert_entry-new key_eq m row one.0 e)
      | Some x ↦ λ e. inl (made.0 (λ none. none-some x (sym none ∙ e)))
    ] refl

-- a chain without links that is appended shows nothing
last_stands : (es : Chains) (row : RowKey) (chain : Chain) → chain.links ≡ [] → (r : RowKey) (i : ℕ) → stands (es ++ (row, chain) ∷ []) r i ≡ stands es r i
last_stands [] row chain none r i =
    elim (key_eq r row) as (λ b. found (links_in (cond b (Some chain) None)) i ≡ None) [ true ↦ ap (λ (links : List Link). found links i) none | false ↦ refl ]
last_stands (e ∷ es) row chain none r i =
    elim (key_eq r e.0) as (λ b. found (links_in (cond b (Some e.1) (value_in (es ++ (row, chain) ∷ []) r))) i ≡ found (links_in (cond b (Some e.1) (value_in es r))) i) [ true ↦ refl | false ↦ last_stands es row chain none r i ]

-- and takes no room
last_room : (es : Chains) (row : RowKey) (chain : Chain) (r : RowKey) → 0 < room_of es r → 0 < room_of (es ++ (row, chain) ∷ []) r
last_room [] row chain r some = absurd (omega arith)
last_room (e ∷ es) row chain r some =
    elim (key_eq r e.0) as (λ b. 0 < room_in (cond b (Some e.1) (value_in es r)) → 0 < room_in (cond b (Some e.1) (value_in (es ++ (row, chain) ∷ []) r))) [ true ↦ λ some. some | false ↦ last_room es row chain r ] some

pub grown_stands : (es new was : Chains) (row : RowKey) → Grown es new row → es ≡ was → (r : RowKey) (i : ℕ) → stands new r i ≡ stands was r i
unfolding Grown
grown_stands es new was row (inl same) is r i = ap (λ (xs : Chains). stands xs r i) (same ∙ is)
grown_stands es new was row (inr more) is r i =
    ap (λ (xs : Chains). stands xs r i) more.2 ∙ last_stands es row more.0 more.1 r i ∙ ap (λ (xs : Chains). stands xs r i) is

pub grown_room : (es new was : Chains) (row : RowKey) → Grown es new row → es ≡ was → (r : RowKey) → 0 < room_of was r → 0 < room_of new r
unfolding Grown
grown_room es new was row (inl same) is r some = subst (λ (xs : Chains). 0 < room_of xs r) (sym is ∙ sym same) some
grown_room es new was row (inr more) is r some =
    subst (λ (xs : Chains). 0 < room_of xs r) (sym more.2) (last_room es row more.0 r (subst (λ (xs : Chains). 0 < room_of xs r) (sym is) some))

pub grown_rows : (es new was : Chains) (row : RowKey) → Grown es new row → es ≡ was → (n : ℕ) (r : RowKey) → row_at was n ≡ Some r → row_at new n ≡ Some r
unfolding Grown
grown_rows es new was row (inl same) is n r at = ap (λ (xs : Chains). row_at xs n) (same ∙ is) ∙ at
grown_rows es new was row (inr more) is n r at =
    ap (λ (xs : Chains). row_at xs n) more.2 ∙ row_at-append es ((row, more.0) ∷ []) n r (ap (λ (xs : Chains). row_at xs n) is ∙ at)

-- chains stay sound
pub grown_sound : (es new : Chains) (row : RowKey) → AreSound es → IsOnceEach new → Grown es new row → AreSound new
grown_sound es new row sound once more = record {
  once = once;
  kind = λ r i h e. sound.kind r i h (sym (grown_stands es new es row more refl r i) ∙ e);
}

-- the first place where the row stands, or else the end, is the row's once its chain is appended
last_row : (es : Chains) (row : RowKey) (chain : Chain) → row_at (es ++ (row, chain) ∷ []) (position_or_len (key_eq row) (rows_of es)) ≡ Some row
last_row [] row chain = refl
last_row (e ∷ es) row chain =
    elim (key_eq row e.0) as (λ b. key_eq row e.0 ≡ b → row_at ((e ∷ es) ++ (row, chain) ∷ []) (cond (not b) (1 + position_or_len (key_eq row) (rows_of es)) 0) ≡ Some row) [
      | true ↦ λ t. ap Some (sym ((key_eq_decides row e.0).0 t))
      | false ↦ λ f.
          let next : 1 + position_or_len (key_eq row) (rows_of es) ≡ suc (position_or_len (key_eq row) (rows_of es)) = omega arith in
          ap (row_at ((e ∷ es) ++ (row, chain) ∷ [])) next ∙ last_row es row chain
    ] refl

-- where the row has a chain it is the row's already
own_row : (es : Chains) (row : RowKey) → value_in es row ≢ None → row_at es (position_or_len (key_eq row) (rows_of es)) ≡ Some row
own_row [] row there = absurd (there refl)
own_row (e ∷ es) row there =
    elim (key_eq row e.0) as (λ b. key_eq row e.0 ≡ b → row_at (e ∷ es) (cond (not b) (1 + position_or_len (key_eq row) (rows_of es)) 0) ≡ Some row) [
      | true ↦ λ t. ap Some (sym ((key_eq_decides row e.0).0 t))
      | false ↦ λ f.
          let next : 1 + position_or_len (key_eq row) (rows_of es) ≡ suc (position_or_len (key_eq row) (rows_of es)) = omega arith in
          ap (row_at (e ∷ es)) next ∙ own_row es row (λ none. there (ap (λ (b : Bool). cond b (Some e.1) (value_in es row)) f ∙ none))
    ] refl

-- the number that is answered is the row's
pub made_row : {S E : Type 0} (m : IndexMap RowKey Chain S) (new : Chains) (row : RowKey) (r : Result ℕ E) → OnOk r (IsMade m.entries new row) → IfOk r (λ n. n ≡ insert_index key_eq m row) → IfOk r (λ n. row_at new n ≡ Some row)
made_row m new row (Err e) made is = tt
made_row m new row (Ok n) made is =
    ap (row_at new) is
    ∙ elim (value_in m.entries row) as (λ o. value_in m.entries row ≡ o → row_at new (position_or_len (key_eq row) (rows_of m.entries)) ≡ Some row) [
      | None ↦ λ e.
          let one = made.1 e in
          ap (λ (xs : Chains). row_at xs (position_or_len (key_eq row) (rows_of m.entries))) (one.2 ∙ insert_entry-new key_eq m row one.0 e) ∙ last_row m.entries row one.0
      | Some x ↦ λ e.
          let there : value_in m.entries row ≢ None = λ none. none-some x (sym none ∙ e) in
          ap (λ (xs : Chains). row_at xs (position_or_len (key_eq row) (rows_of m.entries))) (made.0 there) ∙ own_row m.entries row there
    ] refl
