-- What stands for each row, after the chain of one is changed.
use Rattle.std.proofs.Common.{◌≡◌, ◌≢◌, ℕ, zero, suc, ◌<◌, ◌≤◌, Bool, true, false, cond, List, [], ◌∷◌, ◌++◌, length, get_or, map, slice_get, position, Option, Some, None, IfSome, IfNone, is_some, option_map, refl, sym, ap, ◌∙◌, subst, ◌⊎◌, inl, inr, arith}
use Rattle.std.proofs.lemmas.Bool.{false≢true}
use Rattle.std.proofs.lemmas.List.Quantifiers.{position-Some}
use Rattle.std.proofs.lemmas.Option.{slice_get-get_or, none-some, same_Some}
use Rattle.std.specs.List.{AllByRecursion, IsDistinct}
use Rattle.indexmap.specs.IndexMap.{set_value_at}
use Rattle.issuer_rows.proofs.KeyLaws.{key_eq_decides}
use Rattle.issuer_words.specs.Words.{IsOfKind, RowKey, key_eq}
use Rattle.issuer_view.specs.Words.{IsOnceEach, value_in}
use Rattle.stm_memory.specs.Chains.{AreSound, Chain, Chains, IsChangedAt, found, links_in, room_in, room_of, row_at, rows_of, stands}
use Rattle.stm_memory.specs.Entries.{Held, value_at}
use Rattle.stm_memory.specs.Resolves.{IsSeenOfKind, Resolves}
use Rattle.stm_memory.specs.declared.link.Link.{Link}
use Rattle.stm_memory.specs.declared.seen.Seen.{Seen}
use Rattle.stm_memory.specs.declared.seen.Seen.TheVariants.{Base, Value, Estimate}

no_value : {X : Type 0} (o : Option X) → false ≡ is_some o → o ≡ None
no_value None e = refl
no_value (Some x) e = absurd (false≢true e)

-- a row is this one, or another
pub rows_cases : (a b : RowKey) → (a ≡ b) ⊎ (a ≢ b)
rows_cases a b =
    elim (key_eq a b) as (λ t. key_eq a b ≡ t → (a ≡ b) ⊎ (a ≢ b)) [ true ↦ λ t. inl ((key_eq_decides a b).0 t) | false ↦ λ f. inr (λ e. false≢true (sym f ∙ (key_eq_decides a b).1 e)) ] refl

pub key_other : (a b : RowKey) → a ≢ b → key_eq a b ≡ false
key_other a b ne = elim (key_eq a b) as (λ t. key_eq a b ≡ t → key_eq a b ≡ false) [ true ↦ λ t. absurd (ne ((key_eq_decides a b).0 t)) | false ↦ λ f. f ] refl

-- the first entry is the row's, or it is passed over
met : {V : Type 0} (e : RowKey × V) (es : List (RowKey × V)) (row : RowKey) → row ≡ e.0 → value_in (e ∷ es) row ≡ Some e.1
met {V} e es row same = ap (λ (b : Bool). cond b (Some e.1) (value_in es row)) ((key_eq_decides row e.0).1 same)

passed : {V : Type 0} (e : RowKey × V) (es : List (RowKey × V)) (row : RowKey) → row ≢ e.0 → value_in (e ∷ es) row ≡ value_in es row
passed {V} e es row ne = ap (λ (b : Bool). cond b (Some e.1) (value_in es row)) (key_other row e.0 ne)

pub all_at : {X : Type 0} (P : X → Type 0) (xs : List X) (i : ℕ) (x : X) → AllByRecursion P xs → slice_get xs i ≡ Some x → P x
all_at P [] i x all at = absurd (none-some x at)
all_at P (y ∷ ys) zero x all at = subst P (same_Some _ _ at) all.0
all_at P (y ∷ ys) (suc i) x all at = all_at P ys i x all.1 at

-- a later row is not the first one
later_other : (e : RowKey × Chain) (es : Chains) (n : ℕ) (row : RowKey) → IsOnceEach (e ∷ es) → row_at es n ≡ Some row → row ≢ e.0
unfolding IsDistinct
later_other e es n row once at same = false≢true (sym (all_at (λ k. key_eq e.0 k ≡ false) (rows_of es) n row once.0 at) ∙ (key_eq_decides e.0 row).1 (sym same))

pub rest_once : (e : RowKey × Chain) (es : Chains) → IsOnceEach (e ∷ es) → IsOnceEach es
unfolding IsDistinct
rest_once e es once = once.1

-- a row that has a number has one of those that there are
pub row_within : (es : Chains) (n : ℕ) (row : RowKey) → row_at es n ≡ Some row → n < length es
row_within [] n row at = absurd (none-some row at)
row_within (e ∷ es) zero row at = omega arith
row_within (e ∷ es) (suc n) row at = let rest = row_within es n row at in omega arith

pub rows-set : (es : Chains) (n : ℕ) (chain : Chain) → rows_of (set_value_at es n chain) ≡ rows_of es
rows-set [] n chain = refl
rows-set (e ∷ es) zero chain = refl
rows-set (e ∷ es) (suc n) chain = ap (λ (rows : List RowKey). e.0 ∷ rows) (rows-set es n chain)

-- the row has the chain that is set
pub set_own : (es : Chains) (n : ℕ) (row : RowKey) (chain : Chain) → IsOnceEach es → row_at es n ≡ Some row → value_in (set_value_at es n chain) row ≡ Some chain
set_own [] n row chain once at = absurd (none-some row at)
set_own (e ∷ es) zero row chain once at = met (e.0, chain) es row (sym (same_Some _ _ at))
set_own (e ∷ es) (suc n) row chain once at =
    passed e (set_value_at es n chain) row (later_other e es n row once at) ∙ set_own es n row chain (rest_once e es once) at

-- every other row has the chain that it had
pub set_other : (es : Chains) (n : ℕ) (row other : RowKey) (chain : Chain) → row_at es n ≡ Some row → other ≢ row → value_in (set_value_at es n chain) other ≡ value_in es other
set_other [] n row other chain at ne = refl
set_other (e ∷ es) zero row other chain at ne =
    let apart : other ≢ e.0 = λ same. ne (same ∙ same_Some _ _ at) in
    passed (e.0, chain) es other apart ∙ sym (passed e es other apart)
set_other (e ∷ es) (suc n) row other chain at ne =
    ap (λ (o : Option Chain). cond (key_eq other e.0) (Some e.1) o) (set_other es n row other chain at ne)

-- the row's chain is the one at its number
pub chain_at : (es : Chains) (n : ℕ) (row : RowKey) (chain : Chain) → IsOnceEach es → row_at es n ≡ Some row → Some chain ≡ slice_get (map (λ e. e.1) es) n → value_in es row ≡ Some chain
chain_at [] n row chain once at is = absurd (none-some row at)
chain_at (e ∷ es) zero row chain once at is = met e es row (sym (same_Some _ _ at)) ∙ sym is
chain_at (e ∷ es) (suc n) row chain once at is =
    passed e es row (later_other e es n row once at) ∙ chain_at es n row chain (rest_once e es once) at is

-- the number that a look-up gives is the row's
pub row_found : (es : Chains) (n : ℕ) (row : RowKey) → position (key_eq row) (rows_of es) ≡ Some n → row_at es n ≡ Some row
row_found es n row is =
    let there = position-Some (key_eq row) (rows_of es) n row is in
    slice_get-get_or (rows_of es) n row there.0 ∙ ap Some (sym ((key_eq_decides row (get_or (rows_of es) n row)).0 there.1))

-- where a look-up by hash finds a number, it is the row's
pub number_found : (es : Chains) (row : RowKey) (o : Option ℕ) → o ≡ position (key_eq row) (rows_of es) → IfSome o (λ n. row_at es n ≡ Some row)
number_found es row None is = tt
number_found es row (Some n) is = row_found es n row (sym is)

-- and where it finds none, the row has no chain
pub number_missed : (es : Chains) (row : RowKey) (o : Option ℕ) → is_some o ≡ is_some (value_in es row) → IfNone o (value_in es row ≡ None)
number_missed es row None same = no_value (value_in es row) same
number_missed es row (Some n) same = tt

-- what stands at a number is its row
pub row_here : (es : Chains) (n : ℕ) (e : RowKey × Chain) → slice_get es n ≡ Some e → row_at es n ≡ Some e.0
row_here [] n e at = absurd (none-some e at)
row_here (x ∷ es) zero e at = ap Some (ap (λ (y : RowKey × Chain). y.0) (same_Some x e at))
row_here (x ∷ es) (suc n) e at = row_here es n e at

-- where nothing stands, there is no row
pub no_row_here : (es : Chains) (n : ℕ) → slice_get es n ≡ None → row_at es n ≡ None
no_row_here [] n none = refl
no_row_here (x ∷ es) zero none = absurd (none-some x (sym none))
no_row_here (x ∷ es) (suc n) none = no_row_here es n none

-- the chain that stands at a row's number is its chain
pub chain_here : (es : Chains) (n : ℕ) (e : RowKey × Chain) (row : RowKey) → slice_get es n ≡ Some e → value_in es e.0 ≡ Some e.1 → row_at es n ≡ Some row → value_in es row ≡ Some e.1
chain_here es n e row at is named = ap (value_in es) (same_Some row e.0 (sym named ∙ row_here es n e at)) ∙ is

-- a number below their count is a row's
pub row_there : (es : Chains) (n : ℕ) → n < length es → (row : RowKey) × (row_at es n ≡ Some row)
row_there [] n l = absurd (omega arith)
row_there (e ∷ es) zero l = (e.0, refl)
row_there (e ∷ es) (suc n) l = row_there es n (omega arith)

-- a row's chain is changed at one index
pub changed : (es was : Chains) (n : ℕ) (row : RowKey) (index : ℕ) (chain after : Chain) (entry : Option Held) → AreSound es → row_at es n ≡ Some row → Some chain ≡ slice_get (map (λ e. e.1) es) n → found after.links index ≡ entry → ((i : ℕ) → i ≢ index → found after.links i ≡ found chain.links i) → es ≡ was → IsChangedAt was (set_value_at es n after) row index entry
changed es was n row index chain after entry sound at is own others same =
    let here : (i : ℕ) → stands (set_value_at es n after) row i ≡ found after.links i = λ i. ap (λ (o : Option Chain). found (links_in o) i) (set_own es n row after sound.once at) in
    let before : (i : ℕ) → found chain.links i ≡ stands es row i = λ i. ap (λ (o : Option Chain). found (links_in o) i) (sym (chain_at es n row chain sound.once at is)) in
    subst (λ (w : Chains). IsChangedAt w (set_value_at es n after) row index entry) same (
      here index ∙ own,
      λ r i apart. elim (rows_cases r row) [
        | inl e ↦
            subst (λ (x : RowKey). stands (set_value_at es n after) x i ≡ stands es x i) (sym e)
            (here i ∙ others i (elim apart [ inl ne ↦ absurd (ne e) | inr ne ↦ ne ]) ∙ before i)
        | inr ne ↦ ap (λ (o : Option Chain). found (links_in o) i) (set_other es n row r after at ne)
      ],
    )

index_cases : (i index : ℕ) → (i ≡ index) ⊎ (i ≢ index)
index_cases i index = Rattle.std.proofs.lemmas.Bool.cases_eq i index

-- chains stay sound where an entry of the row's kind changes
pub changed-sound : (es new : Chains) (row : RowKey) (index : ℕ) (entry : Option Held) → AreSound es → IsChangedAt es new row index entry → rows_of new ≡ rows_of es → ((h : Held) → entry ≡ Some h → IfSome h.value (IsOfKind row)) → AreSound new
changed-sound es new row index entry sound is rows kind = record {
  once = subst (λ (rs : List RowKey). IsDistinct key_eq rs) (sym rows) sound.once;
  kind = λ r i h e. elim (rows_cases r row) [
    | inl same ↦ elim (index_cases i index) [
      | inl at ↦
          subst (λ (x : RowKey). IfSome h.value (IsOfKind x)) (sym same)
          (kind h (sym is.0 ∙ sym (ap (λ (x : RowKey). stands new x index) same) ∙ sym (ap (stands new r) at) ∙ e))
      | inr ne ↦ sound.kind r i h (sym (is.1 r i (inr ne)) ∙ e)
    ]
    | inr ne ↦ sound.kind r i h (sym (is.1 r i (inl ne)) ∙ e)
  ];
}

-- an ESTIMATE has no value
pub estimate_of_kind : (row : RowKey) (o : Option Held) (h : Held) → option_map Rattle.stm_memory.specs.Entries.estimate_of o ≡ Some h → IfSome h.value (IsOfKind row)
estimate_of_kind row None h e = absurd (none-some h e)
estimate_of_kind row (Some was) h e = subst (λ (x : Held). IfSome x.value (IsOfKind row)) (same_Some _ _ e) tt

-- the room of each row, where one chain is set
pub set_room : (es : Chains) (n : ℕ) (row : RowKey) (chain after : Chain) → AreSound es → row_at es n ≡ Some row → Some chain ≡ slice_get (map (λ e. e.1) es) n → chain.room ≤ after.room → (r : RowKey) → room_of es r ≤ room_of (set_value_at es n after) r
set_room es n row chain after sound at is more r =
    elim (rows_cases r row) [
      | inl e ↦
          subst (λ (x : RowKey). room_of es x ≤ room_of (set_value_at es n after) x) (sym e)
          (let before = ap room_in (chain_at es n row chain sound.once at is) in let now = ap room_in (set_own es n row after sound.once at) in omega arith)
      | inr ne ↦ let same = ap room_in (set_other es n row r after at ne) in omega arith
    ]

-- a chain with the same links: the same stands
pub relinked : (es was : Chains) (n : ℕ) (row : RowKey) (chain after : Chain) → AreSound es → row_at es n ≡ Some row → Some chain ≡ slice_get (map (λ e. e.1) es) n → after.links ≡ chain.links → es ≡ was → (r : RowKey) (i : ℕ) → stands (set_value_at es n after) r i ≡ stands was r i
relinked es was n row chain after sound at is links same r i =
    elim (rows_cases r row) [
      | inl e ↦
          subst (λ (x : RowKey). stands (set_value_at es n after) x i ≡ stands es x i) (sym e)
          (ap (λ (o : Option Chain). found (links_in o) i) (set_own es n row after sound.once at) ∙ ap (λ (ls : List Link). found ls i) links ∙ ap (λ (o : Option Chain). found (links_in o) i) (sym (chain_at es n row chain sound.once at is)))
      | inr ne ↦ ap (λ (o : Option Chain). found (links_in o) i) (set_other es n row r after at ne)
    ]
    ∙ ap (λ (xs : Chains). stands xs r i) same

-- chains stay sound where the same stands
pub same-sound : (es new : Chains) → AreSound es → rows_of new ≡ rows_of es → ((r : RowKey) (i : ℕ) → stands new r i ≡ stands es r i) → AreSound new
same-sound es new sound rows same = record {
  once = subst (λ (rs : List RowKey). IsDistinct key_eq rs) (sym rows) sound.once;
  kind = λ r i h e. sound.kind r i h (sym (same r i) ∙ e);
}

-- rows keep their numbers where one more is appended
pub row_at-append : (es more : Chains) (n : ℕ) (row : RowKey) → row_at es n ≡ Some row → row_at (es ++ more) n ≡ Some row
row_at-append [] more n row at = absurd (none-some row at)
row_at-append (e ∷ es) more zero row at = at
row_at-append (e ∷ es) more (suc n) row at = row_at-append es more n row at

-- what is seen of a row is of its kind
pub seen_of_kind : (chains : Chains) (row : RowKey) (index : ℕ) (seen : Seen) → AreSound chains → Resolves (stands chains) row index seen → IsSeenOfKind row seen
seen_of_kind chains row index Base sound is = tt
seen_of_kind chains row index (Value version value) sound is = sound.kind row version.index (value_at version.incarnation value) is.1
seen_of_kind chains row index (Estimate at) sound is = tt
