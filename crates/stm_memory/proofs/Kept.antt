-- The lists of messages and the chains of rows fit together after a change of one message's entries.
use Rattle.std.proofs.Common.{◌≡◌, ◌≢◌, ℕ, zero, suc, ◌<◌, ◌≤◌, List, [], ◌∷◌, if◌then◌else◌, true, false, length, get_or, set, map, slice_get, Option, Some, None, option_map, refl, sym, ap, ◌∙◌, subst, inl, inr, arith, get_or-set_other, get_or-set_same}
use Rattle.std.proofs.lemmas.Bool.{cases_eq}
use Rattle.std.proofs.lemmas.Option.{none-some, same_Some}
use Rattle.std.specs.List.{IsDistinct}
use Rattle.issuer_words.specs.Words.{RowKey, key_eq}
use Rattle.issuer_view.specs.Words.{IsOnceEach, value_in}
use Rattle.stm_memory.specs.Words.{Chain, Chains, Held, room_in, room_of, row_at, rows_of, stands}
use Rattle.stm_memory.proofs.Loops.{same_length, same_row}
use Rattle.stm_memory.specs.Memory.{WrittenRows, AreListed, AreKept, HasRoomOf, list_at}

-- of an index whose entries stay where they were, the list stays right
pub listed_still : (old new : Chains) (numbers : List ℕ) (index : ℕ) → AreListed old numbers index → rows_of new ≡ rows_of old → ((r : RowKey) (h : Held) → stands new r index ≡ Some h → (g : Held) × (stands old r index ≡ Some g)) → AreListed new numbers index
listed_still old new numbers index listed rows were = record {
  rows = λ k n at. let l = listed.rows k n at in let same = same_length old new rows in omega arith;
  entries = λ r h is. let was = were r h is in let there = listed.entries r was.0 was.1 in (there.0, there.1, there.2, same_row old new there.1 r rows there.3);
}

-- each row has one chain still
pub once_still : (old new : Chains) → rows_of new ≡ rows_of old → IsOnceEach old → IsOnceEach new
once_still old new rows once = subst (λ (rs : List RowKey). IsDistinct key_eq rs) (sym rows) once

-- the lists where one is set
pub set_list : (lists : List WrittenRows) (index : ℕ) (list : WrittenRows) → index < length lists → list_at (set lists index list) index ≡ list
set_list lists index list l = get_or-set_same lists index list _ l

pub set_lists : (lists : List WrittenRows) (index i : ℕ) (list : WrittenRows) → i ≢ index → list_at (set lists index list) i ≡ list_at lists i
set_lists lists index i list ne = get_or-set_other lists index i list _ ne

-- one message's entries and its list change
pub kept_changed : (old new : Chains) (lists : List WrittenRows) (index : ℕ) (list : WrittenRows) → AreKept old lists → index < length lists → AreListed new list.numbers index → ((r : RowKey) (i : ℕ) → i ≢ index → stands new r i ≡ stands old r i) → rows_of new ≡ rows_of old → AreKept new (set lists index list)
kept_changed old new lists index list kept there listed others rows = record {
  once = once_still old new rows kept.once;
  listed = λ i. elim (cases_eq i index) [
    | inl same ↦
        subst (λ (n : ℕ). AreListed new (list_at (set lists index list) n).numbers n) (sym same)
        (subst (λ (l : WrittenRows). AreListed new l.numbers index) (sym (set_list lists index list there)) listed)
    | inr ne ↦
        subst (λ (l : WrittenRows). AreListed new l.numbers i) (sym (set_lists lists index i list ne))
        (listed_still old new (list_at lists i).numbers i (kept.listed i) rows (λ r h is. (h, sym (others r i ne) ∙ is)))
  ];
}

-- one message's entries become ESTIMATEs, and the lists stay
pub kept_estimated : (old new : Chains) (lists : List WrittenRows) (index : ℕ) (f : Held → Held) → AreKept old lists → ((r : RowKey) → stands new r index ≡ option_map f (stands old r index)) → ((r : RowKey) (i : ℕ) → i ≢ index → stands new r i ≡ stands old r i) → rows_of new ≡ rows_of old → AreKept new lists
kept_estimated old new lists index f kept own others rows = record {
  once = once_still old new rows kept.once;
  listed = λ i. listed_still old new (list_at lists i).numbers i (kept.listed i) rows (λ r h is. elim (cases_eq i index) [
    | inl same ↦ subst (λ (n : ℕ). (g : Held) × (stands old r n ≡ Some g)) (sym same) (was_some (stands old r index) h f (sym (own r) ∙ ap (stands new r) (sym same) ∙ is))
    | inr ne ↦ (h, sym (others r i ne) ∙ is)
  ]);
}
  where
    was_some : (o : Option Held) (h : Held) (f : Held → Held) → option_map f o ≡ Some h → (g : Held) × (o ≡ Some g)
    was_some None h f e = absurd (none-some h e)
    was_some (Some g) h f e = (g, refl)

-- more rows get chains, in which nothing stands, and lists that are empty
pub kept_reserved : (old new : Chains) (lists more : List WrittenRows) → AreKept old lists → (IsOnceEach old → IsOnceEach new) → ((r : RowKey) (i : ℕ) → stands new r i ≡ stands old r i) → ((n : ℕ) (r : RowKey) → row_at old n ≡ Some r → row_at new n ≡ Some r) → ((i : ℕ) → (list_at more i).numbers ≡ (list_at lists i).numbers) → AreKept new more
kept_reserved old new lists more kept once same numbers lists_same = record {
  once = once kept.once;
  listed = λ i. subst (λ (ns : List ℕ). AreListed new ns i) (sym (lists_same i)) (record {
    rows = λ k n at.
        let row = Rattle.stm_memory.proofs.RowLaws.row_there old n ((kept.listed i).rows k n at) in
        let l = Rattle.std.proofs.lemmas.Option.slice_get_within (rows_of new) n row.0 (numbers n row.0 row.1) in
        let many = Rattle.std.proofs.lemmas.List.length-map new (λ c. c.0) in
        omega arith;
    entries = λ r h is. let there = (kept.listed i).entries r h (sym (same r i) ∙ is) in (there.0, there.1, there.2, numbers there.1 r there.3);
  });
}

-- an index past the lists has no entries
pub nothing_past : (chains : Chains) (lists : List WrittenRows) (index : ℕ) → AreKept chains lists → length lists ≤ index → (r : RowKey) → stands chains r index ≡ None
nothing_past chains lists index kept past r =
    elim (stands chains r index) as (λ o. stands chains r index ≡ o → stands chains r index ≡ None) [
      | None ↦ λ none. none
      | Some h ↦ λ some.
          let there = (kept.listed index).entries r h some in
          let empty : (list_at lists index).numbers ≡ [] = ap (λ (l : WrittenRows). l.numbers) (Rattle.std.proofs.lemmas.List.get_or_past lists index _ past) in
          absurd (none-some there.1 (sym (ap (λ (ns : List ℕ). slice_get ns there.0) empty) ∙ there.2))
    ] refl

-- ---- room, as the memory states it

pub list_room : (lists : List WrittenRows) (index free : ℕ) → slice_get (map (λ l. l.room) lists) index ≡ Some free → (index < length lists) × ((list_at lists index).room ≡ free)
list_room [] index free at = absurd (none-some free at)
list_room (l ∷ lists) zero free at = (omega arith, same_Some l.room free at)
list_room (l ∷ lists) (suc index) free at = let rest = list_room lists index free at in (let b = rest.0 in omega arith, rest.1)

pub told_list : (lists : List WrittenRows) (index : ℕ) → index < length lists → slice_get (map (λ l. l.room) lists) index ≡ Some (list_at lists index).room
told_list [] index l = absurd (omega arith)
told_list (x ∷ lists) zero l = refl
told_list (x ∷ lists) (suc index) l = told_list lists index (omega arith)

told_rows : (chains : Chains) (row : RowKey) → value_in (map (λ c. (c.0, c.1.room)) chains) row ≡ option_map (λ (c : Chain). c.room) (value_in chains row)
told_rows [] row = refl
told_rows (c ∷ chains) row =
    ap (λ (o : Option ℕ). if key_eq row c.0 then Some c.1.room else o) (told_rows chains row)
    ∙ elim (key_eq row c.0) as (λ b. (if b then Some c.1.room else option_map (λ (x : Chain). x.room) (value_in chains row)) ≡ option_map (λ (x : Chain). x.room) (if b then Some c.1 else value_in chains row)) [ true ↦ refl | false ↦ refl ]

room_some : (o : Option Chain) (room : ℕ) → option_map (λ (c : Chain). c.room) o ≡ Some room → room_in o ≡ room
room_some None room e = absurd (none-some room e)
room_some (Some c) room e = same_Some c.room room e

some_room : (o : Option Chain) → 0 < room_in o → option_map (λ (c : Chain). c.room) o ≡ Some (room_in o)
some_room None l = absurd (omega arith)
some_room (Some c) l = refl

pub row_room : (chains : Chains) (row : RowKey) → HasRoomOf (map (λ c. (c.0, c.1.room)) chains) row → 0 < room_of chains row
row_room chains row has = let same = room_some (value_in chains row) has.0 (sym (told_rows chains row) ∙ has.1) in let l = has.2 in omega arith

pub told_room : (chains : Chains) (row : RowKey) → 0 < room_of chains row → HasRoomOf (map (λ c. (c.0, c.1.room)) chains) row
told_room chains row l = (room_of chains row, told_rows chains row ∙ some_room (value_in chains row) l, l)

-- the list that is read at an index
pub list_read : (lists : List WrittenRows) (index : ℕ) (list : WrittenRows) → index < length lists → list ≡ get_or lists index list → list_at lists index ≡ list
list_read lists index list l read = Rattle.std.proofs.lemmas.List.get_or_default lists index _ list l ∙ sym read
