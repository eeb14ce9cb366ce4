-- What the loops over a message's rows have done so far.
use Rattle.std.proofs.Common.{◌≡◌, ◌≢◌, ℕ, ◌+◌, ◌<◌, ◌≤◌, Bool, List, [], ◌∷◌, ◌++◌, length, slice_get, Option, Some, None, IsSome, IsTrue, option_map, refl, sym, ap, ◌∙◌, subst, ◌⊎◌, inl, inr, arith}
use Rattle.std.proofs.lemmas.Bool.{cases_lt, false≢true}
use Rattle.std.proofs.lemmas.List.{length-map}
use Rattle.std.proofs.lemmas.Option.{none-some, same_Some, slice_get_within}
use Rattle.std.specs.List.{remove}
use Rattle.issuer_words.specs.Words.{RowKey, RowVal}
use Rattle.issuer_view.specs.Words.{IsOnceEach, value_in}
use Rattle.stm_memory.specs.Words.{AreListed, Chains, Held, IsChangedAt, estimate_of, room_of}
use Rattle.stm_memory.specs.Words.{row_at, rows_of, stands, value_at}
use Rattle.stm_memory.proofs.ListLaws.{apart, valued, before_removed, was_there, still_there, pushed_before, pushed_last, pushed_cases}
use Rattle.stm_memory.proofs.RowLaws.{rows_cases}

-- as many rows have chains as before
pub same_length : (old new : Chains) → rows_of new ≡ rows_of old → length new ≡ length old
same_length old new rows = sym (length-map new (λ c. c.0)) ∙ ap length rows ∙ length-map old (λ c. c.0)

-- and with the same numbers
pub same_row : (old new : Chains) (n : ℕ) (row : RowKey) → rows_of new ≡ rows_of old → row_at old n ≡ Some row → row_at new n ≡ Some row
same_row old new n row rows at = ap (λ (rs : List RowKey). slice_get rs n) rows ∙ at

option_cases : {X : Type 0} (o : Option X) → (o ≡ None) ⊎ ((x : X) × (o ≡ Some x))
option_cases None = inl refl
option_cases (Some x) = inr (x, refl)

pub some_of : {X : Type 0} (o : Option X) → IsSome o → (x : X) × (o ≡ Some x)
some_of None h = absurd (false≢true h)
some_of (Some x) h = (x, refl)

pub is_some_of : {X : Type 0} (o : Option X) (x : X) → o ≡ Some x → IsSome o
is_some_of o x e = subst IsSome (sym e) refl

-- ---- ESTIMATEs

-- an ESTIMATE stays one
twice : (o : Option Held) → option_map estimate_of (option_map estimate_of o) ≡ option_map estimate_of o
twice None = refl
twice (Some h) = refl

-- the entries of the first rows of a list are ESTIMATEs, and all others are as they were or ESTIMATEs too
pub record Estimating (old now : Chains) (numbers : List ℕ) (index place : ℕ) : Type 0 where
  pub rows : rows_of now ≡ rows_of old
  pub others : (r : RowKey) (i : ℕ) → i ≢ index → stands now r i ≡ stands old r i
  pub either : (r : RowKey) → (stands now r index ≡ stands old r index) ⊎ (stands now r index ≡ option_map estimate_of (stands old r index))
  pub done : (k n : ℕ) (r : RowKey) → k < place → slice_get numbers k ≡ Some n → row_at old n ≡ Some r → stands now r index ≡ option_map estimate_of (stands old r index)

pub estimating_more : (old now new : Chains) (numbers : List ℕ) (index place n : ℕ) (row : RowKey) → Estimating old now numbers index place → slice_get numbers place ≡ Some n → row_at old n ≡ Some row → IsChangedAt now new row index (option_map estimate_of (stands now row index)) → rows_of new ≡ rows_of now → Estimating old new numbers index (place + 1)
estimating_more old now new numbers index place n row so_far at is changed rows =
    let own : stands new row index ≡ option_map estimate_of (stands old row index) = changed.0 ∙ elim (so_far.either row) [
      | inl same ↦ ap (option_map estimate_of) same
      | inr estimate ↦ ap (option_map estimate_of) estimate ∙ twice (stands old row index)
    ] in
    let owns : (r : RowKey) → r ≡ row → stands new r index ≡ option_map estimate_of (stands old r index) = λ r same. subst (λ (x : RowKey). stands new x index ≡ option_map estimate_of (stands old x index)) (sym same) own in
    record {
      rows = rows ∙ so_far.rows;
      others = λ r i ne. changed.1 r i (inr ne) ∙ so_far.others r i ne;
      either = λ r. elim (rows_cases r row) [
        | inl same ↦ inr (owns r same)
        | inr ne ↦ elim (so_far.either r) [
          | inl kept ↦ inl (changed.1 r index (inl ne) ∙ kept)
          | inr estimate ↦ inr (changed.1 r index (inl ne) ∙ estimate)
        ]
      ];
      done = λ k m r l listed named. elim (rows_cases r row) [
        | inl same ↦ owns r same
        | inr ne ↦ elim (cases_lt k place) [
          | inl before ↦ changed.1 r index (inl ne) ∙ so_far.done k m r before listed named
          | inr now_at ↦
              let here : k ≡ place = omega arith in
              let number : m ≡ n = same_Some m n (sym listed ∙ ap (slice_get numbers) here ∙ at) in
              absurd (ne (same_Some r row (sym named ∙ ap (row_at old) number ∙ is)))
        ]
      ];
    }

-- at the end of the list all are
pub estimating_all : (old now : Chains) (numbers : List ℕ) (index place : ℕ) → Estimating old now numbers index place → length numbers ≤ place → AreListed old numbers index → (r : RowKey) → stands now r index ≡ option_map estimate_of (stands old r index)
estimating_all old now numbers index place so_far all listed r =
    elim (so_far.either r) [
      | inr estimate ↦ estimate
      | inl kept ↦ elim (option_cases (stands old r index)) [
        | inl none ↦ kept ∙ none ∙ sym (ap (option_map estimate_of) none)
        | inr some ↦
            let there = listed.entries r some.0 some.1 in
            so_far.done there.0 there.1 r (let l = slice_get_within numbers there.0 there.1 there.2 in omega arith) there.2 there.3
      ]
    ]

-- ---- rows that aren't written any more

-- of the listed rows the first ones are written; each entry that was taken out is of a row that isn't
pub record TakingOut (old now : Chains) (was list : List ℕ) (index place : ℕ) (written : RowKey → Option RowVal) : Type 0 where
  pub listed : AreListed now list index
  pub within : place ≤ length list
  pub rows : rows_of now ≡ rows_of old
  pub room : (r : RowKey) → room_of old r ≤ room_of now r
  pub others : (r : RowKey) (i : ℕ) → i ≢ index → stands now r i ≡ stands old r i
  pub kept : (r : RowKey) → IsSome (written r) → stands now r index ≡ stands old r index
  pub done : (k n : ℕ) (r : RowKey) → k < place → slice_get list k ≡ Some n → row_at now n ≡ Some r → IsSome (written r)

pub passed_over : (old now : Chains) (was list : List ℕ) (index place n : ℕ) (written : RowKey → Option RowVal) (row : RowKey) → TakingOut old now was list index place written → slice_get list place ≡ Some n → row_at now n ≡ Some row → IsSome (written row) → TakingOut old now was list index (place + 1) written
passed_over old now was list index place n written row so_far at is some = record {
  listed = so_far.listed;
  within = let l = slice_get_within list place n at in omega arith;
  rows = so_far.rows;
  room = so_far.room;
  others = so_far.others;
  kept = so_far.kept;
  done = λ k m r l there named. elim (cases_lt k place) [
    | inl before ↦ so_far.done k m r before there named
    | inr now_at ↦
        let here : k ≡ place = omega arith in
        let number : m ≡ n = same_Some m n (sym there ∙ ap (slice_get list) here ∙ at) in
        subst (λ (x : RowKey). IsSome (written x)) (same_Some row r (sym is ∙ ap (row_at now) (sym number) ∙ named)) some
  ];
}

pub taken_out : (old now new : Chains) (was list : List ℕ) (index place n : ℕ) (written : RowKey → Option RowVal) (row : RowKey) → TakingOut old now was list index place written → slice_get list place ≡ Some n → row_at now n ≡ Some row → (IsSome (written row) → ⊥) → IsChangedAt now new row index None → rows_of new ≡ rows_of now → ((r : RowKey) → room_of now r ≤ room_of new r) → place ≤ length (remove list place) → TakingOut old new was (remove list place) index place written
taken_out old now new was list index place n written row so_far at is unwritten changed rows room within = record {
  listed = record {
    rows = λ k m there. let before = was_there list place k m there in let l = so_far.listed.rows before.0 m before.1 in let same = same_length now new rows in omega arith;
    entries = λ r h stands_now. elim (rows_cases r row) [
      | inl same ↦ absurd (none-some h (sym changed.0 ∙ sym (ap (λ (x : RowKey). stands new x index) same) ∙ stands_now))
      | inr ne ↦
          let before = so_far.listed.entries r h (sym (changed.1 r index (inl ne)) ∙ stands_now) in
          let other : before.0 ≢ place = λ e. ne (same_Some r row (sym before.3 ∙ ap (row_at now) (same_Some before.1 n (sym before.2 ∙ ap (slice_get list) e ∙ at)) ∙ is)) in
          let still = still_there list place before.0 before.1 other before.2 in
          (still.0, before.1, still.1, same_row now new before.1 r rows before.3)
    ];
  };
  within = within;
  rows = rows ∙ so_far.rows;
  room = λ r. let a = so_far.room r in let b = room r in omega arith;
  others = λ r i ne. changed.1 r i (inr ne) ∙ so_far.others r i ne;
  kept = λ r some. changed.1 r index (inl (λ e. unwritten (subst (λ (x : RowKey). IsSome (written x)) e some))) ∙ so_far.kept r some;
  done = λ k m r l there named. so_far.done k m r l (sym (before_removed list place k l) ∙ there) (sym (ap (λ (rs : List RowKey). slice_get rs m) rows) ∙ named);
}

-- ---- rows that are written

-- the first writes stand, and nothing else changed; a row that had no entry was among them, or none was
pub record Putting (old now : Chains) (list : List ℕ) (free : ℕ) (writes : List (RowKey × RowVal)) (index incarnation place : ℕ) (is_new : Bool) : Type 0 where
  pub listed : AreListed now list index
  pub rows : rows_of now ≡ rows_of old
  pub others : (r : RowKey) (i : ℕ) → (i ≢ index) ⊎ ((k : ℕ) (w : RowKey × RowVal) → k < place → slice_get writes k ≡ Some w → w.0 ≢ r) → stands now r i ≡ stands old r i
  pub done : (k : ℕ) (w : RowKey × RowVal) → k < place → slice_get writes k ≡ Some w → stands now w.0 index ≡ Some (value_at incarnation w.1)
  pub new_one : IsTrue is_new → (r : RowKey) × IsSome (value_in writes r) × (stands old r index ≡ None)
  pub no_new : (k : ℕ) (w : RowKey × RowVal) → k < place → slice_get writes k ≡ Some w → stands old w.0 index ≡ None → IsTrue is_new
  pub room : (k : ℕ) (w : RowKey × RowVal) → place ≤ k → slice_get writes k ≡ Some w → 0 < room_of now w.0
  pub list_room : length writes ≤ free + place

-- one more write: `had_none` says whether the row had no entry, and then it is listed
pub putting_more : (old now new : Chains) (list listed : List ℕ) (free left : ℕ) (writes : List (RowKey × RowVal)) (index incarnation place n : ℕ) (is_new had_none : Bool) (w : RowKey × RowVal) → IsOnceEach writes → Putting old now list free writes index incarnation place is_new → slice_get writes place ≡ Some w → IsChangedAt now new w.0 index (Some (value_at incarnation w.1)) → row_at new n ≡ Some w.0 → (IsTrue had_none → stands now w.0 index ≡ None) → (stands now w.0 index ≡ None → IsTrue had_none) → rows_of new ≡ rows_of now → ((r : RowKey) → r ≢ w.0 → room_of new r ≡ room_of now r) → ((IsTrue had_none × (listed ≡ list ++ n ∷ []) × (free ≤ left + 1)) ⊎ ((IsTrue had_none → ⊥) × (listed ≡ list) × (left ≡ free))) → (after : Bool) → ((IsTrue had_none × IsTrue after) ⊎ ((IsTrue had_none → ⊥) × (after ≡ is_new))) → Putting old new listed left writes index incarnation (place + 1) after
putting_more old now new list listed free left writes index incarnation place n is_new had_none w once so_far at changed numbered none_before none_after rows room lists after answers =
    let l : place < length writes = slice_get_within writes place w at in
    let untouched : stands now w.0 index ≡ stands old w.0 index = so_far.others w.0 index (inr (λ k v before there. apart writes k place v w once before there at)) in
    let later : (k : ℕ) (v : RowKey × RowVal) → place + 1 ≤ k → slice_get writes k ≡ Some v → v.0 ≢ w.0 = λ k v m there e. apart writes place k w v once (omega arith) at there (sym e) in
    record {
      listed = elim lists [
        | inl more ↦ subst (λ (xs : List ℕ). AreListed new xs index) (sym more.1) (record {
          rows = λ k m there. elim (pushed_cases list n k m there) [
            | inl old_one ↦ let b = so_far.listed.rows k m old_one in let same = same_length now new rows in omega arith
            | inr e ↦ let b = slice_get_within (rows_of new) n w.0 numbered in let many = length-map new (λ c. c.0) in omega arith
          ];
          entries = λ r h is. elim (rows_cases r w.0) [
            | inl same ↦ (length list, n, pushed_last list n, numbered ∙ ap Some (sym same))
            | inr ne ↦
                let before = so_far.listed.entries r h (sym (changed.1 r index (inl ne)) ∙ is) in
                (before.0, before.1, pushed_before list n before.0 before.1 before.2, same_row now new before.1 r rows before.3)
          ];
        })
        | inr same_list ↦ subst (λ (xs : List ℕ). AreListed new xs index) (sym same_list.1) (record {
          rows = λ k m there. let b = so_far.listed.rows k m there in let same = same_length now new rows in omega arith;
          entries = λ r h is. elim (rows_cases r w.0) [
            | inl same ↦ elim (option_cases (stands now w.0 index)) [
              | inl none ↦ absurd (same_list.0 (none_after none))
              | inr some ↦
                  let before = so_far.listed.entries w.0 some.0 some.1 in
                  (before.0, before.1, before.2, same_row now new before.1 w.0 rows before.3 ∙ ap Some (sym same))
            ]
            | inr ne ↦
                let before = so_far.listed.entries r h (sym (changed.1 r index (inl ne)) ∙ is) in
                (before.0, before.1, before.2, same_row now new before.1 r rows before.3)
          ];
        })
      ];
      rows = rows ∙ so_far.rows;
      others = λ r i condition. elim condition [
        | inl ne ↦ changed.1 r i (inr ne) ∙ so_far.others r i (inl ne)
        | inr unput ↦ changed.1 r i (inl (λ e. unput place w (omega arith) at (sym e))) ∙ so_far.others r i (inr (λ k v before there. unput k v (omega arith) there))
      ];
      done = λ k v m there. elim (cases_lt k place) [
        | inl before ↦ changed.1 v.0 index (inl (apart writes k place v w once before there at)) ∙ so_far.done k v before there
        | inr now_at ↦
            let here : k ≡ place = omega arith in
            subst (λ (x : RowKey × RowVal). stands new x.0 index ≡ Some (value_at incarnation x.1)) (same_Some w v (sym at ∙ ap (slice_get writes) (sym here) ∙ there)) changed.0
      ];
      new_one = λ t. elim answers [
        | inl fresh ↦ (w.0, is_some_of (value_in writes w.0) w.1 (valued writes place w once at), sym untouched ∙ none_before fresh.0)
        | inr old_answer ↦ so_far.new_one (subst IsTrue old_answer.1 t)
      ];
      no_new = λ k v m there none. elim answers [
        | inl fresh ↦ fresh.1
        | inr old_answer ↦ elim (cases_lt k place) [
          | inl before ↦ subst IsTrue (sym old_answer.1) (so_far.no_new k v before there none)
          | inr now_at ↦
              let here : k ≡ place = omega arith in
              let same : v ≡ w = same_Some v w (sym there ∙ ap (slice_get writes) here ∙ at) in
              absurd (old_answer.0 (none_after (untouched ∙ ap (λ (x : RowKey × RowVal). stands old x.0 index) (sym same) ∙ none)))
        ]
      ];
      room = λ k v m there. let before = so_far.room k v (omega arith) there in let same = room v.0 (later k v m there) in omega arith;
      list_room = let before = so_far.list_room in elim lists [ inl more ↦ let used = more.2 in omega arith | inr same_list ↦ let used = same_list.2 in omega arith ];
    }
