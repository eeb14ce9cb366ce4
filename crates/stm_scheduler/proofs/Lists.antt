-- The lists of messages that wait, and waking them.
use Rattle.std.proofs.Common.{◌≡◌, ◌≢◌, ℕ, ◌+◌, ◌<◌, ◌≤◌, min, nat_eq, Bool, true, false, cond, if◌then◌else◌, List, [], ◌∷◌, length, get_or, set, map, Option, Some, None, refl, sym, ap, ◌∙◌, subst, ◌⊎◌, inl, inr, arith, rules, length-set, get_or-set_other, get_or-set_same}
use Rattle.std.proofs.lemmas.Bool.{cases_lt, cases_eq, false≢true}
use Rattle.std.proofs.lemmas.List.{length-map, get_or-map, get_or_past, same_lists}
use Rattle.std.proofs.lemmas.List.Sums.{sum_by-set}
use Rattle.std.proofs.lemmas.Option.{none-some, same_Some}
use Rattle.std.specs.Bool.{Decides}
use Rattle.std.specs.List.{count_by}
use Rattle.stm_scheduler.specs.Board.{fresh_mark, woken, woken_status}
use Rattle.stm_scheduler.specs.declared.message_progress.MessageProgress.{MessageProgress}
use Rattle.stm_scheduler.specs.declared.status.Status.{Status}
use Rattle.stm_scheduler.specs.Cursors.{IsWaitingFor, IsLoweredToWaiting}
use Rattle.stm_scheduler.specs.Sound.{IsIn, AreApart, IsListFrom, WaitList, AreWaitLists}
use Rattle.stm_scheduler.specs.declared.status.Status.TheVariants as status

abbrev pub at : List MessageProgress → ℕ → MessageProgress
at marks w = get_or marks w fresh_mark

same_decides : (a b : ℕ) → Decides (nat_eq a b) (a ≡ b)
same_decides a b = search rules

test_other : (a b : ℕ) → a ≢ b → nat_eq a b ≡ false
test_other a b ne = elim (nat_eq a b) as (λ t. nat_eq a b ≡ t → nat_eq a b ≡ false) [ true ↦ λ e. absurd (ne ((same_decides a b).0 e)) | false ↦ λ e. e ] refl

-- a status that waits for this message
pub waits_for : ℕ → Status → Bool
waits_for i status.Ready = false
waits_for i status.Running = false
waits_for i status.Executed = false
waits_for i (status.Waiting on) = nat_eq on i

pub same_message : (a b : ℕ) → status.Waiting a ≡ status.Waiting b → a ≡ b
same_message a b e = cc

ready_waits : (on : ℕ) → status.Ready ≡ status.Waiting on → ⊥
ready_waits on e = cc

-- waking leaves what does not wait for it
woken_other : (i : ℕ) (s : Status) → (s ≡ status.Waiting i → ⊥) → woken_status i s ≡ s
woken_other i status.Ready ne = refl
woken_other i status.Running ne = refl
woken_other i status.Executed ne = refl
woken_other i (status.Waiting on) ne = ap (λ (b : Bool). if b then status.Ready else status.Waiting on) (test_other on i (λ e. ne (ap status.Waiting e)))

-- and makes ready what does
woken_own : (i : ℕ) (s : Status) → s ≡ status.Waiting i → woken_status i s ≡ status.Ready
woken_own i s e = ap (woken_status i) e ∙ ap (λ (b : Bool). if b then status.Ready else status.Waiting i) ((same_decides i i).1 refl)

-- nothing waits for it then
none_waits : (i : ℕ) (s : Status) → woken_status i s ≡ status.Waiting i → ⊥
none_waits i status.Ready e = ready_waits i e
none_waits i status.Running e = cc
none_waits i status.Executed e = cc
none_waits i (status.Waiting on) e =
    elim (cases_eq on i) [
      | inl same ↦ ready_waits i (sym (woken_own i (status.Waiting on) (ap status.Waiting same)) ∙ e)
      | inr ne ↦ ne (same_message on i (sym (woken_other i (status.Waiting on) (λ w. ne (same_message on i w))) ∙ e))
    ]

-- what waits for another one does so still, and did so before
still_waits : (i on : ℕ) (s : Status) → on ≢ i → s ≡ status.Waiting on → woken_status i s ≡ status.Waiting on
still_waits i on s ne e = woken_other i s (λ w. ne (same_message on i (sym e ∙ w))) ∙ e

waited : (i on : ℕ) (s : Status) → on ≢ i → woken_status i s ≡ status.Waiting on → s ≡ status.Waiting on
waited i on status.Ready ne e = absurd (ready_waits on e)
waited i on status.Running ne e = absurd (cc)
waited i on status.Executed ne e = absurd (cc)
waited i on (status.Waiting other) ne e =
    elim (cases_eq other i) [
      | inl same ↦ absurd (ready_waits on (sym (woken_own i (status.Waiting other) (ap status.Waiting same)) ∙ e))
      | inr apart ↦ sym (woken_other i (status.Waiting other) (λ w. apart (same_message other i w))) ∙ e
    ]

-- only a message that is there waits
pub waits_within : (marks : List MessageProgress) (on w : ℕ) → IsWaitingFor marks on w → w < length marks
waits_within marks on w is =
    elim (cases_lt w (length marks)) [
      | inl l ↦ l
      | inr past ↦ absurd (ready_waits on (sym (ap (λ (m : MessageProgress). m.status) (get_or_past marks w fresh_mark past)) ∙ is))
    ]

-- the mark of a woken message
pub at-woken : (marks : List MessageProgress) (i w : ℕ) → at (map (woken i) marks) w ≡ woken i (at marks w)
at-woken marks i w =
    elim (cases_lt w (length marks)) [
      | inl l ↦ get_or-map (woken i) marks w fresh_mark fresh_mark l
      | inr past ↦ get_or_past (map (woken i) marks) w fresh_mark (let many = length-map marks (woken i) in omega arith) ∙ sym (ap (woken i) (get_or_past marks w fresh_mark past))
    ]

in_cases : (w : ℕ) (xs : List ℕ) → IsIn w xs ⊎ (IsIn w xs → ⊥)
in_cases w [] = inr (λ h. h)
in_cases w (x ∷ xs) =
    elim (cases_eq w x) [
      | inl same ↦ inl (inl same)
      | inr ne ↦ elim (in_cases w xs) [
        | inl there ↦ inl (inr there)
        | inr out ↦ inr (λ h. elim h [ inl same ↦ ne same | inr there ↦ out there ])
      ]
    ]

-- ---- the lists stay right

-- where the same messages wait
pub lists_alike : (old new : List MessageProgress) (firsts nexts : List (Option ℕ)) → AreWaitLists old firsts nexts → ((on w : ℕ) → IsWaitingFor old on w → IsWaitingFor new on w) → ((on w : ℕ) → IsWaitingFor new on w → IsWaitingFor old on w) → AreWaitLists new firsts nexts
lists_alike old new firsts nexts lists there back on =
    let l = lists on in
    record { list = l.list; from = l.from; apart = l.apart; waiting = λ w h. there on w (l.waiting w h); listed = λ w h. l.listed w (back on w h) }

-- where a message that doesn't wait changes and doesn't wait then
pub lists_changed : (marks : List MessageProgress) (firsts nexts : List (Option ℕ)) (i : ℕ) (m : MessageProgress) → AreWaitLists marks firsts nexts → i < length marks → ((on : ℕ) → (at marks i).status ≢ status.Waiting on) → ((on : ℕ) → m.status ≢ status.Waiting on) → AreWaitLists (set marks i m) firsts nexts
lists_changed marks firsts nexts i m lists l before after =
    lists_alike marks (set marks i m) firsts nexts lists
    (λ on w h. elim (cases_eq w i) [
      | inl same ↦ absurd (before on (ap (λ (n : ℕ). (at marks n).status) (sym same) ∙ h))
      | inr ne ↦ ap (λ (x : MessageProgress). x.status) (get_or-set_other marks i w m fresh_mark ne) ∙ h
    ])
    (λ on w h. elim (cases_eq w i) [
      | inl same ↦ absurd (after on (sym (ap (λ (x : MessageProgress). x.status) (get_or-set_same marks i m fresh_mark l)) ∙ ap (λ (n : ℕ). (at (set marks i m) n).status) (sym same) ∙ h))
      | inr ne ↦ sym (ap (λ (x : MessageProgress). x.status) (get_or-set_other marks i w m fresh_mark ne)) ∙ h
    ])

elsewhere : (nexts : List (Option ℕ)) (first next : Option ℕ) (i : ℕ) (ws : List ℕ) → (IsIn i ws → ⊥) → IsListFrom nexts first ws → IsListFrom (set nexts i next) first ws
elsewhere nexts first next i [] out from = from
elsewhere nexts first next i (w ∷ ws) out from = (
  from.0,
  subst (λ (n : Option ℕ). IsListFrom (set nexts i next) n ws) (sym (get_or-set_other nexts i w next None (λ e. out (inl (sym e)))))
      (elsewhere nexts (get_or nexts w None) next i ws (λ h. out (inr h)) from.1),
)

-- a message that didn't wait waits now, in front of the others
pub lists_blocked : (marks : List MessageProgress) (firsts nexts : List (Option ℕ)) (i on : ℕ) (m : MessageProgress) → AreWaitLists marks firsts nexts → i < length marks → i < length nexts → on < length firsts → ((other : ℕ) → (at marks i).status ≢ status.Waiting other) → m.status ≡ status.Waiting on → AreWaitLists (set marks i m) (set firsts on (Some i)) (set nexts i (get_or firsts on None))
lists_blocked marks firsts nexts i on m lists l linked headed before waits other =
    let old = lists other in
    let out : IsIn i old.list → ⊥ = λ h. before other (old.waiting i h) in
    let others : (w : ℕ) → w ≢ i → at (set marks i m) w ≡ at marks w = λ w ne. get_or-set_other marks i w m fresh_mark ne in
    let own : at (set marks i m) i ≡ m = get_or-set_same marks i m fresh_mark l in
    let rest = elsewhere nexts (get_or firsts other None) (get_or firsts on None) i old.list out old.from in
    elim (cases_eq other on) [
      | inl same ↦ record {
        list = i ∷ old.list;
        from = (
          ap (λ (n : ℕ). get_or (set firsts on (Some i)) n None) same ∙ get_or-set_same firsts on (Some i) None headed,
          subst (λ (n : Option ℕ). IsListFrom (set nexts i (get_or firsts on None)) n old.list) (ap (λ (n : ℕ). get_or firsts n None) same ∙ sym (get_or-set_same nexts i (get_or firsts on None) None linked)) rest,
        );
        apart = (out, old.apart);
        waiting = λ w h. elim h [
          | inl is ↦ ap (λ (n : ℕ). (at (set marks i m) n).status) is ∙ ap (λ (x : MessageProgress). x.status) own ∙ waits ∙ ap status.Waiting (sym same)
          | inr there ↦ ap (λ (x : MessageProgress). x.status) (others w (λ e. out (subst (λ (n : ℕ). IsIn n old.list) e there))) ∙ old.waiting w there
        ];
        listed = λ w h. elim (cases_eq w i) [
          | inl is ↦ inl is
          | inr ne ↦ inr (old.listed w (sym (ap (λ (x : MessageProgress). x.status) (others w ne)) ∙ h))
        ];
      }
      | inr apart ↦ record {
        list = old.list;
        from = subst (λ (n : Option ℕ). IsListFrom (set nexts i (get_or firsts on None)) n old.list) (sym (get_or-set_other firsts on other (Some i) None apart)) rest;
        apart = old.apart;
        waiting = λ w there. ap (λ (x : MessageProgress). x.status) (others w (λ e. out (subst (λ (n : ℕ). IsIn n old.list) e there))) ∙ old.waiting w there;
        listed = λ w h. elim (cases_eq w i) [
          | inl is ↦ absurd (apart (same_message other on (sym h ∙ ap (λ (n : ℕ). (at (set marks i m) n).status) is ∙ ap (λ (x : MessageProgress). x.status) own ∙ waits)))
          | inr ne ↦ old.listed w (sym (ap (λ (x : MessageProgress). x.status) (others w ne)) ∙ h)
        ];
      }
    ]

-- those that wait for a message are woken, and its list is empty
pub lists_woken : (marks new : List MessageProgress) (firsts nexts : List (Option ℕ)) (i : ℕ) → AreWaitLists marks firsts nexts → i < length firsts → new ≡ map (woken i) marks → AreWaitLists new (set firsts i None) nexts
lists_woken marks new firsts nexts i lists l is on =
    let now : (w : ℕ) → (at new w).status ≡ woken_status i (at marks w).status = λ w. ap (λ (ms : List MessageProgress). (at ms w).status) is ∙ ap (λ (x : MessageProgress). x.status) (at-woken marks i w) in
    elim (cases_eq on i) [
      | inl same ↦ record {
        list = [];
        from = ap (λ (n : ℕ). get_or (set firsts i None) n None) same ∙ get_or-set_same firsts i None None l;
        apart = tt;
        waiting = λ w h. absurd h;
        listed = λ w h. absurd (none_waits i (at marks w).status (sym (now w) ∙ h ∙ ap status.Waiting same));
      }
      | inr ne ↦
          let old = lists on in
          record {
            list = old.list;
            from = subst (λ (n : Option ℕ). IsListFrom nexts n old.list) (sym (get_or-set_other firsts i on None None ne)) old.from;
            apart = old.apart;
            waiting = λ w h. now w ∙ still_waits i on (at marks w).status ne (old.waiting w h);
            listed = λ w h. old.listed w (waited i on (at marks w).status ne (sym (now w) ∙ h));
          }
    ]

-- ---- waking, one after another

-- how many wait for the message
pub waiting_count : ℕ → List MessageProgress → ℕ
waiting_count i marks = count_by (λ m. waits_for i m.status) marks

-- those in `rest` are still to be woken; all others are as they are to be; the least of those that were woken is known
pub record Waking (old now : List MessageProgress) (nexts : List (Option ℕ)) (next : Option ℕ) (i cursor least : ℕ) (rest : List ℕ) : Type 0 where
  pub from : IsListFrom nexts next rest
  pub apart : AreApart rest
  pub many : length now ≡ length old
  pub kept : (w : ℕ) → IsIn w rest → at now w ≡ at old w
  pub waiting : (w : ℕ) → IsIn w rest → IsWaitingFor old i w
  pub done : (w : ℕ) → (IsIn w rest → ⊥) → at now w ≡ woken i (at old w)
  pub below : least ≤ cursor
  pub each : (w : ℕ) → IsWaitingFor old i w → IsIn w rest ⊎ (least ≤ w)
  pub one : (least ≡ cursor) ⊎ IsWaitingFor old i least

same_mark : (i : ℕ) (m : MessageProgress) → woken_status i m.status ≡ m.status → woken i m ≡ m
same_mark i m e = ap (λ (s : Status). record { status = s; incarnation = m.incarnation; stamp = m.stamp }) e

pub waking_starts : (old : List MessageProgress) (nexts : List (Option ℕ)) (first : Option ℕ) (i cursor : ℕ) (l : WaitList old nexts first i) → Waking old old nexts first i cursor cursor l.list
waking_starts old nexts first i cursor l = record {
  from = l.from;
  apart = l.apart;
  many = refl;
  kept = λ w h. refl;
  waiting = l.waiting;
  done = λ w out. sym (same_mark i (at old w) (woken_other i (at old w).status (λ h. out (l.listed w h))));
  below = omega arith;
  each = λ w h. inl (l.listed w h);
  one = inl refl;
}

-- the next one, and those after it
pub next_one : (old now : List MessageProgress) (nexts : List (Option ℕ)) (i cursor least w : ℕ) (rest : List ℕ) → Waking old now nexts (Some w) i cursor least rest → (ws : List ℕ) × (rest ≡ w ∷ ws)
next_one old now nexts i cursor least w [] waking = absurd (none-some w (sym waking.from))
next_one old now nexts i cursor least w (x ∷ ws) waking = (ws, ap (λ (n : ℕ). n ∷ ws) (sym (same_Some w x waking.from.0)))

pub waking_more : (old now : List MessageProgress) (nexts : List (Option ℕ)) (i cursor least w : ℕ) (ws : List ℕ) → Waking old now nexts (Some w) i cursor least (w ∷ ws) → Waking old (set now w (record (at now w) { status = status.Ready })) nexts (get_or nexts w None) i cursor (min least w) ws
waking_more old now nexts i cursor least w ws waking =
    let new = set now w (record (at now w) { status = status.Ready }) in
    let there = waits_within old i w (waking.waiting w (inl refl)) in
    let many = waking.many in
    let own : at new w ≡ woken i (at old w) =
    get_or-set_same now w (record (at now w) { status = status.Ready }) fresh_mark (omega arith)
    ∙ ap (λ (m : MessageProgress). record m { status = status.Ready }) (waking.kept w (inl refl))
    ∙ ap (λ (s : Status). record (at old w) { status = s }) (sym (woken_own i (at old w).status (waking.waiting w (inl refl)))) in
    let others : (v : ℕ) → v ≢ w → at new v ≡ at now v = λ v ne. get_or-set_other now w v (record (at now w) { status = status.Ready }) fresh_mark ne in
    record {
      from = waking.from.1;
      apart = waking.apart.1;
      many = length-set now w (record (at now w) { status = status.Ready }) ∙ waking.many;
      kept = λ v h. others v (λ e. waking.apart.0 (subst (λ (n : ℕ). IsIn n ws) e h)) ∙ waking.kept v (inr h);
      waiting = λ v h. waking.waiting v (inr h);
      done = λ v out. elim (cases_eq v w) [
        | inl same ↦ subst (λ (n : ℕ). at new n ≡ woken i (at old n)) (sym same) own
        | inr ne ↦ others v ne ∙ waking.done v (λ h. elim h [ inl same ↦ ne same | inr more ↦ out more ])
      ];
      below = let b = waking.below in omega arith;
      each = λ v h. elim (waking.each v h) [
        | inl in_rest ↦ elim in_rest [ inl same ↦ inr (omega arith) | inr more ↦ inl more ]
        | inr le ↦ inr (omega arith)
      ];
      one = elim (cases_lt least w) [
        | inl l ↦ let same : min least w ≡ least = omega arith in elim waking.one [ inl e ↦ inl (same ∙ e) | inr h ↦ inr (subst (IsWaitingFor old i) (sym same) h) ]
        | inr ge ↦ let same : min least w ≡ w = omega arith in inr (subst (IsWaitingFor old i) (sym same) (waking.waiting w (inl refl)))
      ];
    }

fewer : (a b : Bool) (n k : ℕ) → a ≡ true → b ≡ false → n + cond a 1 0 ≡ k + cond b 1 0 → n < k
fewer true false n k e f s = omega arith
fewer true true n k e f s = absurd (false≢true (sym f))
fewer false b n k e f s = absurd (false≢true e)

one_less : (i : ℕ) (marks : List MessageProgress) (w : ℕ) (m : MessageProgress) → w < length marks → waits_for i (at marks w).status ≡ true → waits_for i m.status ≡ false → waiting_count i (set marks w m) < waiting_count i marks
unfolding waiting_count
one_less i marks w m l before after =
    fewer (waits_for i (at marks w).status) (waits_for i m.status) _ _ before after (sum_by-set (λ (x : MessageProgress). cond (waits_for i x.status) 1 0) marks w m fresh_mark l)

-- each that is woken leaves fewer that wait
pub waking_fewer : (old now : List MessageProgress) (nexts : List (Option ℕ)) (i cursor least w : ℕ) (ws : List ℕ) → Waking old now nexts (Some w) i cursor least (w ∷ ws) → waiting_count i (set now w (record (at now w) { status = status.Ready })) < waiting_count i now
unfolding waits_for
waking_fewer old now nexts i cursor least w ws waking =
    let waits = ap (λ (m : MessageProgress). m.status) (waking.kept w (inl refl)) ∙ waking.waiting w (inl refl) in
    one_less i now w (record (at now w) { status = status.Ready }) (let l = waits_within old i w (waking.waiting w (inl refl)) in let many = waking.many in omega arith)
    (ap (waits_for i) waits ∙ (same_decides i i).1 refl) refl

-- at the end of the list all are woken
none_left : (old now : List MessageProgress) (nexts : List (Option ℕ)) (i cursor least : ℕ) (rest : List ℕ) → Waking old now nexts None i cursor least rest → (w : ℕ) → IsIn w rest → ⊥
none_left old now nexts i cursor least [] waking w h = h
none_left old now nexts i cursor least (x ∷ xs) waking w h = none-some x waking.from.0

pub all_woken : (old now : List MessageProgress) (nexts : List (Option ℕ)) (i cursor least : ℕ) (rest : List ℕ) → Waking old now nexts None i cursor least rest → now ≡ map (woken i) old
all_woken old now nexts i cursor least rest waking =
    let many = length-map old (woken i) in
    same_lists now (map (woken i) old) (waking.many ∙ sym many) (λ k d l.
    Rattle.std.proofs.lemmas.List.get_or_default now k d fresh_mark l
    ∙ waking.done k (none_left old now nexts i cursor least rest waking k)
    ∙ sym (at-woken old i k)
    ∙ Rattle.std.proofs.lemmas.List.get_or_default (map (woken i) old) k fresh_mark d (let same = waking.many in omega arith))

pub least_woken : (old now : List MessageProgress) (nexts : List (Option ℕ)) (i cursor least : ℕ) (rest : List ℕ) → Waking old now nexts None i cursor least rest → IsLoweredToWaiting old i cursor least
least_woken old now nexts i cursor least rest waking =
    (waking.below, λ w h. elim (waking.each w h) [ inl there ↦ absurd (none_left old now nexts i cursor least rest waking w there) | inr le ↦ le ], waking.one)

-- ---- the same, as the code reads and writes it

waking_next : (old now : List MessageProgress) (nexts : List (Option ℕ)) (next : Option ℕ) (i cursor least w : ℕ) (rest : List ℕ) → next ≡ Some w → Waking old now nexts next i cursor least rest → (ws : List ℕ) × Waking old now nexts (Some w) i cursor least (w ∷ ws)
waking_next old now nexts next i cursor least w rest is waking =
    let some = subst (λ (n : Option ℕ). Waking old now nexts n i cursor least rest) is waking in
    let ws = next_one old now nexts i cursor least w rest some in
    (ws.0, subst (Waking old now nexts (Some w) i cursor least) ws.1 some)

pub next_there : (old now : List MessageProgress) (nexts : List (Option ℕ)) (next : Option ℕ) (i cursor least w : ℕ) (rest : List ℕ) → next ≡ Some w → Waking old now nexts next i cursor least rest → w < length now
next_there old now nexts next i cursor least w rest is waking =
    let ws = waking_next old now nexts next i cursor least w rest is waking in
    let l = waits_within old i w (ws.1.waiting w (inl refl)) in
    let many = waking.many in
    omega arith

read_mark : (now : List MessageProgress) (w : ℕ) (m : MessageProgress) → w < length now → m ≡ get_or now w m → m ≡ at now w
read_mark now w m l read = read ∙ sym (Rattle.std.proofs.lemmas.List.get_or_default now w fresh_mark m l)

pub waking_step : (old now : List MessageProgress) (nexts : List (Option ℕ)) (next : Option ℕ) (i cursor least lower w : ℕ) (rest : List ℕ) (m : MessageProgress) → next ≡ Some w → Waking old now nexts next i cursor least rest → m ≡ get_or now w m → lower ≡ min least w → (ws : List ℕ) × Waking old (set now w (record m { status = status.Ready })) nexts (get_or nexts w None) i cursor lower ws
waking_step old now nexts next i cursor least lower w rest m is waking read same =
    let ws = waking_next old now nexts next i cursor least w rest is waking in
    let mark = read_mark now w m (next_there old now nexts next i cursor least w rest is waking) read in (
      ws.0,
      subst (λ (n : ℕ). Waking old (set now w (record m { status = status.Ready })) nexts (get_or nexts w None) i cursor n ws.0) (sym same)
          (subst (λ (x : MessageProgress). Waking old (set now w (record x { status = status.Ready })) nexts (get_or nexts w None) i cursor (min least w) ws.0) (sym mark)
          (waking_more old now nexts i cursor least w ws.0 ws.1)),
    )

pub waking_falls : (old now : List MessageProgress) (nexts : List (Option ℕ)) (next : Option ℕ) (i cursor least w : ℕ) (rest : List ℕ) (m : MessageProgress) → next ≡ Some w → Waking old now nexts next i cursor least rest → m ≡ get_or now w m → waiting_count i (set now w (record m { status = status.Ready })) < waiting_count i now
waking_falls old now nexts next i cursor least w rest m is waking read =
    let ws = waking_next old now nexts next i cursor least w rest is waking in
    let mark = read_mark now w m (next_there old now nexts next i cursor least w rest is waking) read in
    subst (λ (x : MessageProgress). waiting_count i (set now w (record x { status = status.Ready })) < waiting_count i now) (sym mark) (waking_fewer old now nexts i cursor least w ws.0 ws.1)

none_next : {X : Type 0} (o : Option X) → ((x : X) → o ≡ Some x → ⊥) → o ≡ None
none_next None not_some = refl
none_next (Some x) not_some = absurd (not_some x refl)

pub woken_at_end : (old now : List MessageProgress) (nexts : List (Option ℕ)) (next : Option ℕ) (i cursor least : ℕ) (rest : List ℕ) → ((w : ℕ) → next ≡ Some w → ⊥) → Waking old now nexts next i cursor least rest → (now ≡ map (woken i) old) × IsLoweredToWaiting old i cursor least
woken_at_end old now nexts next i cursor least rest ended waking =
    let none = subst (λ (n : Option ℕ). Waking old now nexts n i cursor least rest) (none_next next ended) waking in
    (all_woken old now nexts i cursor least rest none, least_woken old now nexts i cursor least rest none)
