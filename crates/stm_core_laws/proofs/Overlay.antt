-- A row of a book under what was written, and what one more message writes.
use Rattle.std.proofs.Common.{◌≡◌, ℕ, ◌+◌, Bool, true, false, cond, List, [], ◌∷◌, ◌++◌, refl, sym, ap, ◌∙◌, Option, Some, None, option_map, filter_map, arith, inl, inr}
use Rattle.std.proofs.lemmas.Bool.{cases_lt}
use Rattle.std.proofs.lemmas.Option.{same_Some, none-some}
use Rattle.std.specs.FinMap as finite
use Rattle.std.specs.List.{cons_option}
use Rattle.std.specs.Ordering.{eq_by_cmp}
use Rattle.issuer_rows.proofs.KeyLaws.{key_cmp_total}
use Rattle.issuer_words.specs.Words.{Frame, ReplyBody, RowKey, RowVal, Rows, Writes, key_cmp, overlay, replies_to, reply_of, rows_after, rows_after_one}
use Rattle.stm_memory.specs.Words.{Held, Resolves, Shelf, row_under, value_at, written}
use Rattle.stm_core_laws.specs.Words.{ExecutionSlot, Follows}
use Rattle.stm_memory.specs.declared.seen.Seen.{Seen}
use Rattle.stm_memory.specs.declared.seen.Seen.TheVariants.{Base, Value, Estimate}
use Rattle.stm_core_laws.proofs.Shelves.{option_cases}

-- the first, or where there is none the second
abbrev pub or_else : {X : Type 0} → Option X → Option X → Option X
or_else None other = other
or_else (Some x) other = Some x

-- the first of three
or_else_assoc : {X : Type 0} (a b c : Option X) → or_else (or_else a b) c ≡ or_else a (or_else b c)
or_else_assoc None b c = refl
or_else_assoc (Some x) b c = refl

-- one row is written: it has the value that is written, over what was there
insert_cases : (b : Bool) (value : RowVal) (was : Option RowVal) → cond b (Some value) was ≡ or_else (cond b (Some value) None) was
insert_cases true value was = refl
insert_cases false value was = refl

get_insert : (rows : Rows) (key row : RowKey) (value : RowVal) → finite.get (finite.insert rows key value) row ≡ or_else (finite.get (finite.insert (finite.empty {R = key_cmp}) key value) row) (finite.get rows row)
get_insert rows key row value =
    finite.get-insert key_cmp_total rows key value row
    ∙ insert_cases (eq_by_cmp key_cmp row key) value (finite.get rows row)
    ∙ ap (λ (o : Option RowVal). or_else o (finite.get rows row)) (sym (finite.get-insert key_cmp_total finite.empty key value row ∙ ap (λ (o : Option RowVal). cond (eq_by_cmp key_cmp row key) (Some value) o) (finite.get-empty key_cmp row)))

-- a row under a write set is what that has for it, or what it was
pub get_overlay : (rows : Rows) (writes : Writes) (row : RowKey) → finite.get (overlay rows writes) row ≡ or_else (written writes row) (finite.get rows row)
get_overlay rows [] row = ap (λ (o : Option RowVal). or_else o (finite.get rows row)) (sym (finite.get-empty key_cmp row))
get_overlay rows (w ∷ ws) row =
    get_overlay (finite.insert rows w.0 w.1) ws row
    ∙ ap (or_else (written ws row)) (get_insert rows w.0 row w.1)
    ∙ sym (or_else_assoc (written ws row) (finite.get (finite.insert finite.empty w.0 w.1) row) (finite.get rows row))
    ∙ ap (λ (o : Option RowVal). or_else o (finite.get rows row)) (sym (get_overlay (finite.insert finite.empty w.0 w.1) ws row))

-- their replies are those of the fold
pub replies-Follows : (rows : Rows) (ms : List ExecutionSlot) (frames : List Frame) → Follows rows ms frames → filter_map (λ kept. kept.reply) ms ≡ replies_to rows frames
replies-Follows rows [] [] h = refl
replies-Follows rows [] (frame ∷ frames) h = absurd h
replies-Follows rows (m ∷ ms) [] h = absurd h
replies-Follows rows (m ∷ ms) (frame ∷ frames) h =
    ap (λ (o : Option ReplyBody). cons_option o (filter_map (λ kept. kept.reply) ms)) h.0
    ∙ ap (λ (rs : List ReplyBody). reply_of rows frame ∷ rs) (replies-Follows (rows_after_one rows frame) ms frames h.1)

-- one more message
pub Follows-push : (rows : Rows) (ms : List ExecutionSlot) (frames : List Frame) (m : ExecutionSlot) (frame : Frame) → Follows rows ms frames → m.reply ≡ Some (reply_of (rows_after rows frames) frame) → Follows rows (ms ++ m ∷ []) (frames ++ frame ∷ [])
Follows-push rows [] [] m frame h reply = (reply, tt)
Follows-push rows [] (f ∷ frames) m frame h reply = absurd h
Follows-push rows (n ∷ ms) [] m frame h reply = absurd h
Follows-push rows (n ∷ ms) (f ∷ frames) m frame h reply = (h.0, Follows-push (rows_after_one rows f) ms frames m frame h.1 reply)

-- the rows after one more body
pub rows_after-push : (rows : Rows) (frames : List Frame) (frame : Frame) → rows_after rows (frames ++ frame ∷ []) ≡ rows_after_one (rows_after rows frames) frame
rows_after-push rows [] frame = refl
rows_after-push rows (f ∷ frames) frame = rows_after-push (rows_after_one rows f) frames frame

-- what is seen from the next index is seen from this one, where nothing stands at it
seen_before : (shelf : Shelf) (row : RowKey) (k : ℕ) (seen : Seen) → shelf row k ≡ None → Resolves shelf row (k + 1) seen → Resolves shelf row k seen
seen_before shelf row k Base none is = λ i l. is i (omega arith)
seen_before shelf row k (Value v value) none is =
    elim (cases_lt v.index k) [
      | inl below ↦ (below, is.1, λ i after l. is.2 i after (omega arith))
      | inr past ↦ let l = is.0 in let here : v.index ≡ k = omega arith in absurd (none-some _ (sym none ∙ sym (ap (shelf row) here) ∙ is.1))
    ]
seen_before shelf row k (Estimate at) none is =
    elim (cases_lt at k) [
      | inl below ↦ (below, is.1, λ i after l. is.2 i after (omega arith))
      | inr past ↦ let l = is.0 in let here : at ≡ k = omega arith in absurd (none-some _ (sym none ∙ sym (ap (shelf row) here) ∙ is.1.1))
    ]

-- the value that stands at the index just before is seen
seen_there : (shelf : Shelf) (row : RowKey) (k incarnation : ℕ) (value : RowVal) (was : Option RowVal) (seen : Seen) → shelf row k ≡ Some (value_at incarnation value) → Resolves shelf row (k + 1) seen → row_under was seen ≡ Some value
seen_there shelf row k incarnation value was Base there is = absurd (none-some _ (sym (is k (omega arith)) ∙ there))
seen_there shelf row k incarnation value was (Value v other) there is =
    elim (cases_lt v.index k) [
      | inl below ↦ absurd (none-some _ (sym (is.2 k below (omega arith)) ∙ there))
      | inr past ↦ let l = is.0 in let here : v.index ≡ k = omega arith in ap (λ (h : Held). h.value) (same_Some (value_at v.incarnation other) (value_at incarnation value) (sym is.1 ∙ ap (shelf row) here ∙ there))
    ]
seen_there shelf row k incarnation value was (Estimate at) there is =
    elim (cases_lt at k) [
      | inl below ↦ absurd (none-some _ (sym (is.2 k below (omega arith)) ∙ there))
      | inr past ↦ let l = is.0 in let here : at ≡ k = omega arith in absurd (none-some value (sym is.1.2 ∙ ap (λ (h : Held). h.value) (same_Some is.1.0 (value_at incarnation value) (sym is.1.1 ∙ ap (shelf row) here ∙ there))))
    ]

-- One more message: where its entries are what it writes on the rows before it, each row after it is as the next message sees it.
pub under_more : (shelf : Shelf) (row : RowKey) (k incarnation : ℕ) (rows : Rows) (writes : Writes) (was : Option RowVal) → shelf row k ≡ option_map (value_at incarnation) (written writes row) → ((seen : Seen) → Resolves shelf row k seen → finite.get rows row ≡ row_under was seen) → (seen : Seen) → Resolves shelf row (k + 1) seen → finite.get (overlay rows writes) row ≡ row_under was seen
under_more shelf row k incarnation rows writes was stands before seen is =
    elim (option_cases (written writes row)) [
      | inl nothing ↦
          get_overlay rows writes row
          ∙ ap (λ (o : Option RowVal). or_else o (finite.get rows row)) nothing
          ∙ before seen (seen_before shelf row k seen (stands ∙ ap (option_map (value_at incarnation)) nothing) is)
      | inr some ↦
          get_overlay rows writes row
          ∙ ap (λ (o : Option RowVal). or_else o (finite.get rows row)) some.1
          ∙ sym (seen_there shelf row k incarnation some.0 was seen (stands ∙ ap (option_map (value_at incarnation)) some.1) is)
    ]
