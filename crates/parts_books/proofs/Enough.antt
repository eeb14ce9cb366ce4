-- A batch as the one part: its messages need no row but those for them.
use Rattle.std.proofs.Common.{◌≡◌, ℕ, List, [], ◌∷◌, length, map, Option, Some, None, ◌⊎◌, inl, inr, refl, sym, ap, ◌∙◌, subst, arith}
use Rattle.std.proofs.lemmas.Option.{none-some}
use Rattle.std.specs.FinMap as finite
use Rattle.issuer_rows.proofs.KeyLaws.{key_cmp_total, key_cmp_antisymmetric}
use Rattle.issuer_words.specs.Words.{Frame, ReplyBody, RowKey, RowVal, Rows, replies_to, rows_after}
use Rattle.issuer_laws.proofs.Parts.{decided_alone, leaves_others}
use Rattle.issuer_laws.specs.Parts.{IsIn, Parted, bodies, of_part, with_parts, IsOfPart, AreApart}
use Rattle.engine_parts.proofs.JoinLaws.{get_joined}
use Rattle.engine_parts.proofs.PartLaws.{of_or_not}
use Rattle.engine_parts.specs.TwoBooks.{first_of, joined}
use Rattle.parts_books.proofs.Listed.{same_or_gone}
use Rattle.parts_books.proofs.Places.{has_part}
use Rattle.parts_books.proofs.Whole.{guest_stays, still_there}
use Rattle.parts_books.specs.PartBooks.{is_for_one, part_rows, rows_for}
use Rattle.parts_books.specs.Together.{AreEnough}
use Rattle.issuer_fold.proofs.FoldLaws.{length-replies_to}

-- all messages in part 0
abbrev one_part : List Frame → Parted
one_part frames = map (λ frame. (0, frame)) frames

its_bodies : (frames : List Frame) → bodies (one_part frames) ≡ frames
its_bodies [] = refl
its_bodies (f ∷ frames) = ap (λ (fs : List Frame). f ∷ fs) (its_bodies frames)

all_its_own : (frames : List Frame) → of_part 0 (one_part frames) ≡ frames
all_its_own [] = refl
all_its_own (f ∷ frames) = ap (λ (fs : List Frame). f ∷ fs) (all_its_own frames)

its_number : (frames : List Frame) (m : ℕ × Frame) → IsIn m (one_part frames) → m.0 ≡ 0
its_number [] m h = absurd h
its_number (f ∷ frames) m (inl e) = ap (λ (n : ℕ × Frame). n.0) e
its_number (f ∷ frames) m (inr h) = its_number frames m h

its_replies : (frames : List Frame) (replies : List ReplyBody) → length replies ≡ length frames → of_part 0 (with_parts (one_part frames) replies) ≡ replies
its_replies [] [] e = refl
its_replies [] (r ∷ rs) e = absurd (omega (arith, e))
its_replies (f ∷ frames) [] e = absurd (omega (arith, e))
its_replies (f ∷ frames) (r ∷ rs) e = ap (λ (all : List ReplyBody). r ∷ all) (its_replies frames rs (omega (arith, e)))

-- it is part 0 whose message may need a row
the_number : (rows : Rows) (frames : List Frame) (p : ℕ) (k : RowKey) → IsOfPart rows (one_part frames) p k → p ≡ 0
the_number rows frames p k own = sym own.2 ∙ its_number frames own.0 own.1

apart : (rows : Rows) (frames : List Frame) → AreApart rows (one_part frames)
apart rows frames p q k other of_p of_q = other (the_number rows frames p k of_p ∙ sym (the_number rows frames q k of_q))

none_of_any : (rows : Rows) (frames : List Frame) (k : RowKey) → (IsOfPart rows (one_part frames) 0 k → ⊥) → (p : ℕ) → IsOfPart rows (one_part frames) p k → ⊥
none_of_any rows frames k none p own = none (subst (λ (q : ℕ). IsOfPart rows (one_part frames) q k) (the_number rows frames p k own) own)

abbrev own_rows : Rows → List Frame → Rows
own_rows rows frames = part_rows rows (one_part frames) 0

same_replies : (rows : Rows) (frames : List Frame) → replies_to (rows_for rows frames) frames ≡ replies_to rows frames
same_replies rows frames =
    let ms = one_part frames in
    let alone = (decided_alone rows ms 0 (own_rows rows frames) (apart rows frames) (has_part rows ms 0)).replies in
    (λ i. replies_to (rows_for rows (sym (all_its_own frames) i)) (sym (all_its_own frames) i))
    ∙ alone
    ∙ ap (λ (fs : List Frame). of_part 0 (with_parts ms (replies_to rows fs))) (its_bodies frames)
    ∙ its_replies frames (replies_to rows frames) (length-replies_to rows frames)

over_own : (whole below : Option RowVal) → (whole ≡ None → below ≡ None) → first_of whole below ≡ whole
over_own None below gone = gone refl
over_own (Some v) below gone = refl

over_same : (own below : Option RowVal) → (own ≡ below) ⊎ (own ≡ None) → first_of own below ≡ below
over_same None below h = refl
over_same (Some v) below (inl same) = same
over_same (Some v) below (inr gone) = absurd (none-some v (sym gone))

never_gone : (rows : Rows) (frames : List Frame) (k : RowKey) → finite.get (rows_after rows frames) k ≡ None → finite.get rows k ≡ None
never_gone rows frames k none =
    elim (finite.get rows k) as (λ o. finite.get rows k ≡ o → o ≡ None) [
      | None ↦ λ _. refl
      | Some v ↦ λ there. absurd (still_there rows frames k (λ gone. none-some v (sym gone ∙ there)) none)
    ] refl

-- a row of the book behind them
same_row : (rows : Rows) (frames : List Frame) (k : RowKey)
    → first_of (finite.get (rows_after (own_rows rows frames) (of_part 0 (one_part frames))) k) (finite.get rows k) ≡ finite.get (rows_after rows (bodies (one_part frames))) k
same_row rows frames k =
    let ms = one_part frames in
    let after = finite.get (rows_after (own_rows rows frames) (of_part 0 ms)) k in
    elim (of_or_not rows ms 0 k) [
      | inl own ↦
          let whole = (decided_alone rows ms 0 (own_rows rows frames) (apart rows frames) (has_part rows ms 0)).needed k own in
          over_own after (finite.get rows k) (λ gone. never_gone rows (bodies ms) k (sym whole ∙ gone)) ∙ whole
      | inr other ↦
          let stays = guest_stays rows ms 0 k other in
          ap (λ (o : Option RowVal). first_of o (finite.get rows k)) stays
          ∙ over_same (finite.get (own_rows rows frames) k) (finite.get rows k) (same_or_gone rows (is_for_one rows (of_part 0 ms)) k)
          ∙ sym (leaves_others rows ms k (none_of_any rows frames k other))
    ]

same_book : (rows : Rows) (frames : List Frame) → joined rows (rows_after (rows_for rows frames) frames) ≡ rows_after rows frames
same_book rows frames =
    (λ i. joined rows (rows_after (rows_for rows (sym (all_its_own frames) i)) (sym (all_its_own frames) i)))
    ∙ finite.same_map key_cmp_total key_cmp_antisymmetric _ _ (λ k. get_joined rows (rows_after (own_rows rows frames) (of_part 0 (one_part frames))) k ∙ same_row rows frames k)
    ∙ ap (rows_after rows) (its_bodies frames)

pub are_enough : (rows : Rows) (frames : List Frame) → AreEnough rows frames
are_enough rows frames = record { replies = same_replies rows frames; book = same_book rows frames }
