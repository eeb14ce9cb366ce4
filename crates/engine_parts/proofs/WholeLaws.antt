-- Parts that were decided alone, put together: the rows and the replies of the whole batch.
use Rattle.std.proofs.Common.{◌≡◌, ◌≢◌, ℕ, zero, suc, ◌+◌, ◌<◌, ◌≤◌, true, slice_index_or, List, [], ◌∷◌, length, map, zip, Option, Some, None, option_map, slice_get, ◌⊎◌, inl, inr, refl, sym, ap, ◌∙◌, subst, arith}
use Rattle.std.proofs.lemmas.Option.{get_or_from_slice_get, none-some, same_Some, slice_get-map, slice_get_within}
use Rattle.std.proofs.lemmas.List.{length-map}
use Rattle.std.specs.FinMap as finite
use Rattle.std.specs.List.{AllByRecursion}
use Rattle.issuer_laws.proofs.Parts.{decided_alone, leaves_others}
use Rattle.issuer_laws.specs.Parts.{IsIn, Parted, bodies, of_part, with_parts, IsOfPart, AreApart, HasPart}
use Rattle.issuer_rows.proofs.KeyLaws.{key_cmp_total, key_cmp_antisymmetric}
use Rattle.issuer_words.specs.Words.{Frame, ReplyBody, RowKey, RowVal, Rows, replies_to, rows_after}
use Rattle.engine_parts.proofs.JoinLaws.{get_joined}
use Rattle.engine_parts.proofs.OrderLaws.{bodies_zip, parts_zip, zip_below}
use Rattle.engine_parts.proofs.PartLaws.{alone_is_whole, of_or_not, others_stay, written_is_whole, written_of_part}
use Rattle.engine_parts.proofs.QueueLaws.{length_replies}
use Rattle.engine_parts.specs.Decided.{AreDecided, HaveParts, bodies_of, list_at, replies_of}
use Rattle.engine_parts.specs.declared.decided_part.DecidedPart.{DecidedPart}
use Rattle.engine_parts.specs.TwoBooks.{first_of, joined, joined_all, rows_of_part}

-- ---- the rows

-- these are what the parts from one number on wrote
abbrev AreWritten : Rows → Parted → ℕ → List Rows → Type 0
AreWritten opening ms from owns = (i p : ℕ) (own : Rows) → p ≡ from + i → slice_get owns i ≡ Some own → own ≡ rows_of_part opening (of_part p ms)

-- a row is that of the whole batch, or as it was, and then it is of no part but one of so many from one number on
abbrev IsMerged : Rows → Parted → ℕ → ℕ → Rows → RowKey → Type 0
IsMerged opening ms from count book k =
    (finite.get book k ≡ finite.get (rows_after opening (bodies ms)) k)
    ⊎ ((finite.get book k ≡ finite.get opening k) × ((p : ℕ) → IsOfPart opening ms p k → (from ≤ p) × (p < from + count)))

-- a row that the part wrote
wrote : (opening : Rows) (ms : Parted) → AreApart opening ms → (p : ℕ) (own : Rows) → own ≡ rows_of_part opening (of_part p ms) → (k : RowKey) (v : RowVal) → finite.get own k ≡ Some v
    → Some v ≡ finite.get (rows_after opening (bodies ms)) k
wrote opening ms apart p own is k v has =
    let there : finite.get (rows_of_part opening (of_part p ms)) k ≢ None = λ none. none-some v (sym (ap (λ (rows : Rows). finite.get rows k) is ∙ none) ∙ has) in
    sym (get_joined opening own k ∙ ap (λ (o : Option RowVal). first_of o (finite.get opening k)) has)
    ∙ ap (λ (rows : Rows). finite.get (joined opening rows) k) is
    ∙ written_is_whole opening ms p k apart (written_of_part opening ms p k there)

-- a row of the part that it didn't write
left : (opening : Rows) (ms : Parted) → AreApart opening ms → (p : ℕ) (own : Rows) → own ≡ rows_of_part opening (of_part p ms) → (k : RowKey) → IsOfPart opening ms p k → finite.get own k ≡ None
    → finite.get opening k ≡ finite.get (rows_after opening (bodies ms)) k
left opening ms apart p own is k mine none =
    sym (get_joined opening own k ∙ ap (λ (o : Option RowVal). first_of o (finite.get opening k)) none)
    ∙ ap (λ (rows : Rows). finite.get (joined opening rows) k) is
    ∙ written_is_whole opening ms p k apart mine

-- the same row, where the part has nothing of it
unwritten_merged : (opening : Rows) (ms : Parted) → AreApart opening ms → (from count : ℕ) (own : Rows) → own ≡ rows_of_part opening (of_part from ms) → (book : Rows) (k : RowKey) → finite.get own k ≡ None
    → IsMerged opening ms from (suc count) book k → IsMerged opening ms (suc from) count (joined book own) k
unwritten_merged opening ms apart from count own is book k none so =
    let same : finite.get (joined book own) k ≡ finite.get book k = get_joined book own k ∙ ap (λ (o : Option RowVal). first_of o (finite.get book k)) none in
    elim so [
      | inl done ↦ inl (same ∙ done)
      | inr rest ↦ elim (of_or_not opening ms from k) [
        | inl mine ↦ inl (same ∙ rest.0 ∙ left opening ms apart from own is k mine none)
        | inr other ↦ inr (
          same ∙ rest.0,
          λ p of_p.
              let range = rest.1 p of_p in
              let low : from ≤ p = range.0 in
              let high : p < from + suc count = range.1 in
              let apart_from : p ≢ from = λ e. other (subst (λ (q : ℕ). IsOfPart opening ms q k) e of_p) in
              (omega arith, omega arith),
        )
      ]
    ]

one_merged : (opening : Rows) (ms : Parted) → AreApart opening ms → (from count : ℕ) (own : Rows) → own ≡ rows_of_part opening (of_part from ms) → (book : Rows) (k : RowKey)
    → IsMerged opening ms from (suc count) book k → IsMerged opening ms (suc from) count (joined book own) k
one_merged opening ms apart from count own is book k so =
    elim (finite.get own k) as (λ o. finite.get own k ≡ o → IsMerged opening ms (suc from) count (joined book own) k) [
      | Some v ↦ λ has. inl (get_joined book own k ∙ ap (λ (o : Option RowVal). first_of o (finite.get book k)) has ∙ wrote opening ms apart from own is k v has)
      | None ↦ λ none. unwritten_merged opening ms apart from count own is book k none so
    ] refl

all_merged : (opening : Rows) (ms : Parted) → AreApart opening ms → (owns : List Rows) (from : ℕ) → AreWritten opening ms from owns → (book : Rows) (k : RowKey) → IsMerged opening ms from (length owns) book k
    → finite.get (joined_all book owns) k ≡ finite.get (rows_after opening (bodies ms)) k
all_merged opening ms apart [] from each book k so =
    elim so [
      | inl done ↦ done
      | inr rest ↦ rest.0 ∙ sym (leaves_others opening ms k (λ p of_p. let range = rest.1 p of_p in let low : from ≤ p = range.0 in let high : p < from + 0 = range.1 in absurd (omega arith)))
    ]
all_merged opening ms apart (own ∷ owns) from each book k so =
    all_merged opening ms apart owns (suc from) (λ i p o e at. each (suc i) p o (omega (arith, e)) at) (joined book own) k
    (one_merged opening ms apart from (length owns) own (each 0 from own (omega arith) refl) book k so)

pub below_in : (count : ℕ) (ms : Parted) → AllByRecursion (λ (m : ℕ × Frame). m.0 < count) ms → (m : ℕ × Frame) → IsIn m ms → m.0 < count
below_in count [] all m h = absurd h
below_in count (n ∷ ms) all m (inl e) = subst (λ (o : ℕ × Frame). o.0 < count) (sym e) all.0
below_in count (n ∷ ms) all m (inr h) = below_in count ms all.1 m h

sym_zero : (p i : ℕ) → p ≡ 0 + i → p ≡ i
sym_zero p i e = omega arith

-- the last part's book
last_merged : (opening : Rows) (ms : Parted) → AreApart opening ms → (last : ℕ) → AllByRecursion (λ (m : ℕ × Frame). m.0 < last + 1) ms → (k : RowKey) → IsMerged opening ms 0 last (rows_after opening (of_part last ms)) k
last_merged opening ms apart last below k =
    elim (of_or_not opening ms last k) [
      | inl mine ↦ inl (alone_is_whole opening ms last k apart mine)
      | inr other ↦ inr (
        others_stay opening ms last k other,
        λ p of_p.
            let low = below_in (last + 1) ms below of_p.0 of_p.1 in
            let high : p < last + 1 = subst (λ (q : ℕ). q < last + 1) of_p.2 low in
            let apart_from : p ≢ last = λ e. other (subst (λ (q : ℕ). IsOfPart opening ms q k) e of_p) in
            (omega arith, omega arith),
      )
    ]

-- the rows that the other parts wrote, over the book behind the last part
pub whole_rows : (opening : Rows) (parts : List ℕ) (frames : List Frame) (last : ℕ) (owns : List Rows) → length parts ≡ length frames → AreApart opening (zip parts frames)
    → AllByRecursion (λ part. part < last + 1) parts → length owns ≡ last
    → ((p : ℕ) (own : Rows) → slice_get owns p ≡ Some own → own ≡ rows_of_part opening (of_part p (zip parts frames)))
    → joined_all (rows_after opening (of_part last (zip parts frames))) owns ≡ rows_after opening frames
whole_rows opening parts frames last owns same apart below long each =
    let ms = zip parts frames in
    finite.same_map key_cmp_total key_cmp_antisymmetric _ _ (λ k.
    all_merged opening ms apart owns 0 (λ i p own e at. each p own (subst (λ (j : ℕ). slice_get owns j ≡ Some own) (sym (sym_zero p i e)) at)) (rows_after opening (of_part last ms)) k
    (subst (λ (n : ℕ). IsMerged opening ms 0 n (rows_after opening (of_part last ms)) k) (sym long) (last_merged opening ms apart last (zip_below (last + 1) parts frames below) k)))
    ∙ ap (rows_after opening) (bodies_zip parts frames same)

-- ---- the replies

-- a part's replies are those of the whole batch at its places
pub whole_replies : (opening : Rows) (parts : List ℕ) (frames : List Frame) (p : ℕ) → length parts ≡ length frames → AreApart opening (zip parts frames)
    → replies_to opening (of_part p (zip parts frames)) ≡ of_part p (zip parts (replies_to opening frames))
whole_replies opening parts frames p same apart =
    let ms = zip parts frames in
    let has : HasPart opening ms p opening = record { needed = λ q _. refl; others = λ q. inl refl } in
    (decided_alone opening ms p opening apart has).replies
    ∙ ap (λ (fs : List Frame). of_part p (with_parts ms (replies_to opening fs))) (bodies_zip parts frames same)
    ∙ ap (λ (ps : List ℕ). of_part p (zip ps (replies_to opening frames))) (parts_zip parts frames same)

-- the replies of each part, where each was decided
replies_from : (others : List DecidedPart) (last : List ReplyBody) (R : ℕ → List ReplyBody) (from : ℕ) → ((i p : ℕ) (one : DecidedPart) → p ≡ from + i → slice_get others i ≡ Some one → one.replies.items ≡ R p)
    → last ≡ R (from + length others) → (i : ℕ) → i < length others + 1 → list_at (replies_of others last) i ≡ R (from + i)
replies_from [] last R from each is zero within = is
replies_from [] last R from each is (suc i) within = absurd (omega arith)
replies_from (one ∷ others) last R from each is zero within = each 0 (from + 0) one refl refl
replies_from (one ∷ others) last R from each is (suc i) within =
    replies_from others last R (suc from) (λ j p o e at. each (suc j) p o (omega (arith, e)) at) (is ∙ ap R (omega arith)) i (omega arith) ∙ ap R (omega arith)

pub have_parts : (opening : Rows) (parts : List ℕ) (frames : List Frame) (others : List DecidedPart) (last : List ReplyBody) → length parts ≡ length frames → AreApart opening (zip parts frames)
    → ((p : ℕ) (one : DecidedPart) → slice_get others p ≡ Some one → AreDecided opening (bodies_of p parts frames) one)
    → last ≡ replies_to opening (bodies_of (length others) parts frames)
    → HaveParts parts (replies_to opening frames) (replies_of others last)
have_parts opening parts frames others last same apart each is p within =
    replies_from others last (λ q. of_part q (zip parts (replies_to opening frames))) 0
    (λ i q one e at. (each i one at).replies ∙ whole_replies opening parts frames i same apart ∙ ap (λ (j : ℕ). of_part j (zip parts (replies_to opening frames))) (sym (sym_zero q i e)))
    (is ∙ whole_replies opening parts frames (length others) same apart ∙ ap (λ (j : ℕ). of_part j (zip parts (replies_to opening frames))) (omega arith))
    p (subst (λ (n : ℕ). p < n) (length_replies others last) within)
    ∙ ap (λ (j : ℕ). of_part j (zip parts (replies_to opening frames))) (omega arith)

-- what each part wrote
owns_written : (opening : Rows) (parts : List ℕ) (frames : List Frame) (others : List DecidedPart)
    → ((p : ℕ) (one : DecidedPart) → slice_get others p ≡ Some one → AreDecided opening (bodies_of p parts frames) one)
    → (p : ℕ) (own : Rows) → slice_get (map (λ (part : DecidedPart). part.rows) others) p ≡ Some own → own ≡ rows_of_part opening (bodies_of p parts frames)
owns_written opening parts frames others each p own at =
    elim (slice_get others p) as (λ o. slice_get others p ≡ o → own ≡ rows_of_part opening (bodies_of p parts frames)) [
      | None ↦ λ none. absurd (none-some own (sym (slice_get-map (λ (part : DecidedPart). part.rows) others p ∙ ap (option_map (λ (part : DecidedPart). part.rows)) none) ∙ at))
      | Some one ↦ λ there.
          same_Some own one.rows (sym at ∙ (slice_get-map (λ (part : DecidedPart). part.rows) others p ∙ ap (option_map (λ (part : DecidedPart). part.rows)) there))
          ∙ (each p one there).rows
    ] refl

-- the book behind all parts
pub whole_book : (opening : Rows) (parts : List ℕ) (frames : List Frame) (others : List DecidedPart) (book : Rows) → length parts ≡ length frames → AreApart opening (zip parts frames)
    → AllByRecursion (λ part. part < length others + 1) parts
    → ((p : ℕ) (one : DecidedPart) → slice_get others p ≡ Some one → AreDecided opening (bodies_of p parts frames) one)
    → book ≡ rows_after opening (bodies_of (length others) parts frames)
    → joined_all book (map (λ (part : DecidedPart). part.rows) others) ≡ rows_after opening frames
whole_book opening parts frames others book same apart below each is =
    let owns = map (λ (part : DecidedPart). part.rows) others in
    ap (λ (rows : Rows). joined_all rows owns) is
    ∙ whole_rows opening parts frames (length others) owns same apart below (length-map others (λ (part : DecidedPart). part.rows)) (owns_written opening parts frames others each)

all_at : {A : Type 0} (P : A → Type 0) (xs : List A) (i : ℕ) (x : A) → AllByRecursion P xs → slice_get xs i ≡ Some x → P x
all_at P [] i x all at = absurd (none-some x at)
all_at P (y ∷ xs) zero x all at = subst P (same_Some y x at) all.0
all_at P (y ∷ xs) (suc i) x all at = all_at P xs i x all.1 at

-- parts of which each is decided where it is whole, and each is whole
pub all_decided : (opening : Rows) (parts : List ℕ) (frames : List Frame) (ones : List DecidedPart) → AllByRecursion (λ (one : DecidedPart). one.is_whole ≡ true) ones
    → ((p : ℕ) (d : DecidedPart) → p < length ones → (slice_index_or ones p d).is_whole ≡ true → AreDecided opening (bodies_of p parts frames) (slice_index_or ones p d))
    → (p : ℕ) (one : DecidedPart) → slice_get ones p ≡ Some one → AreDecided opening (bodies_of p parts frames) one
all_decided opening parts frames ones whole each p one at =
    let same = get_or_from_slice_get ones p one one at in
    let is_whole = all_at (λ (d : DecidedPart). d.is_whole ≡ true) ones p one whole at in
    subst (λ (d : DecidedPart). AreDecided opening (bodies_of p parts frames) d) same
    (each p one (slice_get_within ones p one at) (ap (λ (d : DecidedPart). d.is_whole) same ∙ is_whole))
