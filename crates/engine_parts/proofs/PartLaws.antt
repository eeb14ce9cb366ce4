-- One part that is decided alone: which rows it writes, and what they are.
use Rattle.std.proofs.Common.{◌≡◌, ◌≢◌, ℕ, ◌==◌, true, false, if◌then◌else◌, List, [], ◌∷◌, None, ◌⊎◌, inl, inr, refl, sym, ap, ◌∙◌, subst}
use Rattle.std.specs.FinMap as map
use Rattle.std.specs.List.{AllByRecursion}
use Rattle.std.proofs.lemmas.Bool.{eqb-true, eqb-false}
use Rattle.issuer_laws.proofs.Keys.{get-other, same_or_other}
use Rattle.issuer_laws.proofs.Needed.{IsFollowing, follows_itself, follows_one, written_needed}
use Rattle.issuer_laws.proofs.Parts.{decided_alone, each_of, unwritten}
use Rattle.issuer_laws.specs.Parts.{IsIn, may_need, Parted, bodies, of_part, IsOfPart, AreApart, HasPart}
use Rattle.issuer_words.specs.Words.{Frame, RowKey, Rows, Writes, key_cmp, overlay, rows_after, rows_after_one, writes_of}
use Rattle.engine_parts.proofs.JoinLaws.{joined_nothing, joined_overlay}
use Rattle.engine_parts.specs.TwoBooks.{joined, rows_written, rows_of_part}

-- ---- of a part or not

-- what holds of each row of the part holds of each that one of its messages may need
pub part_each : (opening : Rows) (ms : Parted) (p : ℕ) (k : RowKey) (P : Type 0) → (IsOfPart opening ms p k → P) → AllByRecursion (λ f. IsIn k (may_need opening f) → P) (of_part p ms)
part_each opening [] p k P own = tt
part_each opening (m ∷ ms) p k P own =
    let rest = part_each opening ms p k P (λ h. own (h.0, inr h.1, h.2, h.3)) in
    elim (m.0 == p) as (λ b. (m.0 == p) ≡ b → AllByRecursion (λ f. IsIn k (may_need opening f) → P) (if b then m.1 ∷ of_part p ms else of_part p ms)) [
      | true ↦ λ e. (λ needed. own (m, inl refl, eqb-true m.0 p e, needed), rest)
      | false ↦ λ _. rest
    ] refl

neither : (k q : RowKey) (ks : List RowKey) → k ≢ q → (IsIn k ks → ⊥) → IsIn k (q ∷ ks) → ⊥
neither k q ks apart none (inl e) = apart e
neither k q ks apart none (inr there) = none there

in_or_not : (k : RowKey) (ks : List RowKey) → IsIn k ks ⊎ (IsIn k ks → ⊥)
in_or_not k [] = inr (λ h. h)
in_or_not k (q ∷ ks) =
    elim (same_or_other k q) [
      | inl same ↦ inl (inl same)
      | inr apart ↦ elim (in_or_not k ks) [
        | inl there ↦ inl (inr there)
        | inr none ↦ inr (neither k q ks apart none)
      ]
    ]

not_at : (opening : Rows) (m : ℕ × Frame) (ms : Parted) (p : ℕ) (k : RowKey) → (m.0 ≡ p → IsIn k (may_need opening m.1) → ⊥) → (IsOfPart opening ms p k → ⊥) → (n : ℕ × Frame) → IsIn n (m ∷ ms) → n.0 ≡ p → IsIn k (may_need opening n.1) → ⊥
not_at opening m ms p k first rest n (inl e) of_p needed = first (sym (ap (λ (o : ℕ × Frame). o.0) e) ∙ of_p) (subst (λ (o : ℕ × Frame). IsIn k (may_need opening o.1)) e needed)
not_at opening m ms p k first rest n (inr there) of_p needed = rest (n, there, of_p, needed)

-- the first message is none of the part that may need the row
not_first : (opening : Rows) (m : ℕ × Frame) (ms : Parted) (p : ℕ) (k : RowKey) → (m.0 ≡ p → IsIn k (may_need opening m.1) → ⊥) → (IsOfPart opening ms p k → ⊥) → IsOfPart opening (m ∷ ms) p k → ⊥
not_first opening m ms p k first rest h = not_at opening m ms p k first rest h.0 h.1 h.2 h.3

-- a row is of the part, or it isn't
pub of_or_not : (opening : Rows) (ms : Parted) (p : ℕ) (k : RowKey) → IsOfPart opening ms p k ⊎ (IsOfPart opening ms p k → ⊥)
of_or_not opening [] p k = inr (λ h. h.1)
of_or_not opening (m ∷ ms) p k =
    elim (of_or_not opening ms p k) [
      | inl there ↦ inl (there.0, inr there.1, there.2, there.3)
      | inr none ↦ elim (m.0 == p) as (λ b. (m.0 == p) ≡ b → IsOfPart opening (m ∷ ms) p k ⊎ (IsOfPart opening (m ∷ ms) p k → ⊥)) [
        | true ↦ λ e. elim (in_or_not k (may_need opening m.1)) [
          | inl needed ↦ inl (m, inl refl, eqb-true m.0 p e, needed)
          | inr not_needed ↦ inr (not_first opening m ms p k (λ _. not_needed) none)
        ]
        | false ↦ λ e. inr (not_first opening m ms p k (λ same _. eqb-false m.0 p e same) none)
      ] refl
    ]

-- ---- which rows are written

-- a row of which no body may have need stays
pub alone_leaves : (opening rows : Rows) → IsFollowing opening rows → (fs : List Frame) (k : RowKey) → AllByRecursion (λ f. IsIn k (may_need opening f) → ⊥) fs → map.get (rows_after rows fs) k ≡ map.get rows k
alone_leaves opening rows h [] k none = refl
alone_leaves opening rows h (f ∷ fs) k none =
    alone_leaves opening (rows_after_one rows f) (follows_one opening rows h f) fs k none.1
    ∙ unwritten rows (writes_of rows f) k
    (each_of (λ w. IsIn w.0 (may_need opening f)) (λ w. k ≢ w.0) (writes_of rows f)
    (λ w needed same. none.0 (subst (λ (q : RowKey). IsIn q (may_need opening f)) (sym same) needed))
    (written_needed opening rows h f))

overlay_some : (own : Rows) (ws : Writes) (k : RowKey) (P : Type 0) → (map.get own k ≢ None → P) → AllByRecursion (λ w. k ≡ w.0 → P) ws → map.get (overlay own ws) k ≢ None → P
overlay_some own [] k P there all some = there some
overlay_some own (w ∷ ws) k P there all some =
    overlay_some (map.insert own w.0 w.1) ws k P
    (λ found. elim (same_or_other k w.0) [
      | inl same ↦ all.0 same
      | inr apart ↦ there (λ none. found (get-other own w.0 w.1 k apart ∙ none))
    ])
    all.1 some

-- a row that is written is one that a body may need
written_by : (opening rows own : Rows) → IsFollowing opening rows → (fs : List Frame) (k : RowKey) (P : Type 0) → (map.get own k ≢ None → P) → AllByRecursion (λ f. IsIn k (may_need opening f) → P) fs
    → map.get (rows_written own rows fs) k ≢ None → P
written_by opening rows own h [] k P there all some = there some
written_by opening rows own h (f ∷ fs) k P there all some =
    written_by opening (rows_after_one rows f) (overlay own (writes_of rows f)) (follows_one opening rows h f) fs k P
    (overlay_some own (writes_of rows f) k P there
    (each_of (λ w. IsIn w.0 (may_need opening f)) (λ w. k ≡ w.0 → P) (writes_of rows f)
    (λ w needed same. all.0 (subst (λ (q : RowKey). IsIn q (may_need opening f)) (sym same) needed))
    (written_needed opening rows h f)))
    all.1 some

-- the rows that are written, seen over the opening book
joined_written : (opening own rows : Rows) (fs : List Frame) → joined opening own ≡ rows → joined opening (rows_written own rows fs) ≡ rows_after rows fs
joined_written opening own rows [] h = h
joined_written opening own rows (f ∷ fs) h =
    joined_written opening (overlay own (writes_of rows f)) (rows_after_one rows f) fs
    (joined_overlay opening own (writes_of rows f) ∙ ap (λ (r : Rows). overlay r (writes_of rows f)) h)

-- ---- a part

-- the rows of the part are those behind the whole batch
pub alone_is_whole : (opening : Rows) (ms : Parted) (p : ℕ) (k : RowKey) → AreApart opening ms → IsOfPart opening ms p k → map.get (rows_after opening (of_part p ms)) k ≡ map.get (rows_after opening (bodies ms)) k
alone_is_whole opening ms p k apart own =
    let has : HasPart opening ms p opening = record { needed = λ q _. refl; others = λ q. inl refl } in
    (decided_alone opening ms p opening apart has).needed k own

-- and so are those that it wrote, over the opening book
pub written_is_whole : (opening : Rows) (ms : Parted) (p : ℕ) (k : RowKey) → AreApart opening ms → IsOfPart opening ms p k → map.get (joined opening (rows_of_part opening (of_part p ms))) k ≡ map.get (rows_after opening (bodies ms)) k
written_is_whole opening ms p k apart own =
    ap (λ (rows : Rows). map.get rows k) (joined_written opening map.empty opening (of_part p ms) (joined_nothing opening)) ∙ alone_is_whole opening ms p k apart own

-- it wrote no row of another part
pub written_of_part : (opening : Rows) (ms : Parted) (p : ℕ) (k : RowKey) → map.get (rows_of_part opening (of_part p ms)) k ≢ None → IsOfPart opening ms p k
written_of_part opening ms p k some =
    written_by opening opening map.empty (follows_itself opening) (of_part p ms) k (IsOfPart opening ms p k) (λ found. absurd (found (map.get-empty key_cmp k))) (part_each opening ms p k (IsOfPart opening ms p k) (λ h. h)) some

-- a row that isn't of the part stays
pub others_stay : (opening : Rows) (ms : Parted) (p : ℕ) (k : RowKey) → (IsOfPart opening ms p k → ⊥) → map.get (rows_after opening (of_part p ms)) k ≡ map.get opening k
others_stay opening ms p k none = alone_leaves opening opening (follows_itself opening) (of_part p ms) k (part_each opening ms p k ⊥ none)
