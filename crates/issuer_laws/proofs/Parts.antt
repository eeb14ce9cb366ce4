-- Parts of a batch that share no row are decided alone as they are decided together.
use Rattle.std.proofs.Common.{◌≡◌, ◌≢◌, ℕ, true, false, if◌then◌else◌, ◌==◌, List, [], ◌∷◌, Option, None, ◌⊎◌, inl, inr, refl, sym, ap, ◌∙◌, subst}
use Rattle.std.specs.FinMap as map
use Rattle.std.specs.List.{AllByRecursion}
use Rattle.std.proofs.lemmas.Bool.{eqb-true, eqb-false}
use Rattle.issuer_words.specs.Words.{Frame, RowKey, RowVal, Rows, decision, overlay, plan_of, replies_to, reply_of, rows_after, rows_after_one, writes_of}
use Rattle.issuer_rows.specs.Plan.{Plan, Lookup, Writes, Decided, Answer, Look, after_look, carried_out}
use Rattle.issuer_laws.proofs.Keys.{get-put, get-other, same_or_other}
use Rattle.issuer_laws.proofs.Needed.{IsFollowing, follows_itself, follows_one, written_needed, looked_needed}
use Rattle.issuer_laws.specs.Parts.{IsIn, may_need, IsNoBudget, MayLook, NeedsNoOther, Parted, bodies, of_part, with_parts, IsOfPart, AreApart, HasPart, IsDecidedAlone, LeavesOthers}

-- ---- one message

follows_all : (opening rows : Rows) (frames : List Frame) → IsFollowing opening rows → IsFollowing opening (rows_after rows frames)
follows_all opening rows [] h = h
follows_all opening rows (frame ∷ frames) h = follows_all opening (rows_after_one rows frame) frames (follows_one opening rows h frame)

pub needs_no_other : (opening : Rows) (before : List Frame) (frame : Frame) → NeedsNoOther opening before frame
needs_no_other opening before frame =
    let h = follows_all opening opening before (follows_itself opening) in
    record { looks = looked_needed opening (rows_after opening before) h frame; writes = written_needed opening (rows_after opening before) h frame }

-- ---- a decision on rows that agree

pub each_of : {A : Type 0} (P Q : A → Type 0) (xs : List A) → ((x : A) → P x → Q x) → AllByRecursion P xs → AllByRecursion Q xs
each_of P Q [] f h = tt
each_of P Q (x ∷ xs) f h = (f x h.0, each_of P Q xs f h.1)

-- where the rows that a plan looks at are the same, it comes to the same
same_plan : (plan : Plan) (one other : Lookup) → AllByRecursion (λ k. one k ≡ other k) (carried_out plan one).needs → carried_out plan one ≡ carried_out plan other
same_plan (Answer reply writes) one other h = refl
same_plan (Look key next) one other h =
    ap (after_look key) (same_plan (next (one key)) one other h.1)
    ∙ ap (λ (row : Option RowVal). after_look key (carried_out (next row) other)) h.0

pub same_decision : (frame : Frame) (one other : Lookup) → AllByRecursion (λ k. one k ≡ other k) (decision one frame).needs → decision one frame ≡ decision other frame
unfolding decision
same_decision frame one other h = same_plan (plan_of frame) one other h

-- rows that agree under a key agree there behind the same rows that are written
pub same_behind : (one other : Rows) (ws : Writes) (k : RowKey) → map.get one k ≡ map.get other k → map.get (overlay one ws) k ≡ map.get (overlay other ws) k
same_behind one other [] k h = h
same_behind one other (w ∷ ws) k h =
    same_behind (map.insert one w.0 w.1) (map.insert other w.0 w.1) ws k (elim (same_or_other k w.0) [
      | inl own ↦ ap (map.get (map.insert one w.0 w.1)) own ∙ get-put one w.0 w.1 ∙ sym (ap (map.get (map.insert other w.0 w.1)) own ∙ get-put other w.0 w.1)
      | inr apart ↦ get-other one w.0 w.1 k apart ∙ h ∙ sym (get-other other w.0 w.1 k apart)
    ])

-- a key that isn't written keeps its row
pub unwritten : (rows : Rows) (ws : Writes) (k : RowKey) → AllByRecursion (λ w. k ≢ w.0) ws → map.get (overlay rows ws) k ≡ map.get rows k
unwritten rows [] k h = refl
unwritten rows (w ∷ ws) k h = unwritten (map.insert rows w.0 w.1) ws k h.1 ∙ get-other rows w.0 w.1 k h.0

-- ---- a part beside the others

-- the rows of a part, and no budgets
abbrev IsShared : Rows → Parted → ℕ → RowKey → Type 0
IsShared opening ms p k = IsOfPart opening ms p k ⊎ IsNoBudget opening k

abbrev Agree : Rows → Parted → ℕ → Rows → Rows → Type 0
Agree opening ms p whole alone = (k : RowKey) → IsShared opening ms p k → map.get whole k ≡ map.get alone k

-- a message of the part is decided on its book as on the whole one
own_decision : (opening : Rows) (ms : Parted) (p : ℕ) (m : ℕ × Frame) → IsIn m ms → m.0 ≡ p → (whole alone : Rows) → IsFollowing opening whole → Agree opening ms p whole alone → decision (map.get whole) m.1 ≡ decision (map.get alone) m.1
own_decision opening ms p m here of_p whole alone h agree =
    same_decision m.1 (map.get whole) (map.get alone)
    (each_of (MayLook opening m.1) (λ k. map.get whole k ≡ map.get alone k) (decision (map.get whole) m.1).needs
    (λ k looked. elim looked [
      | inl needed ↦ agree k (inl (m, here, of_p, needed))
      | inr none ↦ agree k (inr none)
    ])
    (looked_needed opening whole h m.1))

-- behind it the rows agree
own_rows : (opening : Rows) (ms : Parted) (p : ℕ) (frame : Frame) (whole alone : Rows) → decision (map.get whole) frame ≡ decision (map.get alone) frame → Agree opening ms p whole alone → Agree opening ms p (rows_after_one whole frame) (rows_after_one alone frame)
own_rows opening ms p frame whole alone same agree k shared =
    ap (λ (d : Decided). map.get (overlay whole d.writes) k) same ∙ same_behind whole alone (writes_of alone frame) k (agree k shared)

-- a message of another part leaves them
no_budget_stays : (opening rows : Rows) → IsFollowing opening rows → (k : RowKey) → IsNoBudget opening k → map.get rows k ≡ None
no_budget_stays opening rows h k none =
    ap (map.get rows) none.1 ∙ h.budgets none.0 (sym (ap (map.get opening) none.1) ∙ none.2)

other_rows : (opening : Rows) (ms : Parted) (p : ℕ) (m : ℕ × Frame) → AreApart opening ms → IsIn m ms → m.0 ≢ p → (whole : Rows) → IsFollowing opening whole → (k : RowKey) → IsShared opening ms p k → map.get (rows_after_one whole m.1) k ≡ map.get whole k
other_rows opening ms p m apart here other whole h k (inl own) =
    unwritten whole (writes_of whole m.1) k
    (each_of (λ w. IsIn w.0 (may_need opening m.1)) (λ w. k ≢ w.0) (writes_of whole m.1)
    (λ w needed same. apart m.0 p k other (m, here, refl, subst (λ (q : RowKey). IsIn q (may_need opening m.1)) (sym same) needed) own)
    (written_needed opening whole h m.1))
other_rows opening ms p m apart here other whole h k (inr none) =
    no_budget_stays opening (rows_after_one whole m.1) (follows_one opening whole h m.1) k none ∙ sym (no_budget_stays opening whole h k none)

-- replies and rows of the messages that are left
record GoesOn (opening : Rows) (ms : Parted) (p : ℕ) (left : Parted) (whole alone : Rows) : Type 0 where
  replies : replies_to alone (of_part p left) ≡ of_part p (with_parts left (replies_to whole (bodies left)))
  rows : Agree opening ms p (rows_after whole (bodies left)) (rows_after alone (of_part p left))

goes_on : (opening : Rows) (ms : Parted) (p : ℕ) → AreApart opening ms → (left : Parted) → ((m : ℕ × Frame) → IsIn m left → IsIn m ms) → (whole alone : Rows) → IsFollowing opening whole → Agree opening ms p whole alone → GoesOn opening ms p left whole alone
goes_on opening ms p apart [] within whole alone h agree = record { replies = refl; rows = agree }
goes_on opening ms p apart (m ∷ left) within whole alone h agree =
    let here = within m (inl refl) in
    let later = λ (n : ℕ × Frame) (i : IsIn n left). within n (inr i) in
    let next = follows_one opening whole h m.1 in
    let both =
    elim (m.0 == p) as (λ b. (m.0 == p) ≡ b → (replies_to alone (if b then m.1 ∷ of_part p left else of_part p left) ≡ (if b then reply_of whole m.1 ∷ of_part p (with_parts left (replies_to (rows_after_one whole m.1) (bodies left))) else of_part p (with_parts left (replies_to (rows_after_one whole m.1) (bodies left))))) × Agree opening ms p (rows_after (rows_after_one whole m.1) (bodies left)) (rows_after alone (if b then m.1 ∷ of_part p left else of_part p left))) [
      | true ↦ λ e.
          let same = own_decision opening ms p m here (eqb-true m.0 p e) whole alone h agree in
          let reply = sym (ap (λ (d : Decided). d.reply) same) in
          let rest = goes_on opening ms p apart left later (rows_after_one whole m.1) (rows_after_one alone m.1) next (own_rows opening ms p m.1 whole alone same agree) in
          ((λ i. reply i ∷ rest.replies i), rest.rows)
      | false ↦ λ e.
          let agrees : Agree opening ms p (rows_after_one whole m.1) alone = λ k shared. other_rows opening ms p m apart here (eqb-false m.0 p e) whole h k shared ∙ agree k shared in
          let rest = goes_on opening ms p apart left later (rows_after_one whole m.1) alone next agrees in
          (rest.replies, rest.rows)
    ] refl
    in
    record { replies = both.0; rows = both.1 }

-- a part's book agrees with the opening one
part_agrees : (opening : Rows) (ms : Parted) (p : ℕ) (book : Rows) → HasPart opening ms p book → Agree opening ms p opening book
part_agrees opening ms p book h k (inl own) = sym (h.needed k own)
part_agrees opening ms p book h k (inr none) =
    none.2 ∙ elim (h.others k) [
      | inl same ↦ sym (same ∙ none.2)
      | inr gone ↦ sym gone
    ]

-- a part that is decided alone
pub decided_alone : (opening : Rows) (ms : Parted) (p : ℕ) (book : Rows) → AreApart opening ms → HasPart opening ms p book → IsDecidedAlone opening ms p book
decided_alone opening ms p book apart h =
    let all = goes_on opening ms p apart ms (λ m i. i) opening book (follows_itself opening) (part_agrees opening ms p book h) in
    record { replies = all.replies; needed = λ k own. sym (all.rows k (inl own)) }

-- rows of no part
others_left : (opening : Rows) (ms left : Parted) → ((m : ℕ × Frame) → IsIn m left → IsIn m ms) → (rows : Rows) → IsFollowing opening rows → (k : RowKey) → ((p : ℕ) → IsOfPart opening ms p k → ⊥) → map.get (rows_after rows (bodies left)) k ≡ map.get rows k
others_left opening ms [] within rows h k none = refl
others_left opening ms (m ∷ left) within rows h k none =
    others_left opening ms left (λ n i. within n (inr i)) (rows_after_one rows m.1) (follows_one opening rows h m.1) k none
    ∙ unwritten rows (writes_of rows m.1) k
    (each_of (λ w. IsIn w.0 (may_need opening m.1)) (λ w. k ≢ w.0) (writes_of rows m.1)
    (λ w needed same. none m.0 (m, within m (inl refl), refl, subst (λ (q : RowKey). IsIn q (may_need opening m.1)) (sym same) needed))
    (written_needed opening rows h m.1))

pub leaves_others : (opening : Rows) (ms : Parted) → LeavesOthers opening ms
leaves_others opening ms k none = others_left opening ms ms (λ m i. i) opening (follows_itself opening) k none
