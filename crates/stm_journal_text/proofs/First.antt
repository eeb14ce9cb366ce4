-- Where a journal plays, each of its entries is decided; and there is one first entry that isn't.
use Rattle.std.proofs.Common.{◌≡◌, ℕ, ◌<◌, List, [], ◌∷◌, ◌++◌, inl, inr, length, refl, sym, ap, ◌∙◌, subst, true, arith}
use Rattle.std.proofs.lemmas.Bool.{cases_lt, false≢true}
use Rattle.issuer_rows.specs.declared.frame.Frame.{Frame}
use Rattle.stm_core_laws.specs.Words.{Play, slot}
use Rattle.stm_journal_text.specs.Words.{Answers, IsFirstUnlogged, IsUndecided}
use Rattle.stm_journal_text.specs.Words.{IsUnloggedEvent, Plays, stands}
use Rattle.stm_journal_text.specs.declared.core_answer.CoreAnswer.{CoreAnswer}
use Rattle.stm_journal_text.specs.declared.entry.Entry.{Entry}
use Rattle.stm_journal_text.specs.declared.event.Event.{Event}
use Rattle.stm_journal_text.specs.declared.event.Event.TheVariants.{Finish}
use Rattle.stm_core_laws.proofs.Validations.{one_at}
use Rattle.stm_core_laws.specs.declared.core_fault.CoreFault.TheVariants.{NotRunning, OtherReads, Outdated, OutOfMemory, Exhausted}
use Rattle.stm_journal_text.specs.declared.core_answer.CoreAnswer.TheVariants.{Finished, Refused}
use Rattle.stm_journal_text.proofs.Decided.{decided_there}
use Rattle.stm_journal_text.proofs.OneEntry.{one_play}

-- such an event does not play
stuck : (p : Play) (seat : ℕ) (event : Event) (answer : CoreAnswer) (t : Play) → IsUnloggedEvent p.state event → stands answer ≡ true → Answers p seat event answer t → ⊥
stuck p seat (Finish v) (Finished handed) t un stand a =
    decided_there p.state v a.0 a.1.0.0 a.1.0.1.1 (subst (λ (f : Frame). IsUndecided (slot p.state v.index).log f) (one_at p.state.frames v.index un.frame a.0.frame un.at a.1.0.1.1.0) un.undecided)
stuck p seat (Finish v) (Refused Exhausted) t un stand a =
    decided_there p.state v a.0 a.1.0.0 a.1.0.1.1 (subst (λ (f : Frame). IsUndecided (slot p.state v.index).log f) (one_at p.state.frames v.index un.frame a.0.frame un.at a.1.0.1.1.0) un.undecided)
stuck p seat (Finish v) (Refused NotRunning) t un stand a = a.0 un.running
stuck p seat (Finish v) (Refused OutOfMemory) t un stand a = false≢true stand
stuck p seat (Finish v) (Refused OtherReads) t un stand a = false≢true stand
stuck p seat (Finish v) (Refused Outdated) t un stand a = a.1.0.1
stuck p seat (Finish v) answer t un stand a = a
stuck p seat event answer t un stand a = un

-- a play of two lists goes through the core between
Plays-split : (start : Play) (before after : List Entry) (t : Play) → Plays start (before ++ after) t → (mid : Play) × Plays start before mid × Plays mid after t
Plays-split start [] after t plays = (start, refl, plays)
Plays-split start (e ∷ before) after t plays =
    let rest = Plays-split plays.0 before after t plays.2 in
    (rest.0, (plays.0, plays.1, rest.1), rest.2)

-- where all entries play, each is decided
pub all_decided : (start : Play) (entries : List Entry) (t : Play) (n : ℕ) → Plays start entries t → IsFirstUnlogged start entries n → ⊥
all_decided start entries t n plays first =
    let parts = Plays-split start first.before (first.entry ∷ first.after) t (subst (λ (es : List Entry). Plays start es t) first.are plays) in
    let same : first.core ≡ parts.0 = one_play start first.before first.core parts.0 first.plays parts.1 in
    let un : IsUnloggedEvent parts.0.state first.entry.event = subst (λ (p : Play). IsUnloggedEvent p.state first.entry.event) same first.unlogged in
    stuck parts.0 first.entry.seat first.entry.event parts.2.1.0 parts.2.0 un parts.2.1.1 parts.2.1.2

same_head : {X : Type 0} (x y : X) (xs ys : List X) → x ∷ xs ≡ y ∷ ys → x ≡ y
same_head x y xs ys e = cc

same_tail : {X : Type 0} (x y : X) (xs ys : List X) → x ∷ xs ≡ y ∷ ys → xs ≡ ys
same_tail x y xs ys e = cc

-- of two splits of a list the longer begins with the shorter
longer : {X : Type 0} (xs : List X) (x : X) (rest : List X) (ys others : List X) → xs ++ x ∷ rest ≡ ys ++ others → length xs < length ys → (more : List X) × (ys ≡ xs ++ x ∷ more)
longer xs x rest [] others e l = absurd (omega arith)
longer [] x rest (y ∷ ys) others e l = (ys, ap (λ z. z ∷ ys) (sym (same_head x y rest (ys ++ others) e)))
longer (z ∷ xs) x rest (y ∷ ys) others e l =
    let under : length xs < length ys = omega arith in
    let tail = longer xs x rest ys others (same_tail z y (xs ++ x ∷ rest) (ys ++ others) e) under in
    (tail.0, ap (λ w. y ∷ w) tail.1 ∙ ap (λ w. w ∷ xs ++ x ∷ tail.0) (sym (same_head z y (xs ++ x ∷ rest) (ys ++ others) e)))

not_later : (start : Play) (entries : List Entry) (n m : ℕ) (one : IsFirstUnlogged start entries n) (other : IsFirstUnlogged start entries m) → length one.before < length other.before → ⊥
not_later start entries n m one other l =
    let more = longer one.before one.entry one.after other.before (other.entry ∷ other.after) (sym one.are ∙ other.are) l in
    all_decided start other.before other.core n other.plays
    (record { before = one.before; entry = one.entry; after = more.0; are = more.1; number = one.number; core = one.core; plays = one.plays; unlogged = one.unlogged })

-- there is one first
pub one_first : (start : Play) (entries : List Entry) (n m : ℕ) → IsFirstUnlogged start entries n → IsFirstUnlogged start entries m → n ≡ m
one_first start entries n m one other =
    elim (cases_lt (length one.before) (length other.before)) [
      | inl l ↦ absurd (not_later start entries n m one other l)
      | inr h ↦ elim (cases_lt (length other.before) (length one.before)) [
        | inl l ↦ absurd (not_later start entries m n other one l)
        | inr g ↦ let a = one.number in let b = other.number in omega arith
      ]
    ]
