-- One turn more.
use Rattle.std.proofs.Common.{◌≡◌, ℕ, ◌+◌, ◌<◌, List, [], ◌∷◌, ◌++◌, length, take, get_or, refl, sym, ap, ◌∙◌, subst, inl, inr, append_assoc, get_or-set_same, get_or-set_other}
use Rattle.std.proofs.lemmas.Bool.{cases_eq, cases_lt}
use Rattle.std.proofs.lemmas.List.{append-nil, take_more, get_or_past, get_or-replicate}
use Rattle.std.specs.Prelude.{slice_set}
use Rattle.stm_journal_text.specs.declared.entry.Entry.{Entry}
use Rattle.stm_core_laws.specs.Play.{Play}
use Rattle.stm_journal.specs.Drives.{Hands, IsDriven, empty_hands, hand}
use Rattle.stm_journal.specs.Turns.{IsTurn, IsOfMessage}
use Rattle.stm_journal.specs.declared.holding.Holding.{Holding}
use Rattle.stm_journal.specs.declared.holding.Holding.TheVariants as holds

IsDriven-push : (old : Play) (before : Hands) (turns : List ℕ) (entries : List Entry) (mid : Play) (between : Hands) (seat : ℕ) (made : List Entry) (next : Holding) (new : Play) → IsDriven old before turns entries mid between
    → IsTurn mid seat (hand between seat) made next new → IsDriven old before (turns ++ seat ∷ []) (entries ++ made) new (slice_set between seat next)
IsDriven-push old before [] entries mid between seat made next new driven turn = (
  made,
  [],
  next,
  new,
  ap (λ (es : List Entry). es ++ made) driven.0 ∙ sym (append-nil made),
  subst (λ (p : Play). IsTurn p seat (hand before seat) made next new) driven.1 (subst (λ (hands : Hands). IsTurn mid seat (hand hands seat) made next new) driven.2 turn),
  (refl, refl, ap (λ (hands : Hands). slice_set hands seat next) driven.2),
)
IsDriven-push old before (first ∷ turns) entries mid between seat made next new driven turn = (
  driven.0,
  driven.1 ++ made,
  driven.2,
  driven.3,
  ap (λ (es : List Entry). es ++ made) driven.4 ∙ append_assoc driven.0 driven.1 made,
  driven.5,
  IsDriven-push driven.3 (slice_set before first driven.2) turns driven.1 mid between seat made next new driven.6 turn,
)

-- the turn at a place of the list
pub IsDriven-more : (old : Play) (before : Hands) (turns : List ℕ) (i : ℕ) (entries after : List Entry) (mid : Play) (between : Hands) (seat : ℕ) (made : List Entry) (next : Holding) (new : Play) → i < length turns → seat ≡ get_or turns i seat
    → IsDriven old before (take i turns) entries mid between → after ≡ entries ++ made → IsTurn mid seat (hand between seat) made next new → IsDriven old before (take (i + 1) turns) after new (slice_set between seat next)
IsDriven-more old before turns i entries after mid between seat made next new l is driven are turn =
    let push = IsDriven-push old before (take i turns) entries mid between seat made next new driven turn in
    subst (λ (es : List Entry). IsDriven old before (take (i + 1) turns) es new (slice_set between seat next)) (sym are)
    (subst (λ (ts : List ℕ). IsDriven old before ts (entries ++ made) new (slice_set between seat next)) (sym (take_more turns i seat l ∙ ap (λ (x : ℕ). take i turns ++ x ∷ []) (sym is))) push)

-- what each seat holds is of one of so many messages
abbrev pub AreOfMessages : ℕ → Hands → Type 0
AreOfMessages n hands = (seat : ℕ) → IsOfMessage n (hand hands seat)

-- empty hands hold none
pub AreOfMessages-empty : (n : ℕ) → AreOfMessages n empty_hands
AreOfMessages-empty n seat =
    elim (cases_lt seat 64) [
      | inl l ↦ subst (IsOfMessage n) (sym (get_or-replicate 64 seat holds.Nothing holds.Nothing l)) tt
      | inr past ↦ subst (IsOfMessage n) (sym (get_or_past empty_hands seat holds.Nothing past)) tt
    ]

-- the same after one of them holds something else
pub AreOfMessages-set : (n : ℕ) (hands : Hands) (seat : ℕ) (next : Holding) → seat < length hands → AreOfMessages n hands → IsOfMessage n next → AreOfMessages n (slice_set hands seat next)
AreOfMessages-set n hands seat next l all one other =
    elim (cases_eq other seat) [
      | inl same ↦ subst (λ (k : ℕ). IsOfMessage n (hand (slice_set hands seat next) k)) (sym same) (subst (IsOfMessage n) (sym (get_or-set_same hands seat next holds.Nothing l)) one)
      | inr apart ↦ subst (IsOfMessage n) (sym (get_or-set_other hands seat other next holds.Nothing apart)) (all other)
    ]
