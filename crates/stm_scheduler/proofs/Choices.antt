-- The cursors choose one task, and one that a claim may be answered.
use Rattle.std.proofs.Common.{◌≡◌, ℕ, ◌<◌, ◌≤◌, ◌+◌, ◌⊎◌, inl, inr, length, refl, sym, arith}
use Rattle.stm_scheduler.specs.Board.{Board, IsOpen, IsReady}
use Rattle.stm_scheduler.specs.declared.task.Task.{Task}
use Rattle.stm_scheduler.specs.declared.task.Task.TheVariants as task
use Rattle.stm_scheduler.specs.Cursors.{Chooses, Validations, PassesValidation, Executes, PassesExecution, Nothing, IsAllowed, present}

-- what the cursors choose may be answered
pub Chooses-allowed : (b : Board) (e v : ℕ) (answer : Task) (f w : ℕ) → Chooses b e v answer f w → IsAllowed b answer
Chooses-allowed b _ _ _ _ _ (Validations e v l o) = o
Chooses-allowed b _ _ _ _ _ (PassesValidation e v answer f w l ne h) = Chooses-allowed b e (v + 1) answer f w h
Chooses-allowed b _ _ _ _ _ (Executes e v l r) = (r, refl)
Chooses-allowed b _ _ _ _ _ (PassesExecution e v answer f w l m ne h) = Chooses-allowed b (e + 1) v answer f w h
Chooses-allowed b _ _ _ _ _ (Nothing e v l m) = tt

-- the first line that applies, and what is left
abbrev First : Board → ℕ → ℕ → Task → ℕ → ℕ → Type 0
First b e v answer f w =
    ((v < e) × IsOpen b (present b v) × (answer ≡ task.Validate (present b v)) × (f ≡ e) × (w ≡ v + 1))
    ⊎ (((v < e) × ¬ IsOpen b (present b v) × Chooses b e (v + 1) answer f w)
    ⊎ (((e ≤ v) × IsReady b e × (answer ≡ task.Execute (present b e)) × (f ≡ e + 1) × (w ≡ v))
    ⊎ (((e ≤ v) × (e < length b.marks) × ¬ IsReady b e × Chooses b (e + 1) v answer f w)
    ⊎ ((e ≤ v) × (length b.marks ≤ e) × (answer ≡ task.Idle) × (f ≡ e) × (w ≡ v)))))

first : (b : Board) (e v : ℕ) (answer : Task) (f w : ℕ) → Chooses b e v answer f w → First b e v answer f w
first b _ _ _ _ _ (Validations e v l o) = inl (l, o, refl, refl, refl)
first b _ _ _ _ _ (PassesValidation e v answer f w l ne h) = inr (inl (l, ne, h))
first b _ _ _ _ _ (Executes e v l r) = inr (inr (inl (l, r, refl, refl, refl)))
first b _ _ _ _ _ (PassesExecution e v answer f w l m ne h) = inr (inr (inr (inl (l, m, ne, h))))
first b _ _ _ _ _ (Nothing e v l m) = inr (inr (inr (inr (l, m, refl, refl, refl))))

abbrev Same : Task → ℕ → ℕ → Task → ℕ → ℕ → Type 0
Same answer f w other g x = (answer ≡ other) × (f ≡ g) × (w ≡ x)

-- the choice is one
pub Chooses-unique : (b : Board) (e v : ℕ) (answer : Task) (f w : ℕ) → Chooses b e v answer f w → (other : Task) (g x : ℕ) → First b e v other g x → Same answer f w other g x
Chooses-unique b _ _ _ _ _ (Validations e v l o) other g x (inl h) = (sym h.2, sym h.3, sym h.4)
Chooses-unique b _ _ _ _ _ (Validations e v l o) other g x (inr (inl h)) = absurd (h.1 o)
Chooses-unique b _ _ _ _ _ (Validations e v l o) other g x (inr (inr (inl h))) = let k = h.0 in absurd (omega arith)
Chooses-unique b _ _ _ _ _ (Validations e v l o) other g x (inr (inr (inr (inl h)))) = let k = h.0 in absurd (omega arith)
Chooses-unique b _ _ _ _ _ (Validations e v l o) other g x (inr (inr (inr (inr h)))) = let k = h.0 in absurd (omega arith)
Chooses-unique b _ _ _ _ _ (PassesValidation e v answer f w l ne c) other g x (inl h) = absurd (ne h.1)
Chooses-unique b _ _ _ _ _ (PassesValidation e v answer f w l ne c) other g x (inr (inl h)) = Chooses-unique b e (v + 1) answer f w c other g x (first b e (v + 1) other g x h.2)
Chooses-unique b _ _ _ _ _ (PassesValidation e v answer f w l ne c) other g x (inr (inr (inl h))) = let k = h.0 in absurd (omega arith)
Chooses-unique b _ _ _ _ _ (PassesValidation e v answer f w l ne c) other g x (inr (inr (inr (inl h)))) = let k = h.0 in absurd (omega arith)
Chooses-unique b _ _ _ _ _ (PassesValidation e v answer f w l ne c) other g x (inr (inr (inr (inr h)))) = let k = h.0 in absurd (omega arith)
Chooses-unique b _ _ _ _ _ (Executes e v l r) other g x (inl h) = let k = h.0 in absurd (omega arith)
Chooses-unique b _ _ _ _ _ (Executes e v l r) other g x (inr (inl h)) = let k = h.0 in absurd (omega arith)
Chooses-unique b _ _ _ _ _ (Executes e v l r) other g x (inr (inr (inl h))) = (sym h.2, sym h.3, sym h.4)
Chooses-unique b _ _ _ _ _ (Executes e v l r) other g x (inr (inr (inr (inl h)))) = absurd (h.2 r)
Chooses-unique b _ _ _ _ _ (Executes e v l r) other g x (inr (inr (inr (inr h)))) = let k = h.1 in let n = r.0 in absurd (omega arith)
Chooses-unique b _ _ _ _ _ (PassesExecution e v answer f w l m ne c) other g x (inl h) = let k = h.0 in absurd (omega arith)
Chooses-unique b _ _ _ _ _ (PassesExecution e v answer f w l m ne c) other g x (inr (inl h)) = let k = h.0 in absurd (omega arith)
Chooses-unique b _ _ _ _ _ (PassesExecution e v answer f w l m ne c) other g x (inr (inr (inl h))) = absurd (ne h.1)
Chooses-unique b _ _ _ _ _ (PassesExecution e v answer f w l m ne c) other g x (inr (inr (inr (inl h)))) = Chooses-unique b (e + 1) v answer f w c other g x (first b (e + 1) v other g x h.3)
Chooses-unique b _ _ _ _ _ (PassesExecution e v answer f w l m ne c) other g x (inr (inr (inr (inr h)))) = let k = h.1 in absurd (omega arith)
Chooses-unique b _ _ _ _ _ (Nothing e v l m) other g x (inl h) = let k = h.0 in absurd (omega arith)
Chooses-unique b _ _ _ _ _ (Nothing e v l m) other g x (inr (inl h)) = let k = h.0 in absurd (omega arith)
Chooses-unique b _ _ _ _ _ (Nothing e v l m) other g x (inr (inr (inl h))) = let k = h.1.0 in absurd (omega arith)
Chooses-unique b _ _ _ _ _ (Nothing e v l m) other g x (inr (inr (inr (inl h)))) = let k = h.1 in absurd (omega arith)
Chooses-unique b _ _ _ _ _ (Nothing e v l m) other g x (inr (inr (inr (inr h)))) = (sym h.2, sym h.3, sym h.4)

pub choice-unique : (b : Board) (e v : ℕ) (answer : Task) (f w : ℕ) → Chooses b e v answer f w → (other : Task) (g x : ℕ) → Chooses b e v other g x → Same answer f w other g x
choice-unique b e v answer f w c other g x d = Chooses-unique b e v answer f w c other g x (first b e v other g x d)
