-- A call with its answer leads from a state to one state.
use Rattle.std.proofs.Common.{◌≡◌, ℕ, zero, suc, ◌<◌, Bool, true, false, inl, inr, refl, sym, ap, ap₂, ◌∙◌, subst, Option, Some, None, Result, Ok, Err, option_map, arith}
use Rattle.std.proofs.lemmas.Bool.{cases_eq, cases_lt}
use Rattle.std.proofs.lemmas.Option.{same_Some, none-some}
use Rattle.std.specs.FinMap as finite
use Rattle.stm_memory.proofs.Placed.{place_cmp_total, place_cmp_antisymmetric}
use Rattle.issuer_words.specs.Words.{Executed, RowKey, RowVal, Writes}
use Rattle.stm_memory.specs.Resolves.{Resolves}
use Rattle.stm_scheduler.specs.Board.{finished, lowered, passed}
use Rattle.stm_core_laws.specs.Log.{ResolvesAs, logged_of}
use Rattle.stm_core_laws.specs.Run.{Begin, Block, Call, Claim, Commit, End, Finish, Read, Step, ValidateOne}
use Rattle.stm_core_laws.specs.State.{State, shelf, slot, validation_of, with_validation}
use Rattle.stm_core_laws.specs.Step.{BeginStep, BlockStep, ClaimStep, CommitStep, EndStep, FinishStep, ReadStep, Validated, ValidationStep, with_execution, with_read, without_execution}
use Rattle.stm_core_laws.specs.declared.core_fault.CoreFault.{CoreFault}
use Rattle.stm_core_laws.specs.declared.got.Got.{Got}
use Rattle.stm_core_laws.specs.declared.logged.Logged.{Logged}
use Rattle.stm_core_laws.specs.declared.validation.Validation.{Validation}
use Rattle.stm_memory.specs.declared.seen.Seen.{Seen}
use Rattle.stm_memory.specs.declared.version.Version.{Version}
use Rattle.stm_scheduler.specs.declared.task.Task.{Task}
use Rattle.stm_core_laws.proofs.Validations.{one_at}
use Rattle.stm_memory.specs.Entries.{Shelf, value_at, estimate_of, place_of, Entries, AreReplaced, AreEstimated, AreKeptBut, written, Held}
use Rattle.stm_core_laws.specs.declared.core_fault.CoreFault.TheVariants.{NotRunning, OtherReads, Outdated, OutOfMemory, Exhausted}
use Rattle.stm_core_laws.specs.declared.got.Got.TheVariants as got
use Rattle.stm_memory.specs.declared.seen.Seen.TheVariants.{Base, Value, Estimate}
use Rattle.stm_scheduler.specs.declared.task.Task.TheVariants.{Execute, Validate, Idle, Done}

-- entries that answer alike are one
pub same_entries : (a b : Entries) → ((row : RowKey) (j : ℕ) → finite.get a (place_of row j) ≡ finite.get b (place_of row j)) → a ≡ b
same_entries a b h = finite.same_map place_cmp_total place_cmp_antisymmetric a b (λ q. h q.row q.index)

-- what is written in place of the entries of an index is one
by_index : (old a b : Entries) (i : ℕ) (now : RowKey → Option Held) → ((row : RowKey) → finite.get a (place_of row i) ≡ now row) → AreKeptBut i old a → ((row : RowKey) → finite.get b (place_of row i) ≡ now row) → AreKeptBut i old b → a ≡ b
by_index old a b i now own_a other_a own_b other_b =
    same_entries a b (λ row j. elim (cases_eq j i) [
      | inl e ↦ subst (λ (n : ℕ). finite.get a (place_of row n) ≡ finite.get b (place_of row n)) (sym e) (own_a row ∙ sym (own_b row))
      | inr ne ↦ other_a row j ne ∙ sym (other_b row j ne)
    ])

pub AreReplaced-unique : (v : Version) (writes : Writes) (old a b : Entries) → AreReplaced v writes old a → AreReplaced v writes old b → a ≡ b
AreReplaced-unique v writes old a b x y = by_index old a b v.index (λ row. option_map (value_at v.incarnation) (written writes row)) x.0 x.1 y.0 y.1

pub AreEstimated-unique : (i : ℕ) (old a b : Entries) → AreEstimated i old a → AreEstimated i old b → a ≡ b
AreEstimated-unique i old a b x y = by_index old a b i (λ row. option_map estimate_of (finite.get old (place_of row i))) x.0 x.1 y.0 y.1

-- this stands at i, below j, and nothing above it
abbrev Stands : Shelf → RowKey → ℕ → ℕ → Held → Type 0
Stands shelf row j i h = (i < j) × (shelf row i ≡ Some h) × ((k : ℕ) → i < k → k < j → shelf row k ≡ None)

-- the greatest is one
one_stands : (shelf : Shelf) (row : RowKey) (j i k : ℕ) (h other : Held) → Stands shelf row j i h → Stands shelf row j k other → (i ≡ k) × (h ≡ other)
one_stands shelf row j i k h other a b =
    elim (cases_lt i k) [
      | inl less ↦ absurd (none-some other (sym (a.2 k less b.0) ∙ b.1))
      | inr ge ↦ elim (cases_lt k i) [
        | inl more ↦ absurd (none-some h (sym (b.2 i more a.0) ∙ a.1))
        | inr le ↦ let same : i ≡ k = omega arith in (same, same_Some _ _ (sym a.1 ∙ subst (λ (n : ℕ). shelf row n ≡ Some other) (sym same) b.1))
      ]
    ]

-- where something stands below j, j does not see the base
no_base : (shelf : Shelf) (row : RowKey) (j i : ℕ) (h : Held) → ((k : ℕ) → k < j → shelf row k ≡ None) → Stands shelf row j i h → ⊥
no_base shelf row j i h none a = none-some h (sym (none i a.0) ∙ a.1)

-- a value in an entry, for what has to have one
abbrev value_in : RowVal → Option RowVal → RowVal
value_in value (Some x) = x
value_in value None = value

clash : (value : RowVal) → Some value ≡ None → ⊥
clash value e = none-some value (sym e)

value_not : (incarnation : ℕ) (value : RowVal) (h : Held) → value_at incarnation value ≡ h → h.value ≡ None → ⊥
value_not incarnation value h e is = clash value (ap (λ (x : Held). x.value) e ∙ is)

same_value : (v w : Version) (x y : RowVal) → (v.index ≡ w.index) × (value_at v.incarnation x ≡ value_at w.incarnation y) → Value v x ≡ Value w y
same_value v w x y h =
    let incarnations : v.incarnation ≡ w.incarnation = ap (λ (z : Held). z.incarnation) h.1 in
    let values : x ≡ y = ap (λ (z : Held). value_in x z.value) h.1 in
    λ i. Value (record { index = h.0 i; incarnation = incarnations i }) (values i)

-- what is seen is one
pub Resolves-unique : (shelf : Shelf) (row : RowKey) (j : ℕ) (a b : Seen) → Resolves shelf row j a → Resolves shelf row j b → a ≡ b
Resolves-unique shelf row j Base Base x y = refl
Resolves-unique shelf row j Base (Value w value) x y = absurd (no_base shelf row j w.index (value_at w.incarnation value) x y)
Resolves-unique shelf row j Base (Estimate at) x y = absurd (no_base shelf row j at y.1.0 x (y.0, y.1.1, y.2))
Resolves-unique shelf row j (Value v value) Base x y = absurd (no_base shelf row j v.index (value_at v.incarnation value) y x)
Resolves-unique shelf row j (Value v value) (Value w other) x y =
    same_value v w value other (one_stands shelf row j v.index w.index (value_at v.incarnation value) (value_at w.incarnation other) x y)
Resolves-unique shelf row j (Value v value) (Estimate at) x y =
    let same = one_stands shelf row j v.index at (value_at v.incarnation value) y.1.0 x (y.0, y.1.1, y.2) in
    absurd (value_not v.incarnation value y.1.0 same.1 y.1.2)
Resolves-unique shelf row j (Estimate at) Base x y = absurd (no_base shelf row j at x.1.0 y (x.0, x.1.1, x.2))
Resolves-unique shelf row j (Estimate at) (Value w other) x y =
    let same = one_stands shelf row j w.index at (value_at w.incarnation other) x.1.0 y (x.0, x.1.1, x.2) in
    absurd (value_not w.incarnation other x.1.0 same.1 x.1.2)
Resolves-unique shelf row j (Estimate at) (Estimate other) x y =
    ap Estimate (one_stands shelf row j at other x.1.0 y.1.0 (x.0, x.1.1, x.2) (y.0, y.1.1, y.2)).0

-- two that are equal to a third
both : {X : Type 0} (a b c : X) → a ≡ c → b ≡ c → a ≡ b
both a b c e f = e ∙ sym f

unique-ClaimStep : (old : State) (task : Task) (a b : State) → ClaimStep old task a → ClaimStep old task b → a ≡ b
unique-ClaimStep old Done a b x y = both a b _ x.1 y.1
unique-ClaimStep old (Execute v) a b x y = both a b _ x.3 y.3
unique-ClaimStep old (Validate v) a b x y = both a b _ x.2 y.2
unique-ClaimStep old Idle a b x y = both a b _ x.1 y.1

unique-ReadStep : (old : State) (v : Version) (row : RowKey) (answer : Result Got CoreFault) (a b : State) → ReadStep old v row answer a → ReadStep old v row answer b → a ≡ b
unique-ReadStep old v row (Ok (got.Row value)) a b x y =
    elim x.1 [
      | inl again ↦ elim y.1 [
        | inl too ↦ both a b _ again.1 too.1
        | inr first ↦ absurd (none-some value (sym first.2.0 ∙ again.0))
      ]
      | inr first ↦ elim y.1 [
        | inl again ↦ absurd (none-some value (sym first.2.0 ∙ again.0))
        | inr too ↦
            let seen : first.0 ≡ too.0 = Resolves-unique (shelf old) row v.index first.0 too.0 first.2.1 too.2.1 in
            let logged : first.1 ≡ too.1 = same_Some _ _ (sym first.3 ∙ ap (logged_of old.opening row) seen ∙ too.3) in
            first.5 ∙ ap (with_read old v row) logged ∙ sym too.5
      ]
    ]
unique-ReadStep old v row (Ok (got.Estimate at)) a b x y = both a b _ x.2 y.2
unique-ReadStep old v row (Err NotRunning) a b x y = both a b _ x.1 y.1
unique-ReadStep old v row (Err OutOfMemory) a b x y = both a b _ x.2 y.2
unique-ReadStep old v row answer a b x y = absurd x

unique-BlockStep : (old : State) (v : Version) (on : ℕ) (answer : Result (Unit {0}) CoreFault) (a b : State) → BlockStep old v on answer a → BlockStep old v on answer b → a ≡ b
unique-BlockStep old v on (Ok u) a b x y =
    elim x.2 [
      | inl waits ↦ elim y.2 [ inl too ↦ both a b _ waits.1 too.1 | inr goes ↦ absurd (goes.0 waits.0) ]
      | inr goes ↦ elim y.2 [ inl waits ↦ absurd (goes.0 waits.0) | inr too ↦ both a b _ goes.1 too.1 ]
    ]
unique-BlockStep old v on (Err NotRunning) a b x y = both a b _ x.1 y.1
unique-BlockStep old v on (Err Exhausted) a b x y = both a b _ x.2 y.2
unique-BlockStep old v on answer a b x y = absurd x

unique-FinishStep : (old : State) (v : Version) (x : Executed) (answer : Result Bool CoreFault) (a b : State) → FinishStep old v x answer a → FinishStep old v x answer b → a ≡ b
unique-FinishStep old v x (Ok handed) a b p q =
    let entries : p.2.0 ≡ q.2.0 = AreReplaced-unique v x.writes old.entries p.2.0 q.2.0 p.2.1 q.2.1 in
    elim p.2.2 [
      | inl located ↦ elim q.2.2 [
        | inl too ↦ located.3 ∙ ap (λ (es : Entries). with_execution old v x es (lowered (finished old.board v.index) v.index)) entries ∙ sym too.3
        | inr without ↦ absurd (without.0 located.0)
      ]
      | inr without ↦ elim q.2.2 [
        | inl located ↦ absurd (without.0 located.0)
        | inr too ↦ without.1 ∙ ap (λ (es : Entries). with_execution old v x es (finished old.board v.index)) entries ∙ sym too.1
      ]
    ]
unique-FinishStep old v x (Err NotRunning) a b p q = both a b _ p.1 q.1
unique-FinishStep old v x (Err OtherReads) a b p q = both a b _ p.2 q.2
unique-FinishStep old v x (Err Exhausted) a b p q = both a b _ p.4 q.4
unique-FinishStep old v x (Err OutOfMemory) a b p q = both a b _ p.3 q.3
unique-FinishStep old v x (Err Outdated) a b p q = absurd p

unique-BeginStep : (old : State) (seat : ℕ) (v : Version) (answer : Result Bool CoreFault) (a b : State) → BeginStep old seat v answer a → BeginStep old seat v answer b → a ≡ b
unique-BeginStep old seat v (Ok ended) a b x y = both a b _ x.2 y.2
unique-BeginStep old seat v (Err Outdated) a b x y = both a b _ x.1 y.1
unique-BeginStep old seat v answer a b x y = absurd x

-- the validation after its next read is one
pub Validated-unique : (s : State) (c m n : Validation) → Validated s c m → Validated s c n → m ≡ n
Validated-unique s c m n x y =
    let reads : x.0 ≡ y.0 = one_at (slot s c.version.index).log c.place x.0 y.0 x.1 y.1 in
    let same : ResolvesAs (shelf s) x.0.0 c.version.index x.0.1.origin ≡ ResolvesAs (shelf s) y.0.0 c.version.index y.0.1.origin = ap (λ (r : RowKey × Logged). ResolvesAs (shelf s) r.0 c.version.index r.1.origin) reads in
    elim x.2 [
      | inl stays ↦ elim y.2 [ inl too ↦ both m n _ stays.1 too.1 | inr fails ↦ absurd (fails.0 (subst (λ (r : RowKey × Logged). ResolvesAs (shelf s) r.0 c.version.index r.1.origin) reads stays.0)) ]
      | inr fails ↦ elim y.2 [ inl stays ↦ absurd (fails.0 (subst (λ (r : RowKey × Logged). ResolvesAs (shelf s) r.0 c.version.index r.1.origin) (sym reads) stays.0)) | inr too ↦ both m n _ fails.1 too.1 ]
    ]

-- a seat has one validation
pub one_validation : (s : State) (seat : ℕ) (c d : Validation) → validation_of s seat ≡ Some c → validation_of s seat ≡ Some d → c ≡ d
one_validation s seat c d e f = same_Some _ _ (sym e ∙ f)

unique-ValidationStep : (old : State) (seat : ℕ) (answer : Result Bool CoreFault) (a b : State) → ValidationStep old seat answer a → ValidationStep old seat answer b → a ≡ b
unique-ValidationStep old seat (Ok ended) a b x y =
    let validations : x.0 ≡ y.0 = one_validation old seat x.0 y.0 x.2.0 y.2.0 in
    let next : x.1 ≡ y.1 = Validated-unique old x.0 x.1 y.1 x.4 (subst (λ (c : Validation). Validated old c y.1) (sym validations) y.4) in
    x.6 ∙ ap (λ (c : Validation). with_validation old seat (Some c)) next ∙ sym y.6
unique-ValidationStep old seat (Err NotRunning) a b x y = both a b _ x.1 y.1
unique-ValidationStep old seat (Err Outdated) a b x y = both a b _ x.1 y.1
unique-ValidationStep old seat answer a b x y = absurd x

unique-EndStep : (old : State) (seat : ℕ) (answer : Result Bool CoreFault) (a b : State) → EndStep old seat answer a → EndStep old seat answer b → a ≡ b
unique-EndStep old seat (Ok true) a b x y =
    let validations : x.0 ≡ y.0 = one_validation old seat x.0 y.0 x.1.0 y.1.0 in
    x.4 ∙ ap (λ (c : Validation). with_validation (record old { board = passed old.board c.version.index c.began }) seat None) validations ∙ sym y.4
unique-EndStep old seat (Ok false) a b x y =
    let validations : x.0 ≡ y.0 = one_validation old seat x.0 y.0 x.1.0 y.1.0 in
    let entries : x.5.0 ≡ y.5.0 = AreEstimated-unique x.0.version.index old.entries x.5.0 y.5.0 x.5.1 (subst (λ (c : Validation). AreEstimated c.version.index old.entries y.5.0) (sym validations) y.5.1) in
    x.5.2 ∙ ap₂ (λ (c : Validation) (es : Entries). with_validation (without_execution old c.version.index es) seat None) validations entries ∙ sym y.5.2
unique-EndStep old seat (Err NotRunning) a b x y = both a b _ x.1 y.1
unique-EndStep old seat (Err Outdated) a b x y = both a b _ x.1 y.1
unique-EndStep old seat (Err Exhausted) a b x y = both a b _ x.1 y.1
unique-EndStep old seat answer a b x y = absurd x

unique-CommitStep : (old : State) (answer : Bool) (a b : State) → CommitStep old answer a → CommitStep old answer b → a ≡ b
unique-CommitStep old true a b x y = both a b _ x.2 y.2
unique-CommitStep old false a b x y = both a b _ x.1 y.1

-- a call with its answer leads to one state
pub unique-Step : (old : State) (call : Call) (a b : State) → Step old call a → Step old call b → a ≡ b
unique-Step old (Claim task) a b x y = unique-ClaimStep old task a b x y
unique-Step old (Read v row answer) a b x y = unique-ReadStep old v row answer a b x y
unique-Step old (Block v on answer) a b x y = unique-BlockStep old v on answer a b x y
unique-Step old (Finish v execution answer) a b x y = unique-FinishStep old v execution answer a b x.1 y.1
unique-Step old (Begin seat v answer) a b x y = unique-BeginStep old seat v answer a b x.1 y.1
unique-Step old (ValidateOne seat answer) a b x y = unique-ValidationStep old seat answer a b x.1 y.1
unique-Step old (End seat answer) a b x y = unique-EndStep old seat answer a b x.1 y.1
unique-Step old (Commit answer) a b x y = unique-CommitStep old answer a b x y

none_at : (shelf : Shelf) (row : RowKey) (j i : ℕ) → shelf row j ≡ None → i < suc j → (i < j → shelf row i ≡ None) → shelf row i ≡ None
none_at shelf row j i e l below =
    elim (cases_lt i j) [
      | inl less ↦ below less
      | inr ge ↦ let same : j ≡ i = omega arith in subst (λ (n : ℕ). shelf row n ≡ None) same e
    ]

-- what j sees, j + 1 sees where nothing stands at j
further : (shelf : Shelf) (row : RowKey) (j : ℕ) (seen : Seen) → shelf row j ≡ None → Resolves shelf row j seen → Resolves shelf row (suc j) seen
further shelf row j Base e r = λ i l. none_at shelf row j i e l (r i)
further shelf row j (Value v value) e r = (let l = r.0 in omega arith, r.1, λ i a l. none_at shelf row j i e l (r.2 i a))
further shelf row j (Estimate at) e r = (let l = r.0 in omega arith, r.1, λ i a l. none_at shelf row j i e l (r.2 i a))

of_content : (shelf : Shelf) (row : RowKey) (j incarnation : ℕ) (c : Option RowVal) → shelf row j ≡ Some (record { incarnation = incarnation; value = c }) → (seen : Seen) × Resolves shelf row (suc j) seen
of_content shelf row j incarnation (Some value) e = (Value (record { index = j; incarnation = incarnation }) value, (omega arith, e, λ i a l. absurd (omega arith)))
of_content shelf row j incarnation None e = (Estimate j, (omega arith, (record { incarnation = incarnation; value = None }, e, refl), λ i a l. absurd (omega arith)))

at_top : (shelf : Shelf) (row : RowKey) (j : ℕ) (o : Option Held) → shelf row j ≡ o → (seen : Seen) × Resolves shelf row j seen → (seen : Seen) × Resolves shelf row (suc j) seen
at_top shelf row j None e below = (below.0, further shelf row j below.0 e below.1)
at_top shelf row j (Some h) e below = of_content shelf row j h.incarnation h.value e

-- j + 1 sees what stands at j, or what j sees
pub Resolves-some : (shelf : Shelf) (row : RowKey) (j : ℕ) → (seen : Seen) × Resolves shelf row j seen
Resolves-some shelf row zero = (Base, λ i l. absurd (omega (arith, l)))
Resolves-some shelf row (suc j) = at_top shelf row j (shelf row j) refl (Resolves-some shelf row j)
