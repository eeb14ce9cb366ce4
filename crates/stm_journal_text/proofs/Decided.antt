-- What the decision table gives on what was logged, and that a finish leads to one core.
use Rattle.std.proofs.Common.{◌≡◌, ◌≢◌, List, [], ◌∷◌, inl, inr, refl, sym, ap, ◌∙◌, subst, Option, Some, None, option_map, Bool, true, false, cond, Contains, zero, suc, arith, ◌⊎◌, Ok, Err}
use Rattle.std.proofs.lemmas.List.Elements.{All-from_recursion, recursion_from_All}
use Rattle.std.proofs.lemmas.Option.{none-some}
use Rattle.std.specs.FinMap as finite
use Rattle.std.specs.List.{AllByRecursion}
use Rattle.std.specs.Option.{option_flatten}
use Rattle.std.specs.Ordering.{eq_by_cmp}
use Rattle.issuer_words.specs.Words.{Agrees, AreRead, ComesTo, Executed, Frame, IsTrueExecution, Reads, RowKey, RowVal, Rows, decision, key_cmp, key_eq, keys_read}
use Rattle.issuer_view.specs.Words.{value_in}
use Rattle.stm_memory.specs.Entries.{IsNewLocation}
use Rattle.stm_core_laws.specs.Words.{AreLogged, FinishStep, IsAt, IsOfVersion, Log, Play, PlayStep}
use Rattle.stm_core_laws.specs.Words.{State, Version, logged_in, slot}
use Rattle.stm_core_laws.specs.declared.logged.Logged.{Logged}
use Rattle.issuer_rows.proofs.KeyLaws.{key_cmp_total, same_test}
use Rattle.stm_core_laws.proofs.Validations.{one_at}
use Rattle.stm_core_laws.proofs.Members.{Contains-nil}
use Rattle.stm_core_laws.specs.Run as call
use Rattle.stm_core_laws.specs.declared.core_fault.CoreFault.TheVariants.{OtherReads, Exhausted}
use Rattle.stm_journal_text.specs.Logged.{log_rows, logged_book, IsLogged, IsUndecided, IsUnlogged}
use Rattle.stm_journal_text.proofs.OneCall.{one_call}

-- one read more in the book of the logged rows
book_more : (rows : Rows) (row q : RowKey) (origin : Option Version) (value : Option RowVal) (rest : Option Logged) (t : Bool) → eq_by_cmp key_cmp q row ≡ t → finite.get rows q ≡ option_flatten (option_map (λ (l : Logged). l.value) rest)
    → finite.get (elim value [ None ↦ finite.remove rows row | Some v ↦ finite.insert rows row v ]) q ≡ option_flatten (option_map (λ (l : Logged). l.value) (cond t (Some (record { origin = origin; value = value })) rest))
book_more rows row q origin None rest true e h = finite.get-remove key_cmp_total rows row q ∙ ap (λ (b : Bool). cond b None (finite.get rows q)) e
book_more rows row q origin None rest false e h = finite.get-remove key_cmp_total rows row q ∙ ap (λ (b : Bool). cond b None (finite.get rows q)) e ∙ h
book_more rows row q origin (Some v) rest true e h = finite.get-insert key_cmp_total rows row v q ∙ ap (λ (b : Bool). cond b (Some v) (finite.get rows q)) e
book_more rows row q origin (Some v) rest false e h = finite.get-insert key_cmp_total rows row v q ∙ ap (λ (b : Bool). cond b (Some v) (finite.get rows q)) e ∙ h

-- a row of the book of the logged rows
pub get_logged : (log : Log) (row : RowKey) → finite.get (logged_book log) row ≡ log_rows log row
get_logged [] row = finite.get-empty key_cmp row
get_logged (read ∷ reads) row =
    book_more (logged_book reads) read.0 row read.1.origin read.1.value (value_in reads row) (key_eq row read.0) (same_test row read.0) (get_logged reads row)

-- what agrees with the book of the logged rows agrees with the log
pub agrees_log : (log : Log) (reads : Reads) → Agrees reads (finite.get (logged_book log)) → Agrees reads (log_rows log)
agrees_log log [] agrees = tt
agrees_log log (read ∷ reads) agrees = (sym (get_logged log read.0) ∙ agrees.0, agrees_log log reads agrees.1)

-- what was logged of these reads is what the logged rows are
agrees_with : (log : Log) (reads : Reads) → AreLogged log reads → Agrees reads (log_rows log)
agrees_with log reads logged = recursion_from_All (λ (read : RowKey × Option RowVal). log_rows log read.0 ≡ read.1) reads (λ k d l. ap option_flatten (logged k d l))

-- a true execution of logged reads is what the table gives on the logged rows
pub table_gives : (log : Log) (x : Executed) → IsTrueExecution x → AreLogged log x.reads → ComesTo (decision (log_rows log) x.frame) x.reads x.writes x.reply
table_gives log x true_one logged = true_one (log_rows log) (agrees_with log x.reads logged)

-- an execution of the same but for what it read
abbrev with_reads_of : Executed → Executed → Executed
with_reads_of x y = record { frame = x.frame; reads = y.reads; writes = x.writes; reply = x.reply }

-- two true executions of one version are the same but for what they read
same_but_reads : (s : State) (v : Version) (x y : Executed) → IsTrueExecution x → IsTrueExecution y → IsOfVersion s v x → IsOfVersion s v y → y ≡ with_reads_of x y
same_but_reads s v x y true_x true_y of_x of_y =
    let log = (slot s v.index).log in
    let frames : y.frame ≡ x.frame = one_at s.frames v.index y.frame x.frame of_y.0 of_x.0 in
    let gives_x = table_gives log x true_x of_x.1 in
    let gives_y = table_gives log y true_y of_y.1 in
    let writes : y.writes ≡ x.writes = sym gives_y.1 ∙ ap (λ (f : Frame). (decision (log_rows log) f).writes) frames ∙ gives_x.1 in
    let reply : y.reply ≡ x.reply = sym gives_y.0 ∙ ap (λ (f : Frame). (decision (log_rows log) f).reply) frames ∙ gives_x.0 in
    λ i. record { frame = frames i; reads = y.reads; writes = writes i; reply = reply i }

same_handed : (p : Play) (v : Version) (x : Executed) (handed also : Bool) (t w : Play) → PlayStep p (call.Finish v x (Ok handed)) t → PlayStep p (call.Finish v x (Ok also)) w → handed ≡ also
same_handed p v x handed also t w a b =
    elim a.0.1.2.2 [
      | inl located ↦ (a.1.1 located.0).0 ∙ sym (b.1.1 located.0).0
      | inr without ↦ (a.1.2 without.0).0 ∙ sym (b.1.2 without.0).0
    ]

-- a finish with another execution of the version is one with this execution
retold : (p : Play) (v : Version) (x y : Executed) (handed : Bool) (w : Play) → IsTrueExecution x → IsOfVersion p.state v x → PlayStep p (call.Finish v y (Ok handed)) w → PlayStep p (call.Finish v x (Ok handed)) w
retold p v x y handed w true_x of_x b =
    let same = same_but_reads p.state v x y true_x b.0.0 of_x b.0.1.1 in
    let again : PlayStep p (call.Finish v (with_reads_of x y) (Ok handed)) w = subst (λ (e : Executed). PlayStep p (call.Finish v e (Ok handed)) w) same b in
    ((true_x, (again.0.1.0, of_x, again.0.1.2)), again.1)

-- a finish leads to one core
pub one_finish : (p : Play) (v : Version) (x y : Executed) (handed also : Bool) (t w : Play) → PlayStep p (call.Finish v x (Ok handed)) t → PlayStep p (call.Finish v y (Ok also)) w → t ≡ w
one_finish p v x y handed also t w a b =
    let again = retold p v x y also w a.0.0 a.0.1.1 b in
    let same : handed ≡ also = same_handed p v x handed also t w a again in
    one_call p (call.Finish v x (Ok handed)) t w a (subst (λ (z : Bool). PlayStep p (call.Finish v x (Ok z)) w) (sym same) again)

-- a version finishes, or there is no epoch left for it
pub finish_or_exhausted : (p : Play) (v : Version) (x y : Executed) (handed : Bool) (t w : Play) → PlayStep p (call.Finish v x (Ok handed)) t → PlayStep p (call.Finish v y (Err Exhausted)) w → ⊥
finish_or_exhausted p v x y handed t w a b =
    let same = same_but_reads p.state v x y a.0.0 b.0.0 a.0.1.1 b.0.1.1 in
    let located : IsNewLocation p.state.entries v.index x.writes = subst (λ (e : Executed). IsNewLocation p.state.entries v.index e.writes) same b.0.1.2 in
    elim a.0.1.2.2 [ inl there ↦ there.1 b.0.1.3 | inr without ↦ without.0 located ]

full : (o : Option (Option RowVal)) (v : Option RowVal) → o ≢ None → option_flatten o ≡ v → o ≡ Some v
full None v some e = absurd (some refl)
full (Some w) v some e = ap (λ (z : Option RowVal). Some z) e

logged_each : (log : Log) (reads : Reads) → AllByRecursion (IsLogged log) (keys_read reads) → Agrees reads (log_rows log) → AllByRecursion (λ (read : RowKey × Option RowVal). logged_in log read.0 ≡ Some read.1) reads
logged_each log [] keys agrees = tt
logged_each log (read ∷ reads) keys agrees = (full (logged_in log read.0) read.1 keys.0 agrees.0, logged_each log reads keys.1 agrees.1)

-- where all that was read is all that is needed, an execution that is refused read a row that wasn't logged
pub undecided : (s : State) (v : Version) (x : Executed) (t : State) → IsAt s.frames v.index x.frame → keys_read x.reads ≡ (decision (log_rows (slot s v.index).log) x.frame).needs
    → Agrees x.reads (log_rows (slot s v.index).log) → FinishStep s v x (Err OtherReads) t → IsUnlogged s v
undecided s v x t at keys agrees step =
    let log = (slot s v.index).log in
    record {
      running = step.0;
      frame = x.frame;
      at = at;
      undecided = λ needs. step.1 (at, All-from_recursion (λ (read : RowKey × Option RowVal). logged_in log read.0 ≡ Some read.1) x.reads (logged_each log x.reads (subst (AllByRecursion (IsLogged log)) (sym keys) needs) agrees));
    }

-- what stands in a list is its head, or stands behind it
Contains-cons : {X : Type 0} (x : X) (xs : List X) (y : X) → Contains (x ∷ xs) y → (x ≡ y) ⊎ Contains xs y
Contains-cons x xs y (zero, l, e) = inl e
Contains-cons x xs y (suc k, l, e) = inr (k, omega (arith, l), e)

-- a row that was read was logged
read_was_logged : (log : Log) (reads : Reads) (key : RowKey) → AllByRecursion (λ (read : RowKey × Option RowVal). logged_in log read.0 ≡ Some read.1) reads → Contains (keys_read reads) key → IsLogged log key
read_was_logged log [] key logged c = absurd (Contains-nil key c)
read_was_logged log (read ∷ reads) key logged c =
    elim (Contains-cons read.0 (keys_read reads) key c) [
      | inl same ↦ λ none. none-some read.1 (sym none ∙ ap (logged_in log) (sym same) ∙ logged.0)
      | inr rest ↦ read_was_logged log reads key logged.1 rest
    ]

needs_logged : (log : Log) (reads : Reads) (needs : List RowKey) → AllByRecursion (λ (read : RowKey × Option RowVal). logged_in log read.0 ≡ Some read.1) reads → AreRead needs reads → AllByRecursion (IsLogged log) needs
needs_logged log reads [] logged read = tt
needs_logged log reads (key ∷ needs) logged read = (read_was_logged log reads key logged read.0, needs_logged log reads needs logged read.1)

-- an execution of the version shows that the table needs no row that wasn't logged
pub decided_there : (s : State) (v : Version) (x : Executed) → IsTrueExecution x → IsOfVersion s v x → ¬ IsUndecided (slot s v.index).log x.frame
decided_there s v x true_one of_x undone =
    let log = (slot s v.index).log in
    let logged : AllByRecursion (λ (read : RowKey × Option RowVal). logged_in log read.0 ≡ Some read.1) x.reads = recursion_from_All (λ (read : RowKey × Option RowVal). logged_in log read.0 ≡ Some read.1) x.reads of_x.1 in
    undone (needs_logged log x.reads (decision (log_rows log) x.frame).needs logged (table_gives log x true_one of_x.1).2)
