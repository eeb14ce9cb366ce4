-- A log in two parts: the first reads, found by their keys, and those behind them.
use Rattle.std.proofs.Common.{◌≡◌, ℕ, zero, suc, ◌+◌, ◌<◌, take, Bool, true, false, cond, List, [], ◌∷◌, ◌++◌, length, get_or, Option, Some, None, IfSome, Result, Ok, Err, OnOk, OnErr, map, append_assoc, refl, sym, ap, ◌∙◌, subst, Bor, arith}
use Rattle.std.proofs.lemmas.Option.{none-some}
use Rattle.std.specs.Option.{option_copied}
use Rattle.issuer_words.specs.Words.{Frame, IsOfKind, RowKey, key_eq}
use Rattle.issuer_view.specs.Words.{value_in}
use Rattle.stm_core_laws.specs.State.{ExecutionSlot, Log, empty_slot}
use Rattle.stm_core_laws.specs.declared.logged.Logged.{Logged}
use Rattle.issuer_view.proofs.KindLaws.{found_suits}
use Rattle.stm_core.specs.Origin.{log_of, pair_of, AreOfKind}
use Rattle.stm_core.specs.declared.read.Read.{Read}

-- the first read of the row is found
pub found_few : (few : List Read) (more : Log) (row : RowKey) (place : ℕ) (d : Read) → place < length few → ((j : ℕ) → j < place → key_eq row (get_or few j d).row ≡ false) → key_eq row (get_or few place d).row ≡ true → value_in (log_of few more) row ≡ Some (get_or few place d).logged
found_few [] more row place d l none same = absurd (omega arith)
found_few (read ∷ few) more row zero d l none same = ap (λ (b : Bool). cond b (Some read.logged) (value_in (log_of few more) row)) same
found_few (read ∷ few) more row (suc place) d l none same =
    ap (λ (b : Bool). cond b (Some read.logged) (value_in (log_of few more) row)) (none 0 (omega arith))
    ∙ found_few few more row place d (omega arith) (λ j m. none (suc j) (omega arith)) same

-- where none of the first reads is the row's, it is among those behind them
pub passed_few : (few : List Read) (more : Log) (row : RowKey) → ((j : ℕ) (d : Read) → j < length few → key_eq row (get_or few j d).row ≡ false) → value_in (log_of few more) row ≡ value_in more row
passed_few [] more row none = refl
passed_few (read ∷ few) more row none =
    ap (λ (b : Bool). cond b (Some read.logged) (value_in (log_of few more) row)) (none 0 read (omega arith))
    ∙ passed_few few more row (λ j d l. none (suc j) d (omega arith))

-- a row that isn't in the log isn't in its second part
pub none_behind : (few : List Read) (more : Log) (row : RowKey) → value_in (log_of few more) row ≡ None → value_in more row ≡ None
none_behind [] more row none = none
none_behind (read ∷ few) more row none =
    elim (key_eq row read.row) as (λ b. cond b (Some read.logged) (value_in (log_of few more) row) ≡ None → value_in more row ≡ None) [
      | true ↦ λ e. absurd (none-some read.logged (sym e))
      | false ↦ λ e. none_behind few more row e
    ] none

-- nothing is in an empty log
pub nothing_in : (log : Log) (row : RowKey) → length log ≡ 0 → value_in log row ≡ None
nothing_in [] row empty = refl
nothing_in (read ∷ log) row empty = absurd (omega arith)

-- what is found is of its row's kind
pub found_of_kind : (log : Log) (row : RowKey) (found : Option Logged) → AreOfKind log → found ≡ value_in log row → IfSome found (λ logged. IfSome logged.value (IsOfKind row))
found_of_kind log row found kinds is =
    subst (λ (o : Option Logged). IfSome o (λ logged. IfSome logged.value (IsOfKind row))) (sym is)
    (found_suits (λ k l. IfSome l.value (IsOfKind k)) log row kinds)

-- the same where it is lent
pub kind_copied : (row : RowKey) (found : Option (Bor Logged)) → IfSome (option_copied found) (λ logged. IfSome logged.value (IsOfKind row)) → IfSome found (λ logged. IfSome logged.now.value (IsOfKind row))
kind_copied row None kinds = tt
kind_copied row (Some logged) kinds = kinds

-- the second part alone
pub kinds_behind : (few : List Read) (more : Log) → AreOfKind (log_of few more) → AreOfKind more
kinds_behind [] more kinds = kinds
kinds_behind (read ∷ few) more kinds = kinds_behind few more kinds.1

-- one more read behind the first ones, where none stands behind them
pub log_of_more : (few : List Read) (more : Log) (read : Read) → length more ≡ 0 → log_of (few ++ read ∷ []) more ≡ log_of few more ++ pair_of read ∷ []
log_of_more [] [] read empty = refl
log_of_more [] (other ∷ more) read empty = absurd (omega arith)
log_of_more (other ∷ few) more read empty = ap (λ (log : Log). pair_of other ∷ log) (log_of_more few more read empty)

kinds_more : (log : Log) (read : RowKey × Logged) → AreOfKind log → IfSome read.1.value (IsOfKind read.0) → AreOfKind (log ++ read ∷ [])
kinds_more [] read kinds kind = (kind, tt)
kinds_more (other ∷ log) read kinds kind = (kinds.0, kinds_more log read kinds.1 kind)

module _ {T E : Type 0} where
  -- what follows of what holds after a success, or after an error
  pub ok_then : {P Q : Type 0} (r : Result T E) → (P → Q) → OnOk r P → OnOk r Q
  ok_then (Ok x) f p = f p
  ok_then (Err e) f p = tt

  pub err_then : {P Q : Type 0} (r : Result T E) → (P → Q) → OnErr r P → OnErr r Q
  err_then (Ok x) f p = tt
  err_then (Err e) f p = f p

  -- one more read after a success, and none after an error
  pub kinds_after : (r : Result T E) (log new : Log) (read : RowKey × Logged) → OnOk r (new ≡ log ++ read ∷ []) → OnErr r (new ≡ log) → AreOfKind log → IfSome read.1.value (IsOfKind read.0) → AreOfKind new
  kinds_after (Ok x) log new read more same kinds kind = subst AreOfKind (sym more) (kinds_more log read kinds kind)
  kinds_after (Err e) log new read more same kinds kind = subst AreOfKind (sym same) kinds

module _ {T E : Type 0} (r : Result T E) (few : List Read) (more now : Log) (viewed : log_of few more ≡ now) where
  -- one more read among the first ones, where none stands behind them
  pub first_more : (new : List Read) (read : Read) → length more ≡ 0 → OnOk r (new ≡ few ++ read ∷ []) → OnOk r (log_of new more ≡ now ++ pair_of read ∷ [])
  first_more new read empty = ok_then r (λ e. ap (λ (reads : List Read). log_of reads more) e ∙ log_of_more few more read empty ∙ ap (λ (log : Log). log ++ pair_of read ∷ []) viewed)

  pub first_same : (new : List Read) → OnErr r (new ≡ few) → OnErr r (log_of new more ≡ now)
  first_same new = err_then r (λ e. ap (λ (reads : List Read). log_of reads more) e ∙ viewed)

  -- one more read behind the first ones
  pub behind_more : (new : Log) (read : RowKey × Logged) → OnOk r (new ≡ more ++ read ∷ []) → OnOk r (log_of few new ≡ now ++ read ∷ [])
  behind_more new read = ok_then r (λ e. ap (log_of few) e ∙ sym (append_assoc (map pair_of few) more (read ∷ [])) ∙ ap (λ (log : Log). log ++ read ∷ []) viewed)

  pub behind_same : (new : Log) → OnErr r (new ≡ more) → OnErr r (log_of few new ≡ now)
  behind_same new = err_then r (λ e. ap (log_of few) e ∙ viewed)

-- a slot for one more frame
next_slot : (frames : List Frame) (i : ℕ) → i < length frames → map (λ _. empty_slot) (take i frames) ++ empty_slot ∷ [] ≡ map (λ _. empty_slot) (take (suc i) frames)
next_slot [] i l = absurd (omega (arith, l))
next_slot (frame ∷ frames) zero l = refl
next_slot (frame ∷ frames) (suc i) l = ap (λ (slots : List ExecutionSlot). empty_slot ∷ slots) (next_slot frames i (omega (arith, l)))

pub slots_more : (frames : List Frame) (i : ℕ) (slots new : List ExecutionSlot) (slot : ExecutionSlot) → i < length frames → slots ≡ map (λ _. empty_slot) (take i frames) → slot ≡ empty_slot → new ≡ slots ++ slot ∷ [] → new ≡ map (λ _. empty_slot) (take (i + 1) frames)
slots_more frames i slots new slot l made empty put =
    let one_more : suc i ≡ i + 1 = omega arith in
    put ∙ (λ j. made j ++ empty j ∷ []) ∙ next_slot frames i l ∙ ap (λ (n : ℕ). map (λ _. empty_slot) (take n frames)) one_more
