-- The rows that were logged, and the first that wasn't.
use Rattle.std.proofs.Common.{◌≡◌, ℕ, suc, ◌+◌, List, [], ◌∷◌, ◌++◌, take, drop, get_or, slice_get, Option, Some, None, refl, sym, ap, ◌∙◌, subst, add-one, take-append-drop}
use Rattle.std.proofs.Math.Seq.{drop-cons}
use Rattle.std.proofs.lemmas.List.{take_more}
use Rattle.std.proofs.lemmas.Option.{slice_get_within, get_or_from_slice_get}
use Rattle.std.specs.List.{AllByRecursion}
use Rattle.issuer_words.specs.Words.{Reads, RowKey, RowVal, keys_read}
use Rattle.stm_core_laws.specs.Words.{Log, logged_in}
use Rattle.stm_journal_text.specs.Logged.{IsLogged}
use Rattle.stm_journal.specs.Turns.{IsFirstUnlogged}

-- one more row of a list was logged
pub logged_more : (log : Log) (rows : List RowKey) (row : RowKey) → AllByRecursion (IsLogged log) rows → IsLogged log row → AllByRecursion (IsLogged log) (rows ++ row ∷ [])
logged_more log [] row all one = (one, tt)
logged_more log (first ∷ rows) row all one = (all.0, logged_more log rows row all.1 one)

keys_of_both : (before after : Reads) → keys_read (before ++ after) ≡ keys_read before ++ keys_read after
keys_of_both [] after = refl
keys_of_both (read ∷ before) after = ap (λ (keys : List RowKey). read.0 ∷ keys) (keys_of_both before after)

-- the rows before a place and the one there
keys_more : (reads : Reads) (i : ℕ) (read : RowKey × Option RowVal) → slice_get reads i ≡ Some read → keys_read (take (i + 1) reads) ≡ keys_read (take i reads) ++ read.0 ∷ []
keys_more reads i read at =
    ap keys_read (take_more reads i read (slice_get_within reads i read at)) ∙ keys_of_both (take i reads) (get_or reads i read ∷ [])
    ∙ ap (λ (r : RowKey × Option RowVal). keys_read (take i reads) ++ r.0 ∷ []) (get_or_from_slice_get reads i read read at)

-- where a row was logged, all up to it were
pub logged_past : (log : Log) (reads : Reads) (i : ℕ) (read : RowKey × Option RowVal) → slice_get reads i ≡ Some read → AllByRecursion (IsLogged log) (keys_read (take i reads)) → IsLogged log read.0
    → AllByRecursion (IsLogged log) (keys_read (take (i + 1) reads))
logged_past log reads i read at all one = subst (AllByRecursion (IsLogged log)) (sym (keys_more reads i read at)) (logged_more log (keys_read (take i reads)) read.0 all one)

left_at : (reads : Reads) (i : ℕ) (read : RowKey × Option RowVal) → slice_get reads i ≡ Some read → drop i reads ≡ read ∷ drop (i + 1) reads
left_at reads i read at = rw add-one (drop-cons reads i read (slice_get_within reads i read at) ∙ ap (λ (r : RowKey × Option RowVal). r ∷ drop (suc i) reads) (get_or_from_slice_get reads i read read at))

-- the row at a place is the first that wasn't logged, where those before it were
pub first_at : (log : Log) (reads : Reads) (i : ℕ) (read : RowKey × Option RowVal) → slice_get reads i ≡ Some read → AllByRecursion (IsLogged log) (keys_read (take i reads)) → logged_in log read.0 ≡ None
    → IsFirstUnlogged log (keys_read reads) read.0
first_at log reads i read at logged none =
    let parts : take i reads ++ read ∷ drop (i + 1) reads ≡ reads = ap (λ (rs : Reads). take i reads ++ rs) (sym (left_at reads i read at)) ∙ take-append-drop i reads in (
      keys_read (take i reads),
      keys_read (drop (i + 1) reads),
      ap keys_read (sym parts) ∙ keys_of_both (take i reads) (read ∷ drop (i + 1) reads),
      logged,
      λ some. some none,
    )
