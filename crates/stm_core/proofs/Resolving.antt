-- What is seen determines whether a logged read stands, and whether there is an entry.
use Rattle.std.proofs.Common.{◌≡◌, ℕ, ◌+◌, refl, sym, ◌∙◌, subst, slice_get, take, Option, Some, None, IsSome}
use Rattle.std.proofs.lemmas.Bool.{false≢true}
use Rattle.std.proofs.lemmas.List.Elements.{All-more}
use Rattle.std.proofs.lemmas.Option.{get_or_from_slice_get, slice_get_within}
use Rattle.std.specs.FinMap as finite
use Rattle.issuer_rows.proofs.KeyLaws.{key_cmp_total, key_cmp_antisymmetric}
use Rattle.issuer_words.specs.Words.{Reads, RowKey, RowVal, Rows, Writes}
use Rattle.issuer_view.specs.Words.{IsOnceEach}
use Rattle.stm_memory.specs.Words.{Entries, IsLaidOver, IsNewLocation, Resolves, Shelf, held}
use Rattle.stm_memory.specs.Words.{seen_by, seen_of}
use Rattle.stm_core_laws.specs.Words.{AreLogged, Link, Log, ResolvesAs, Seen, Version, logged_in}
use Rattle.stm_memory.proofs.ListLaws.{standing, valued, written_is}
use Rattle.stm_memory.specs.declared.seen.Seen.TheVariants.{Base, Value, Estimate}
use Rattle.stm_core_laws.proofs.Unique.{Resolves-some, Resolves-unique}

-- what is seen is what this execution wrote, or the opening book where it is none
abbrev pub IsOrigin : Seen → Option Version → Type 0
IsOrigin Base None = Unit {0}
IsOrigin Base (Some w) = ⊥
IsOrigin (Value v value) None = ⊥
IsOrigin (Value v value) (Some w) = v ≡ w
IsOrigin (Estimate at) origin = ⊥

pub origin_only : (shelf : Shelf) (row : RowKey) (j : ℕ) (seen : Seen) (origin : Option Version) → Resolves shelf row j seen → ResolvesAs shelf row j origin → IsOrigin seen origin
origin_only shelf row j seen None r is = subst (λ (s : Seen). IsOrigin s None) (Resolves-unique shelf row j Base seen is r) tt
origin_only shelf row j seen (Some w) r is = subst (λ (s : Seen). IsOrigin s (Some w)) (Resolves-unique shelf row j (Value w is.0) seen is.1 r) refl

-- a link isn't the opening book
pub link_not_base : (link : Link) → IsOrigin (seen_of (Some link)) None → ⊥
link_not_base link is = elim link.value as (λ v. IsOrigin (seen_by link.index link.incarnation v) None → ⊥) [ None ↦ λ u. u | Some value ↦ λ u. u ] is

not_none : {X : Type 0} (o : Option X) → IsSome o → o ≡ None → ⊥
not_none o some none = false≢true (subst IsSome none some)

-- there is one book in which each row is as a message sees it
pub one_laid : (shelf : Shelf) (index : ℕ) (rows a b : Rows) → IsLaidOver shelf index rows a → IsLaidOver shelf index rows b → a ≡ b
one_laid shelf index rows a b laid other =
    finite.same_map key_cmp_total key_cmp_antisymmetric a b (λ row. let seen = Resolves-some shelf row index in laid row seen.0 seen.1 ∙ sym (other row seen.0 seen.1))

-- one more read was logged
pub AreLogged-more : (log : Log) (reads : Reads) (i : ℕ) (read : RowKey × Option RowVal) → slice_get reads i ≡ Some read → AreLogged log (take i reads) → logged_in log read.0 ≡ Some read.1 → AreLogged log (take (i + 1) reads)
AreLogged-more log reads i read is so_far here =
    All-more (λ (r : RowKey × Option RowVal). logged_in log r.0 ≡ Some r.1) reads i read (slice_get_within reads i read is) so_far
    (subst (λ (r : RowKey × Option RowVal). logged_in log r.0 ≡ Some r.1) (sym (get_or_from_slice_get reads i read read is)) here)

-- each row that is written has an entry of the index: no location is new
pub no_new_location : (entries : Entries) (index : ℕ) (writes : Writes) → IsOnceEach writes → ((k : ℕ) (write : RowKey × RowVal) → slice_get writes k ≡ Some write → IsSome (held entries write.0 index)) → ¬ IsNewLocation entries index writes
no_new_location entries index writes once all new =
    let there = standing writes new.0 new.1 (sym (written_is writes new.0 once) ∙ new.2) in
    not_none (held entries new.0 index) (all there.0 (new.0, new.1) there.1) new.3

none_of : {X : Type 0} (o : Option X) → ¬ IsSome o → o ≡ None
none_of None no_one = refl
none_of (Some x) no_one = absurd (no_one refl)

-- one that has none is a new location
pub new_location_at : (entries : Entries) (index : ℕ) (writes : Writes) (k : ℕ) (write : RowKey × RowVal) → IsOnceEach writes → slice_get writes k ≡ Some write → ¬ IsSome (held entries write.0 index) → IsNewLocation entries index writes
new_location_at entries index writes k write once at nothing =
    (write.0, write.1, written_is writes write.0 once ∙ valued writes k write once at, none_of (held entries write.0 index) nothing)
