-- What a message sees of a row stays, where below it values stay and empty places stay empty.
use Rattle.std.proofs.Common.{◌≡◌, ◌≢◌, ℕ, ◌<◌, ◌⊎◌, inl, inr, refl, sym, ap, ◌∙◌, Option, Some, None, option_map}
use Rattle.std.proofs.lemmas.Option.{same_Some, none-some}
use Rattle.issuer_words.specs.Words.{RowKey, RowVal}
use Rattle.stm_memory.specs.Entries.{Held, Shelf, estimate_of, value_at}
use Rattle.stm_core_laws.specs.Words.{Log, Resolve, ResolvesAs}
use Rattle.stm_memory.specs.declared.version.Version.{Version}

-- below j, empty places stay empty, and values stay
abbrev pub Keeps : Shelf → Shelf → ℕ → Type 0
Keeps old new j =
    (row : RowKey) (i : ℕ) → i < j → (old row i ≡ None → new row i ≡ None) × ((incarnation : ℕ) (value : RowVal) → old row i ≡ Some (value_at incarnation value) → new row i ≡ Some (value_at incarnation value))

-- where nothing changes below j, that is so
pub Keeps-same : (old new : Shelf) (j : ℕ) → ((row : RowKey) (i : ℕ) → i < j → new row i ≡ old row i) → Keeps old new j
Keeps-same old new j same row i l = (λ e. same row i l ∙ e, λ incarnation value e. same row i l ∙ e)

-- one row
pub ResolvesAs-kept : (old new : Shelf) (row : RowKey) (j : ℕ) (origin : Option Version) → Keeps old new j → ResolvesAs old row j origin → ResolvesAs new row j origin
ResolvesAs-kept old new row j None keeps r = λ i l. (keeps row i l).0 (r i l)
ResolvesAs-kept old new row j (Some v) keeps r =
    (r.0, (r.1.0, (keeps row v.index r.1.0).1 v.incarnation r.0 r.1.1, λ i after l. (keeps row i l).0 (r.1.2 i after l)))

-- the first reads of a log
pub Resolve-kept : (old new : Shelf) (j : ℕ) (log : Log) (count : ℕ) → Keeps old new j → Resolve old j log count → Resolve new j log count
Resolve-kept old new j log count keeps r k read l at = ResolvesAs-kept old new read.0 j read.1.origin keeps (r k read l at)

-- an option is empty or not
pub option_cases : {X : Type 0} (o : Option X) → (o ≡ None) ⊎ ((x : X) × (o ≡ Some x))
option_cases None = inl refl
option_cases (Some x) = inr (x, refl)

-- values are no ESTIMATEs
pub value_not_estimate : {X : Type 0} (value : X) → Some value ≢ None
value_not_estimate value e = none-some value (sym e)

-- a value that stands where one incarnation's values stand is of that incarnation
pub incarnation_of_value : (incarnation other : ℕ) (o : Option RowVal) (value : RowVal) → option_map (value_at incarnation) o ≡ Some (value_at other value) → incarnation ≡ other
incarnation_of_value incarnation other None value e = absurd (none-some _ e)
incarnation_of_value incarnation other (Some x) value e = ap (λ (h : Held). h.incarnation) (same_Some _ _ e)

-- and it is what was written
pub value_put : (incarnation other : ℕ) (o : Option RowVal) (value : RowVal) → option_map (value_at incarnation) o ≡ Some (value_at other value) → o ≡ Some value
value_put incarnation other None value e = absurd (none-some _ e)
value_put incarnation other (Some x) value e =
    ap (λ (h : Held). h.value) (same_Some _ _ e)

-- nothing stands where nothing was written
pub nothing_put : (incarnation : ℕ) (o : Option RowVal) → option_map (value_at incarnation) o ≡ None → o ≡ None
nothing_put incarnation None e = refl
nothing_put incarnation (Some x) e = absurd (none-some _ (sym e))

-- what stands where there are ESTIMATEs is an ESTIMATE
pub estimate_stands : (o : Option Held) (h : Held) → option_map estimate_of o ≡ Some h → h.value ≡ None
estimate_stands None h e = absurd (none-some _ e)
estimate_stands (Some x) h e = ap (λ (y : Held). y.value) (sym (same_Some _ _ e))

-- and no value
pub no_value_stands : (o : Option Held) (incarnation : ℕ) (value : RowVal) → option_map estimate_of o ≡ Some (value_at incarnation value) → ⊥
no_value_stands o incarnation value e = value_not_estimate value (estimate_stands o (value_at incarnation value) e)
