-- What stands under a key behind rows of which one is of its kind.
use Rattle.std.proofs.Common.{◌≡◌, ◌≢◌, ℕ, [], ◌∷◌, ◌++◌, Some, ◌⊎◌, inl, inr, refl, sym, ap, ◌∙◌, subst}
use Rattle.std.specs.FinMap as map
use Rattle.issuer_rows.proofs.PutsOnce.{IsFresh}
use Rattle.issuer_words.specs.Words.{RowKey, RowVal, Rows, Writes, kind_of, overlay}
use Rattle.issuer_laws.proofs.Keys.{get-put, get-other, get-fresh, same_or_other}

-- of the rows of this kind this one alone is written
pub record WritesOne (kind : ℕ) (ws : Writes) (k : RowKey) (v : RowVal) : Type 0 where
  pub front : Writes
  pub rest : Writes
  pub all : ws ≡ front ++ (k, v) ∷ rest
  pub fresh_front : IsFresh kind front
  pub fresh_rest : IsFresh kind rest

overlay_append : (rows : Rows) (front rest : Writes) → overlay rows (front ++ rest) ≡ overlay (overlay rows front) rest
overlay_append rows [] rest = refl
overlay_append rows (w ∷ ws) rest = overlay_append (map.insert rows w.0 w.1) ws rest

fresh_as : (kind other : ℕ) (ws : Writes) → other ≡ kind → IsFresh kind ws → IsFresh other ws
fresh_as kind other ws e fresh = subst (λ n. IsFresh n ws) (sym e) fresh

behind_front : (rows : Rows) (ws : Writes) (k : RowKey) (v : RowVal) (h : WritesOne (kind_of k) ws k v) (q : RowKey) → kind_of q ≡ kind_of k → map.get (overlay rows ws) q ≡ map.get (map.insert (overlay rows h.front) k v) q
behind_front rows ws k v h q same =
    ap (λ (w : Writes). map.get (overlay rows w) q) h.all
    ∙ ap (λ (r : Rows). map.get r q) (overlay_append rows h.front ((k, v) ∷ h.rest))
    ∙ get-fresh (map.insert (overlay rows h.front) k v) h.rest q (fresh_as (kind_of k) (kind_of q) h.rest same h.fresh_rest)

-- of what is written under keys of its kind, a key has the value that was written there, or what it had
pub value_behind : (rows : Rows) (ws : Writes) (k : RowKey) (v : RowVal) (q : RowKey) → kind_of q ≡ kind_of k → WritesOne (kind_of k) ws k v → ((q ≡ k) × (map.get (overlay rows ws) q ≡ Some v)) ⊎ (map.get (overlay rows ws) q ≡ map.get rows q)
value_behind rows ws k v q same h =
    elim (same_or_other q k) [
      | inl own ↦ inl (own, behind_front rows ws k v h q same ∙ ap (map.get (map.insert (overlay rows h.front) k v)) own ∙ get-put (overlay rows h.front) k v)
      | inr other ↦ inr (behind_front rows ws k v h q same ∙ get-other (overlay rows h.front) k v q other ∙ get-fresh rows h.front q (fresh_as (kind_of k) (kind_of q) h.front same h.fresh_front))
    ]

-- the key under which it was written has the value that was written
pub value_there : (rows : Rows) (ws : Writes) (k : RowKey) (v : RowVal) → WritesOne (kind_of k) ws k v → map.get (overlay rows ws) k ≡ Some v
value_there rows ws k v h = behind_front rows ws k v h k refl ∙ get-put (overlay rows h.front) k v

-- another key of its kind has what it had
pub value_other : (rows : Rows) (ws : Writes) (k : RowKey) (v : RowVal) (q : RowKey) → kind_of q ≡ kind_of k → WritesOne (kind_of k) ws k v → q ≢ k → map.get (overlay rows ws) q ≡ map.get rows q
value_other rows ws k v q same h other =
    behind_front rows ws k v h q same ∙ get-other (overlay rows h.front) k v q other ∙ get-fresh rows h.front q (fresh_as (kind_of k) (kind_of q) h.front same h.fresh_front)
