-- What is seen of a row is one thing, and is the same where the same stands.
use Rattle.std.proofs.Common.{◌≡◌, ℕ, ◌<◌, Option, Some, None, refl, sym, ap, ◌∙◌, inl, inr, arith}
use Rattle.std.proofs.lemmas.Bool.{cases_lt, cases_eq}
use Rattle.std.proofs.lemmas.Option.{none-some, same_Some}
use Rattle.issuer_rows.specs.declared.row_val.RowVal.{RowVal}
use Rattle.stm_memory.specs.Words.{Held, held_of, seen_by, seen_of, value_at}
use Rattle.stm_memory.specs.declared.link.Link.{Link}
use Rattle.stm_memory.specs.declared.seen.Seen.{Seen}
use Rattle.stm_memory.specs.Resolves.{AreNoneBetween, IsNearestBelow, row_under}
use Rattle.stm_memory.specs.declared.seen.Seen.TheVariants.{Base, Value, Estimate}

pub seen_alike : (column other : ℕ → Option Held) (index : ℕ) (seen : Seen) → ((i : ℕ) → column i ≡ other i) → IsNearestBelow column index seen → IsNearestBelow other index seen
seen_alike column other index Base same is = λ i l. sym (same i) ∙ is i l
seen_alike column other index (Value version value) same is = (is.0, sym (same version.index) ∙ is.1, λ i after l. sym (same i) ∙ is.2 i after l)
seen_alike column other index (Estimate at) same is = (is.0, (is.1.0, sym (same at) ∙ is.1.1, is.1.2), λ i after l. sym (same i) ∙ is.2 i after l)

-- what stands at the greatest index below
nearest_one : (column : ℕ → Option Held) (index i j : ℕ) (a b : Held) → i < index → j < index → column i ≡ Some a → column j ≡ Some b → ((k : ℕ) → i < k → k < index → column k ≡ None) → ((k : ℕ) → j < k → k < index → column k ≡ None) → i ≡ j
nearest_one column index i j a b l m at there above beyond =
    elim (cases_lt i j) [
      | inl below ↦ absurd (none-some b (sym (above j below m) ∙ there))
      | inr ge ↦ elim (cases_eq i j) [ inl same ↦ same | inr ne ↦ absurd (none-some a (sym (beyond i (omega arith) l) ∙ at)) ]
    ]

value_estimate : (a b : Held) (value : RowVal) → a ≡ b → a.value ≡ Some value → b.value ≡ None → ⊥
value_estimate a b value same is none = none-some value (sym none ∙ sym (ap (λ (h : Held). h.value) same) ∙ is)

-- whatever is seen, the row under it is the same
pub same_under : (column : ℕ → Option Held) (index : ℕ) (a b : Seen) (was : Option RowVal) → IsNearestBelow column index a → IsNearestBelow column index b → row_under was a ≡ row_under was b
same_under column index Base Base was p q = refl
same_under column index Base (Value version value) was p q = absurd (none-some _ (sym (p version.index q.0) ∙ q.1))
same_under column index Base (Estimate at) was p q = refl
same_under column index (Value version value) Base was p q = absurd (none-some _ (sym (q version.index p.0) ∙ p.1))
same_under column index (Value version value) (Value other more) was p q =
    let one = nearest_one column index version.index other.index (value_at version.incarnation value) (value_at other.incarnation more) p.0 q.0 p.1 q.1 p.2 q.2 in
    ap (λ (h : Held). h.value) (same_Some (value_at version.incarnation value) (value_at other.incarnation more) (sym p.1 ∙ ap column one ∙ q.1))
same_under column index (Value version value) (Estimate at) was p q =
    let one = nearest_one column index version.index at (value_at version.incarnation value) q.1.0 p.0 q.0 p.1 q.1.1 p.2 q.2 in
    absurd (value_estimate (value_at version.incarnation value) q.1.0 value (same_Some _ _ (sym p.1 ∙ ap column one ∙ q.1.1)) refl q.1.2)
same_under column index (Estimate at) Base was p q = refl
same_under column index (Estimate at) (Value version value) was p q =
    let one = nearest_one column index version.index at (value_at version.incarnation value) p.1.0 q.0 p.0 q.1 p.1.1 q.2 p.2 in
    absurd (value_estimate (value_at version.incarnation value) p.1.0 value (same_Some _ _ (sym q.1 ∙ ap column one ∙ p.1.1)) refl p.1.2)
same_under column index (Estimate at) (Estimate other) was p q = refl

-- a link that stands below the index, with nothing in between, is what is seen
pub seen_link : (column : ℕ → Option Held) (index : ℕ) (link : Link) → link.index < index → column link.index ≡ Some (held_of link) → AreNoneBetween column link.index index → IsNearestBelow column index (seen_of (Some link))
seen_link column index link below stands none =
    elim link.value as (λ v. link.value ≡ v → IsNearestBelow column index (seen_by link.index link.incarnation v)) [
      | None ↦ λ no_value. (below, (held_of link, stands, no_value), none)
      | Some value ↦ λ is. (below, stands ∙ ap (λ (v : Option RowVal). Some (record { incarnation = link.incarnation; value = v })) is, none)
    ] refl
