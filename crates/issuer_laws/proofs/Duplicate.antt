-- An original that has a reversal stays as it is, so another reversal of it is a duplicate.
use Rattle.std.proofs.Common.{◌≡◌, ◌≢◌, ℕ, Bool, true, false, if◌then◌else◌, ◌&&◌, ◌-◌, List, [], ◌∷◌, Option, Some, inl, inr, refl, sym, ap, ◌∙◌, subst, arith}
use Rattle.std.proofs.lemmas.Bool.{and_parts, and_right}
use Rattle.std.specs.FinMap as map
use Rattle.issuer_words.specs.Words.{Frame, Identity, KeptOriginal, Lookup, OriginalKind, OriginalRow, Pan, ReplyBody, Reversal, Rows, Writes, decision, given_back, identity_of, is_named, is_same_card, is_same_identity, is_same_kind, kind_of_outcome, on_reversal, on_reversed, original_in, overlay, reply_to_reversal, reversal_of_outcome, reversal_plan, rows_after, rows_after_one, settled, text_eq, unchanged}
use Rattle.issuer_rows.proofs.PutsOnce.{IsFresh}
use Rattle.issuer_rows.specs.declared.original_row.OriginalRow.TheVariants as original
use Rattle.issuer_rows.specs.declared.row_key.RowKey.TheVariants as key
use Rattle.issuer_rows.specs.declared.row_val.RowVal.TheVariants as val
use Rattle.issuer_laws.proofs.Keys.{texts_same, original_stands, Outcomes, comes_to}
use Rattle.issuer_laws.proofs.Permanent.{rest_fresh, has_reversal, same_kind, stays_kept}
use Rattle.issuer_laws.proofs.ReversalWays.{IsReversalDecided, reversal_ways}
use Rattle.issuer_laws.specs.Duplicate.{IsAnotherReversal, IsDuplicate, SecondIsDuplicate}
use Rattle.issuer_laws.specs.Messages.{reversal_frame, HasAction}
use Rattle.issuer_laws.specs.Permanent.{IsKeptAt, Continues}

-- the original of this identity, which has this reversal, stands in the book
pub record HasReversal (rows : Rows) (identity : Identity) (k : KeptOriginal) (by : Identity) : Type 0 where
  pub stands : IsKeptAt rows identity k
  pub reversal : reversal_of_outcome k.outcome ≡ Some by

-- one that has a reversal isn't reversed again
as_before : (k later : KeptOriginal) (by : Identity) → reversal_of_outcome k.outcome ≡ Some by → Continues k later → later ≡ k
as_before k later by s (inl same) = same
as_before k later by s (inr reversed) = let none = reversed.unreversed in absurd (cc)

-- whatever comes, it stays
stays : (frames : List Frame) (rows : Rows) (identity : Identity) (k : KeptOriginal) (by : Identity) → HasReversal rows identity k by → HasReversal (rows_after rows frames) identity k by
stays frames rows identity k by h =
    let kept = stays_kept frames rows identity k h.stands in
    record { stands = subst (IsKeptAt (rows_after rows frames) identity) (as_before k kept.0 by h.reversal kept.2) kept.1; reversal = h.reversal }

still_named : (v : Reversal) (k : KeptOriginal) (by : Identity) (n : ℕ) → is_named v k ≡ true → is_named v (settled k by n) ≡ true
still_named v k by n e = ap (λ (o : OriginalKind). is_same_card k.card v.transaction.pan && is_same_kind o v.original.kind) (same_kind k.outcome by n) ∙ e

same_identity : (a b : Identity) → is_same_identity a b ≡ true → a ≡ b
same_identity a b h =
    let h1 = and_parts (text_eq a.acquirer.0 b.acquirer.0) (text_eq a.stan.0 b.stan.0 && text_eq a.stamp b.stamp) h in
    let h2 = and_parts (text_eq a.stan.0 b.stan.0) (text_eq a.stamp b.stamp) h1.1 in
    let acquirers = texts_same a.acquirer.0 b.acquirer.0 h1.0 in
    let stans = texts_same a.stan.0 b.stan.0 h2.0 in
    let stamps = texts_same a.stamp b.stamp h2.1 in
    λ i. record { acquirer = record { 0 = acquirers i }; stan = record { 0 = stans i }; stamp = stamps i }

other_identity : (a b : Identity) → a ≢ b → is_same_identity a b ≡ false
other_identity a b apart =
    elim (is_same_identity a b) as (λ t. is_same_identity a b ≡ t → t ≡ false) [
      | true ↦ λ e. absurd (apart (same_identity a b e))
      | false ↦ λ e. refl
    ] refl

-- what a reversal that is answered 400 leaves
pub record WasReversed (rows : Rows) (v : Reversal) (k : KeptOriginal) : Type 0 where
  pub has : HasReversal rows v.original.identity k (identity_of v.transaction)
  pub named : is_named v k ≡ true

not_400 : (v : Reversal) (action : ℕ) (reply : ReplyBody) → action ≢ 400 → reply ≡ reply_to_reversal v action → HasAction 400 reply → ⊥
not_400 v action reply other e h = other (subst (HasAction 400) e h)

-- after an original was reversed, and written
settled_stands : (rows : Rows) (v : Reversal) (k : KeptOriginal) (n : ℕ) (writes rest : Writes) → is_named v k ≡ true → writes ≡ (key.Original v.original.identity, val.Kept (settled k (identity_of v.transaction) n)) ∷ rest → IsFresh 3 rest → WasReversed (overlay rows writes) v (settled k (identity_of v.transaction) n)
settled_stands rows v k n writes rest named e fresh = record {
  has = record { stands = original_stands rows v.original.identity (val.Kept (settled k (identity_of v.transaction) n)) writes rest e fresh; reversal = has_reversal k.outcome (identity_of v.transaction) n };
  named = still_named v k (identity_of v.transaction) n named;
}

-- where a reversal is answered 400, the original has it as its reversal
pub was_reversed : (rows : Rows) (v : Reversal) (reply : ReplyBody) (writes : Writes) → IsReversalDecided v (map.get rows) reply writes → HasAction 400 reply → (k : KeptOriginal) × WasReversed (overlay rows writes) v k
was_reversed rows v reply writes (inl w) h = absurd (not_400 v w.action reply w.refused w.reply h)
was_reversed rows v reply writes (inr (inl w)) h = absurd (not_400 v 914 reply (λ e. absurd (omega arith)) w.reply h)
was_reversed rows v reply writes (inr (inr (inl w))) h =
    let same = same_identity w.by (identity_of v.transaction) w.own in
    (w.kept, subst (λ (ws : Writes). WasReversed (overlay rows ws) v w.kept) (sym w.writes) (record { has = record { stands = w.names.stands; reversal = w.names.reversal ∙ ap Some same }; named = w.names.named }))
was_reversed rows v reply writes (inr (inr (inr (inl w)))) h =
    (settled w.kept (identity_of v.transaction) 0, settled_stands rows v w.kept 0 writes [] w.names.named w.writes tt)
was_reversed rows v reply writes (inr (inr (inr (inr s)))) h =
    (settled s.kept (identity_of v.transaction) (s.kept.amount - given_back v s.kept), settled_stands rows v s.kept (s.kept.amount - given_back v s.kept) writes _ s.names.named s.writes (rest_fresh v s.kept s.paid s.day))

-- another reversal names the same original
named_again : (v w : Reversal) (k : KeptOriginal) → IsAnotherReversal v w → is_named v k ≡ true → is_named w k ≡ true
named_again v w k h e = ap (λ (p : Pan). is_same_card k.card p && is_same_kind (kind_of_outcome k.outcome) w.original.kind) h.card ∙ ap (λ (o : OriginalKind). is_same_card k.card v.transaction.pan && is_same_kind (kind_of_outcome k.outcome) o) h.kind ∙ e

duplicate_comes : (look : Lookup) (w : Reversal) (k : KeptOriginal) (by : Identity) → original_in (look (key.Original w.original.identity)) ≡ Some (original.Kept k) → reversal_of_outcome k.outcome ≡ Some by → is_named w k ≡ true → is_same_identity by (identity_of w.transaction) ≡ false → comes_to (reversal_plan w) look ≡ (reply_to_reversal w 913, [])
duplicate_comes look w k by stands reversal named other =
    ap (λ (o : Option OriginalRow). comes_to (on_reversed w o) look) stands
    ∙ ap (λ (b : Bool). comes_to (if b then on_reversal w k (reversal_of_outcome k.outcome) else unchanged w 914) look) named
    ∙ ap (λ (o : Option Identity). comes_to (on_reversal w k o) look) reversal
    ∙ ap (λ (b : Bool). comes_to (if b then unchanged w 400 else unchanged w 913) look) (and_right w.repeat (is_same_identity by (identity_of w.transaction)) other)

duplicate_there : (rows : Rows) (v w : Reversal) (k : KeptOriginal) → IsAnotherReversal v w → HasReversal rows v.original.identity k (identity_of v.transaction) → is_named v k ≡ true → IsDuplicate rows w
unfolding decision
duplicate_there rows v w k h has named =
    let comes = duplicate_comes (map.get rows) w k (identity_of v.transaction) (ap (λ (i : Identity). original_in (map.get rows (key.Original i))) h.original ∙ has.stands) has.reversal (named_again v w k h named) (other_identity (identity_of v.transaction) (identity_of w.transaction) (λ e. h.own (sym e))) in
    (subst (HasAction 913) (sym (ap (λ (o : Outcomes). o.0) comes)) refl, ap (λ (o : Outcomes). o.1) comes)

-- a second reversal
pub second_is_duplicate : (rows : Rows) (first second : Reversal) (between : List Frame) → SecondIsDuplicate rows first between second
unfolding decision
second_is_duplicate rows first second between accepted h =
    let was = was_reversed rows first _ _ (reversal_ways first (map.get rows)) accepted in
    duplicate_there (rows_after (rows_after_one rows (reversal_frame first)) between) first second was.0 h
    (stays between (rows_after_one rows (reversal_frame first)) first.original.identity was.0 (identity_of first.transaction) was.1.has) was.1.named
