-- What the entries of versions 1 and 2 are read as.
use Rattle.std.proofs.Common.{◌≡◌, ℕ, ◌+◌, Bool, true, Option, Some, None, Result, Ok, Err, refl, sym, ap, subst, ◌∙◌, arith}
use Rattle.std.specs.Prelude.{codes}
use Rattle.std.proofs.lemmas.Bool.{false≢true}
use Rattle.std.proofs.lemmas.List.Sums.{sum_by-cons}
use Rattle.std.specs.List.{sum_by}
use Rattle.issuer_words.specs.Words.{Identity, KeptOriginal, Pan, is_from_account, kept_in, stay_if}
use Rattle.issuer_rows.specs.declared.row_key.RowKey.TheVariants as key
use Rattle.issuer_rows.specs.declared.row_val.RowVal.TheVariants as val
use Rattle.serde_json.specs.Data.{Data, Items, no_items, item}
use Rattle.book_laws.specs.Cards.{own_account}
use Rattle.book_laws.specs.Entries.{day_keys, day_of, budget_keys, budget_of, mark_keys, mark_of}
use Rattle.book_laws.specs.Fields.{with_keys, acquirer_at, action_at, amount_at, balance_at, count_at, day_at, identity_at, kind_at, mode_at, optional_approval_at, optional_identity_at, paid_at, pan_at, prefix_at, processing_at, stamp_at, stan_at}
use Rattle.book_laws.specs.Originals.{original_keys, original_entry_of, original_of, kept_of}
use Rattle.book_laws.specs.Parts.{has_card_money}
use Rattle.book_laws.specs.Steps.{◌>>=◌, or_fault}
use Rattle.book_laws.specs.declared.book_version.BookVersion.{BookVersion}
use Rattle.book_laws.specs.declared.book_version.BookVersion.TheVariants.{One, Two, Three}
use Rattle.book_laws.specs.declared.original_entry.OriginalEntry.{OriginalEntry}
use Rattle.book_laws.specs.declared.part.Part.TheVariants as part
use Rattle.book_laws.specs.declared.text_fault.TextFault.{TextFault}
use Rattle.book_laws.specs.declared.text_fault.TextFault.TheVariants.{Range}
use Rattle.book_changes.specs.Migration.{stay_from, with_read, read_all}
use Rattle.book_changes.proofs.OldOriginals.{kept_stays}
use Rattle.book_changes.proofs.Puts.{Row, IsPlain, total, bound, same_ok}

-- what was read, if it was, is so
abbrev pub Each : {A : Type 0} → (A → Type 0) → Result A TextFault → Type 0
Each P (Ok x) = P x
Each P (Err e) = Unit {0}

each_then : {A B : Type 0} (P : B → Type 0) (r : Result A TextFault) (f : A → Result B TextFault) → ((x : A) → Each P (f x)) → Each P (r >>= f)
each_then P (Ok x) f h = h x
each_then P (Err e) f h = tt

pub each_ok : {A : Type 0} (P : A → Type 0) (r : Result A TextFault) (x : A) → r ≡ Ok x → Each P r → P x
each_ok P r x is h = subst (Each P) is h

-- a row that is no account, and of which nothing stays paid
abbrev pub IsAside : Row → Type 0
IsAside row = IsPlain row × ((paid : KeptOriginal → Bool) → stay_if paid (kept_in row.0 row.1) ≡ 0)

pub day_aside : (d : Data) → Each IsAside (day_of d)
unfolding day_of
day_aside d = each_then IsAside (with_keys part.Days day_keys d) _ (λ x0. each_then IsAside (count_at part.Days (codes "count") d) _ (λ x1. each_then IsAside (day_at part.Days (codes "day") d) _ (λ x2. each_then IsAside (pan_at part.Days (codes "pan") d) _ (λ x3. each_then IsAside (balance_at part.Days (codes "sum") d) _ (λ x4. (record { money = refl; apart = λ id. refl }, λ paid. refl))))))

pub budget_aside : (d : Data) → Each IsAside (budget_of d)
unfolding budget_of
budget_aside d = each_then IsAside (with_keys part.Budgets budget_keys d) _ (λ x0. each_then IsAside (balance_at part.Budgets (codes "cap") d) _ (λ x1. each_then IsAside (balance_at part.Budgets (codes "left") d) _ (λ x2. each_then IsAside (mode_at part.Budgets (codes "mode") d) _ (λ x3. each_then IsAside (prefix_at part.Budgets (codes "prefix") d) _ (λ x4. (record { money = refl; apart = λ id. refl }, λ paid. refl))))))

pub mark_aside : (d : Data) → Each IsAside (mark_of d)
unfolding mark_of
mark_aside d = each_then IsAside (with_keys part.Ahead mark_keys d) _ (λ x0. each_then IsAside (acquirer_at part.Ahead (codes "acquirer") d) _ (λ x1. each_then IsAside (kind_at part.Ahead (codes "kind") d) _ (λ x2. each_then IsAside (pan_at part.Ahead (codes "pan") d) _ (λ x3. each_then IsAside (identity_at part.Ahead (codes "reversal") d) _ (λ x4. each_then IsAside (stamp_at part.Ahead (codes "stamp") d) _ (λ x5. each_then IsAside (stan_at part.Ahead (codes "trace") d) _ (λ x6. (record { money = refl; apart = λ id. refl }, λ paid. refl))))))))

-- versions 1 and 2 name no account that paid
abbrev NoAccount : Identity × OriginalEntry → Type 0
NoAccount found = found.1.account ≡ None

no_account : (version : BookVersion) (d : Data) → has_card_money version ≡ true → Each NoAccount (original_entry_of version d)
unfolding original_entry_of
no_account One d h = each_then NoAccount (with_keys part.Originals (original_keys One) d) _ (λ x0. each_then NoAccount (acquirer_at part.Originals (codes "acquirer") d) _ (λ x1. each_then NoAccount (action_at part.Originals (codes "action") d) _ (λ x2. each_then NoAccount (amount_at part.Originals (codes "amount") d) _ (λ x3. each_then NoAccount (optional_approval_at part.Originals (codes "approval") d) _ (λ x4. each_then NoAccount (kind_at part.Originals (codes "kind") d) _ (λ x5. each_then NoAccount (paid_at One part.Originals (codes "paid") d) _ (λ x6. each_then NoAccount (pan_at part.Originals (codes "pan") d) _ (λ x7. each_then NoAccount (processing_at part.Originals (codes "processing") d) _ (λ x8. each_then NoAccount (optional_identity_at part.Originals (codes "reversed") d) _ (λ x9. each_then NoAccount (stamp_at part.Originals (codes "stamp") d) _ (λ x10. each_then NoAccount (amount_at part.Originals (codes "stay") d) _ (λ x11. each_then NoAccount (stan_at part.Originals (codes "trace") d) _ (λ x12. refl)))))))))))))
no_account Two d h = each_then NoAccount (with_keys part.Originals (original_keys Two) d) _ (λ x0. each_then NoAccount (acquirer_at part.Originals (codes "acquirer") d) _ (λ x1. each_then NoAccount (action_at part.Originals (codes "action") d) _ (λ x2. each_then NoAccount (amount_at part.Originals (codes "amount") d) _ (λ x3. each_then NoAccount (optional_approval_at part.Originals (codes "approval") d) _ (λ x4. each_then NoAccount (kind_at part.Originals (codes "kind") d) _ (λ x5. each_then NoAccount (paid_at Two part.Originals (codes "paid") d) _ (λ x6. each_then NoAccount (pan_at part.Originals (codes "pan") d) _ (λ x7. each_then NoAccount (processing_at part.Originals (codes "processing") d) _ (λ x8. each_then NoAccount (optional_identity_at part.Originals (codes "reversed") d) _ (λ x9. each_then NoAccount (stamp_at part.Originals (codes "stamp") d) _ (λ x10. each_then NoAccount (amount_at part.Originals (codes "stay") d) _ (λ x11. each_then NoAccount (stan_at part.Originals (codes "trace") d) _ (λ x12. refl)))))))))))))
no_account Three d h = absurd (false≢true h)

-- what stays paid from the card, of an entry that was read
abbrev pub stay_read : Pan → Result (Identity × OriginalEntry) TextFault → ℕ
stay_read pan (Ok found) = stay_from pan found
stay_read pan (Err e) = 0

some_kept : (o : Option KeptOriginal) (k : KeptOriginal) → or_fault Range o ≡ Ok k → o ≡ Some k
some_kept (Some x) k h = ap Some (same_ok x k h)
some_kept None k h = absurd cc

pub original_row : (version : BookVersion) (d : Data) (row : Row) → has_card_money version ≡ true → original_of version d ≡ Ok row
    → IsPlain row × ((pan : Pan) → stay_if (is_from_account (own_account pan)) (kept_in row.0 row.1) ≡ stay_read pan (original_entry_of version d))
unfolding original_of
original_row version d row old h =
    let b = bound (original_entry_of version d) (λ found. or_fault Range (kept_of found.1) >>= λ kept. Ok (key.Original found.0, val.Kept kept)) row h in
    let c = bound (or_fault Range (kept_of b.0.1)) (λ kept. Ok (key.Original b.0.0, val.Kept kept)) row b.2 in
    let kept = some_kept (kept_of b.0.1) c.0 c.1 in
    let none = each_ok NoAccount (original_entry_of version d) b.0 b.1 (no_account version d old) in
    let made : Row = (key.Original b.0.0, val.Kept c.0) in
    let same : made ≡ row = same_ok made row c.2 in
    let plain : IsPlain made = record { money = refl; apart = λ id. refl } in (
      subst IsPlain same plain,
      λ pan.
          sym (ap (λ (r : Row). stay_if (is_from_account (own_account pan)) (kept_in r.0 r.1)) same) ∙ kept_stays b.0.1 c.0 pan none kept ∙ sym (ap (stay_read pan) b.1),
    )

-- what stays paid from a card, of all that was read
pub stays_total : (version : BookVersion) (pan : Pan) (items : Items) → total (λ d. stay_read pan (original_entry_of version d)) items ≡ sum_by (stay_from pan) (read_all (original_entry_of version) items)
stays_total version pan no_items = refl
stays_total version pan (item d ds) =
    let rest = stays_total version pan ds in
    elim (original_entry_of version d) as (λ r. stay_read pan r + total (λ e. stay_read pan (original_entry_of version e)) ds ≡ sum_by (stay_from pan) (with_read r (read_all (original_entry_of version) ds))) [
      | Ok found ↦ let more = sum_by-cons (stay_from pan) found (read_all (original_entry_of version) ds) in omega (arith, rest, more)
      | Err e ↦ omega (arith, rest)
    ]

pub nothing_total : (items : Items) → total (λ d. 0) items ≡ 0
nothing_total no_items = refl
nothing_total (item d ds) = let rest = nothing_total ds in omega (arith, rest)
