-- What comes after its original went.
use Rattle.std.proofs.Common.{◌≡◌, ℕ, not, cond, List, Option, None, refl, sym, ap, ◌∙◌, subst}
use Rattle.std.specs.FinMap as map
use Rattle.issuer_words.specs.Words.{Advice, Identity, OriginalRow, Request, Reversal, RowKey, Rows, advice_on_original, carried_out, decision, identity_of, on_original, on_reversed, original_in}
use Rattle.issuer_laws.specs.Messages.{HasAction}
use Rattle.issuer_laws.specs.Repeated.{repeat_of_request, repeat_of_advice}
use Rattle.book_changes.specs.Archive.{new_rows}
use Rattle.book_changes.specs.Deciding.{HasGone, LateReversalIsLost, LateRequestIsNew, LateAdviceIsNew}
use Rattle.book_changes.proofs.Splitting.{get_new}

-- nothing is known of the identity
gone : (date : List ℕ) (rows : Rows) (identity : Identity) → HasGone date rows identity → original_in (map.get (new_rows date rows) (RowKey.Original identity)) ≡ None
gone date rows identity h =
    ap original_in (get_new date rows (RowKey.Original identity) ∙ ap (λ b. cond (not b) (map.get rows (RowKey.Original identity)) None) h)

pub late_reversal : (date : List ℕ) (rows : Rows) (v : Reversal) → LateReversalIsLost date rows v
unfolding decision
late_reversal date rows v h =
    subst (λ (row : Option OriginalRow). HasAction 914 (carried_out (on_reversed v row) (map.get (new_rows date rows))).reply) (sym (gone date rows v.original.identity h)) refl

pub late_request : (date : List ℕ) (rows : Rows) (r : Request) → LateRequestIsNew date rows r
unfolding decision
late_request date rows r h =
    let look = map.get (new_rows date rows) in
    let none = gone date rows (identity_of r.transaction) h in (
      ap (λ (row : Option OriginalRow). (carried_out (on_original (repeat_of_request r) row) look).reply) none
          ∙ ap (λ (row : Option OriginalRow). (carried_out (on_original r row) look).reply) (sym none),
      ap (λ (row : Option OriginalRow). (carried_out (on_original (repeat_of_request r) row) look).writes) none
          ∙ ap (λ (row : Option OriginalRow). (carried_out (on_original r row) look).writes) (sym none),
    )

pub late_advice : (date : List ℕ) (rows : Rows) (a : Advice) → LateAdviceIsNew date rows a
unfolding decision
late_advice date rows a h =
    let look = map.get (new_rows date rows) in
    let none = gone date rows (identity_of a.transaction) h in (
      ap (λ (row : Option OriginalRow). (carried_out (advice_on_original (repeat_of_advice a) row) look).reply) none
          ∙ ap (λ (row : Option OriginalRow). (carried_out (advice_on_original a row) look).reply) (sym none),
      ap (λ (row : Option OriginalRow). (carried_out (advice_on_original (repeat_of_advice a) row) look).writes) none
          ∙ ap (λ (row : Option OriginalRow). (carried_out (advice_on_original a row) look).writes) (sym none),
    )
