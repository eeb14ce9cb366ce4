-- Both books are the book.
use Rattle.std.proofs.Common.{◌≡◌, ◌≢◌, ℕ, Bool, true, false, ◌||◌, not, cond, List, Option, Some, None, refl, ◌∙◌}
use Rattle.std.specs.FinMap as map
use Rattle.issuer_words.specs.Words.{RowVal, Rows}
use Rattle.book_changes.specs.Archive.{is_past_at, has_paid_before}
use Rattle.book_changes.specs.Joining.{or_else, IsPartedBy}
use Rattle.book_changes.proofs.Splitting.{get_new, get_old, is_account}

either_way : (past paid : Bool) (o : Option RowVal) → or_else (cond (not past) o None) (cond (past || paid) o None) ≡ o
either_way true paid o = refl
either_way false true None = refl
either_way false true (Some v) = refl
either_way false false None = refl
either_way false false (Some v) = refl

other_way : (past paid : Bool) (o : Option RowVal) → or_else (cond (past || paid) o None) (cond (not past) o None) ≡ o
other_way true paid None = refl
other_way true paid (Some v) = refl
other_way false true None = refl
other_way false true (Some v) = refl
other_way false false o = refl

paid_alone : (past paid : Bool) (o : Option RowVal) → cond (not past) o None ≢ None → cond (past || paid) o None ≢ None → paid ≡ true
paid_alone true paid o here there = absurd (here refl)
paid_alone false true o here there = refl
paid_alone false false o here there = absurd (there refl)

pub parted : (date : List ℕ) (rows : Rows) → IsPartedBy date rows
parted date rows = record {
  joined = λ k.
      (λ i. or_else (get_new date rows k i) (get_old date rows k i)) ∙ either_way (is_past_at date rows k) (has_paid_before date rows k) (map.get rows k);
  joined_back = λ k.
      (λ i. or_else (get_old date rows k i) (get_new date rows k i)) ∙ other_way (is_past_at date rows k) (has_paid_before date rows k) (map.get rows k);
  shared = λ k here there.
      is_account date k (map.entries rows)
      (paid_alone (is_past_at date rows k) (has_paid_before date rows k) (map.get rows k) (λ none. here (get_new date rows k ∙ none)) (λ none. there (get_old date rows k ∙ none)));
}
