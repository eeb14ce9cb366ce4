-- From what each link knows to what it is by the history of all.
use Rattle.std.proofs.Common.{◌≡◌, ◌⊎◌, ◌<◌, ◌+◌, ◌∙◌, ◌∷◌, length, slice_index_or, arith, inl, inr, refl, ℕ, zero, suc, List, [], ◌++◌, Option, IfSome, ap, sym, subst}
use mathlib.Core.List.{IsPrefix}
use Rattle.issuer_rows.specs.Fold.{Rows}
use Rattle.link_frames.specs.Replies.{AppendsPart}
use Rattle.host_links.specs.Lines.{LinkServed, LinkStopped}
use Rattle.logbook.specs.Pages.{Book}
use Rattle.host_links.specs.Kept.{AreCounts}
use Rattle.host_links.specs.Merged.{LinkMerged, HasAllTurns, HasSeenAll, IsOfBook}
use Rattle.host_links.specs.Seats.{SeatServed}
use Rattle.host_links.specs.Turns.{turns_of}
use Rattle.host_links.specs.declared.link_turn.LinkTurn.{LinkTurn}
use Rattle.host_links.specs.declared.seat.Seat.{Seat}
use Rattle.host_links.specs.declared.seat.SeenTurns.{SeenTurns}
use Rattle.host_links.proofs.Merges.{came_whole, given_whole}

served_in_all : (link : ℕ) (opening : Rows) (some all : List LinkTurn) (reads : Type 0) (bytes left : List ℕ) (puts : Type 0) (had has : List ℕ) → IsPrefix some all
    → turns_of link some ≡ turns_of link all → LinkServed link opening some reads bytes left puts had has → LinkServed link opening all reads bytes left puts had has
served_in_all link opening some all reads bytes left puts had has begins same s = record {
  came = λ known. s.came known ∙ ap (λ (x : List ℕ). x ++ left) (sym (came_whole link some all begins same));
  given = λ known. s.given known ∙ ap (λ (x : List ℕ). had ++ x) (sym (given_whole link opening some all begins same));
}

stopped_in_all : (link : ℕ) (opening : Rows) (some all : List LinkTurn) (reads : Type 0) (bytes : List ℕ) (puts : Type 0) (had has : List ℕ) → IsPrefix some all
    → turns_of link some ≡ turns_of link all → LinkStopped link opening some reads bytes puts had has → LinkStopped link opening all reads bytes puts had has
stopped_in_all link opening some all reads bytes puts had has begins same s = record {
  left = s.left;
  came = λ known. s.came known ∙ ap (λ (x : List ℕ). x ++ s.left) (sym (came_whole link some all begins same));
  given = λ known. subst (λ (x : List ℕ). AppendsPart had has x) (sym (given_whole link opening some all begins same)) (s.given known);
}

pub merged_link : {I O : Type 0} (is_known : I → Type 0) (remaining : I → List ℕ) (puts : O → Type 0) (written : O → List ℕ) (book : Book) (link : ℕ) (opening : Rows) (turns : List LinkTurn) (counts : List ℕ)
    (old new : Seat I O) → SeatServed is_known remaining puts written book link opening old new → HasSeenAll link turns counts new → AreCounts counts turns
    → LinkMerged is_known remaining puts written link opening turns old new
merged_link is_known remaining puts written book link opening turns counts old new s met are =
    let all : HasAllTurns link turns counts s.seen = subst (λ (seen : Option SeenTurns). IfSome seen (HasAllTurns link turns counts)) s.is met in
    let same : turns_of link s.seen.trace.seen.log ≡ turns_of link turns = s.count ∙ are link s.seen.count all.count in
    record {
      served = λ none. served_in_all link opening s.seen.trace.seen.log turns _ _ [] _ _ _ all.begins same (s.served none);
      stopped = stopped_in_all link opening s.seen.trace.seen.log turns _ _ _ _ _ all.begins same s.stopped;
    }

-- the same on the same book
pub merged_for : {I O : Type 0} (is_known : I → Type 0) (remaining : I → List ℕ) (puts : O → Type 0) (written : O → List ℕ) (link : ℕ) (opening book : Rows) (turns : List LinkTurn) (old new : Seat I O)
    → book ≡ opening → LinkMerged is_known remaining puts written link opening turns old new → LinkMerged is_known remaining puts written link book turns old new
merged_for is_known remaining puts written link opening book turns old new same m =
    subst (λ (x : Rows). LinkMerged is_known remaining puts written link x turns old new) (sym same) m

-- what a link that was served has seen is of the history
pub of_book : {I O : Type 0} (is_known : I → Type 0) (remaining : I → List ℕ) (puts : O → Type 0) (written : O → List ℕ) (book : Book) (link : ℕ) (opening : Rows) (old new : Seat I O)
    → SeatServed is_known remaining puts written book link opening old new → IsOfBook book new
of_book is_known remaining puts written book link opening old new s =
    subst (λ (seen : Option SeenTurns). IfSome seen (λ seen. seen.trace.seen.book ≡ book)) (sym s.is) s.of

less_or_same : (k n : ℕ) → k < n + 1 → (k < n) ⊎ (k ≡ n)
less_or_same zero zero less = inr refl
less_or_same zero (suc n) less = inl (omega arith)
less_or_same (suc k) zero less = absurd (omega (arith, less))
less_or_same (suc k) (suc n) less = one_more k n (less_or_same k n (omega (arith, less)))
  where
    one_more : (k n : ℕ) → (k < n) ⊎ (k ≡ n) → (suc k < suc n) ⊎ (suc k ≡ suc n)
    one_more k n (inl is) = inl (omega (arith, is))
    one_more k n (inr is) = inr (ap suc is)

-- all that come before one, and that one
pub one_further : (P : ℕ → Type 0) (n : ℕ) → ((k : ℕ) → k < n → P k) → P n → (k : ℕ) → k < n + 1 → P k
one_further P n before here k less = by_place k (less_or_same k n less)
  where
    by_place : (k : ℕ) → (k < n) ⊎ (k ≡ n) → P k
    by_place k (inl is) = before k is
    by_place k (inr is) = subst P (sym is) here

-- at a place that there is, whatever would stand for none
pub whatever_else : {X : Type 0} (xs : List X) (k : ℕ) (x y : X) → k < length xs → slice_index_or xs k x ≡ slice_index_or xs k y
whatever_else [] k x y less = absurd (omega (arith, less))
whatever_else (z ∷ xs) zero x y less = refl
whatever_else (z ∷ xs) (suc k) x y less = whatever_else xs k x y (omega (arith, less))
