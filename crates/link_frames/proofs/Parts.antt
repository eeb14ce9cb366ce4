-- A part of a buffer is its front and the rest.
use Rattle.std.proofs.Common.{◌≡◌, ℕ, ◌+◌, ◌-◌, ◌≤◌, List, ◌++◌, take, drop, sym, ap, ◌∙◌, append_assoc, arith, take-add}
use Rattle.std.specs.Prelude.{slice_range}
use Rattle.std.proofs.lemmas.List.{take-append-drop, take-take, drop-take, drop-drop}
use Rattle.std.proofs.lemmas.Slice.{between_from_start}

pub part_front : (xs : List ℕ) (s e n : ℕ) → s + n ≤ e → slice_range xs s (s + n) ≡ take n (slice_range xs s e)
part_front xs s e n le =
    let size : (s + n) - s ≡ n = omega arith in
    rw size (sym (take-take n (e - s) (drop s xs) (omega arith)))

pub part_rest : (xs : List ℕ) (s e n : ℕ) → s + n ≤ e → slice_range xs (s + n) e ≡ drop n (slice_range xs s e)
part_rest xs s e n le =
    let size : e - s ≡ n + (e - (s + n)) = omega arith in
    rw size (sym (drop-take n (e - (s + n)) (drop s xs) ∙ ap (take (e - (s + n))) (drop-drop n s xs)))

pub part_both : (xs : List ℕ) (s e n : ℕ) → s + n ≤ e → slice_range xs s e ≡ slice_range xs s (s + n) ++ slice_range xs (s + n) e
part_both xs s e n le = rw (part_front xs s e n le, part_rest xs s e n le) (sym (take-append-drop n (slice_range xs s e)))

-- what was kept stands first, and behind it what came
pub came : (xs ys zs left rest : List ℕ) (s e k more : ℕ) → k ≡ e - s → take k ys ≡ slice_range xs s e → take k zs ≡ take k ys → left ≡ take more (drop k zs) ++ rest
    → slice_range xs s e ++ left ≡ slice_range zs 0 (k + more) ++ rest
came xs ys zs left rest s e k more size moved stay taken =
    let whole : slice_range zs 0 (k + more) ≡ slice_range xs s e ++ take more (drop k zs) =
    between_from_start zs (k + more) ∙ take-add k more zs ∙ ap (λ (x : List ℕ). x ++ take more (drop k zs)) (stay ∙ moved) in
    ap (λ (x : List ℕ). slice_range xs s e ++ x) taken ∙ sym (append_assoc (slice_range xs s e) (take more (drop k zs)) rest) ∙ ap (λ (x : List ℕ). x ++ rest) (sym whole)
