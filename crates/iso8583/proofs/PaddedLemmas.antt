-- A text in front of an array of zeros is a padded text.
use Rattle.std.proofs.Common.{◌≡◌, ℕ, ◌-◌, ◌≤◌, List, ◌++◌, length, drop, replicate, arith}
use Rattle.std.proofs.lemmas.List.{length-append}
use Rattle.std.proofs.Math.Seq.{take-append_seam, drop-append_seam}
use Rattle.std.proofs.lemmas.List.{length-replicate, drop-replicate}
use Rattle.iso8583.specs.Padded.{IsPadded}

pub padded : (IsOfClass : List ℕ → Type 0) (min max : ℕ) (text : List ℕ) → min ≤ length text → length text ≤ max → IsOfClass text
    → IsPadded IsOfClass min max (text ++ drop (length text) (replicate max 0)) (length text)
padded IsOfClass min max text least most class =
    let zeros : drop (length text) (replicate max 0) ≡ replicate (max - length text) 0 = drop-replicate (length text) max 0 in
    record {
      size = rw (length-append, zeros, length-replicate) (omega (arith, most));
      at_least = least;
      at_most = most;
      zeros = rw drop-append_seam zeros;
      class = rw take-append_seam class;
    }
