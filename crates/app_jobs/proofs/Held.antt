-- What a file holds that was empty.
use Rattle.std.proofs.Common.{◌≡◌, ◌++◌, List, ℕ, []}

-- what was written to an empty file is all that it holds
pub all_written : (old new text : List ℕ) → new ≡ old ++ text → old ≡ [] → new ≡ text
all_written old new text h e = rw e at h
