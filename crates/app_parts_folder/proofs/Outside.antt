-- Names that are none of a folder's files.
use Rattle.std.proofs.Common.{◌≢◌, ◌<◌, inl, inr, ℕ, List}
use Rattle.app_parts_folder.specs.Names.{IsOfPart, IsOfParts, plan_name, rest_name}

-- a name that is neither that of the plan, nor of the rest, nor of a part's files
pub no_file : (folder : List ℕ) (count : ℕ) (name : List ℕ) → name ≢ plan_name folder → name ≢ rest_name folder
    → ((part : ℕ) → part < count → ¬ IsOfPart folder part name) → ¬ IsOfParts folder count name
no_file folder count name plan rest parts (inl e) = plan e
no_file folder count name plan rest parts (inr (inl e)) = rest e
no_file folder count name plan rest parts (inr (inr own)) = parts own.0 own.1 own.2
