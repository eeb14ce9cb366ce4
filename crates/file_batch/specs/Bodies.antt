-- Bodies as they are handed in.
use Rattle.std.specs.Prelude.{ℕ, List, map}
use Rattle.std.specs.Global.{Vec}

-- the bytes of each
abbrev pub bytes_of : List (Vec ℕ) → List (List ℕ)
bytes_of bodies = map (λ body. body.items) bodies
