-- Blocks as they are handed in.
use Rattle.std.specs.Prelude.{ℕ, List, map}
use Rattle.std.specs.Global.{Vec}
use Rattle.file_batch.specs.Bodies.{bytes_of}

-- the bytes of the bodies of each
abbrev pub bodies_of_blocks : List (Vec (Vec ℕ)) → List (List (List ℕ))
bodies_of_blocks blocks = map (λ block. bytes_of block.items) blocks
