-- Items that stand one behind another, and one more.
use Rattle.std.proofs.Common.{ℕ, List, [], ◌∷◌, ◌++◌, refl, sym, subst}
use Rattle.file_laws.specs.Blocks.{InTurn}

pub one_more : {A : Type 0} (is : List ℕ → A → List ℕ → Type 0) (bytes : List ℕ) (blocks : List A) (left : List ℕ) (block : A) (after : List ℕ)
    → InTurn is bytes blocks left → is left block after → InTurn is bytes (blocks ++ block ∷ []) after
one_more is bytes [] left block after are next = (after, subst (λ (b : List ℕ). is b block after) (sym are) next, refl)
one_more is bytes (b ∷ blocks) left block after are next = (are.0, are.1, one_more is are.0 blocks left block after are.2 next)
