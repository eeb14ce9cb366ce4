-- Reading blocks one after the other, as a loop does.
use Rattle.std.proofs.Common.{◌≡◌, ℕ, List, [], ◌∷◌, ◌++◌, length, map, Ok, sym, subst, ◌∙◌}
use Rattle.std.specs.Global.{Vec}
use Rattle.std.proofs.lemmas.List.{length-map, map-append}
use Rattle.file_batch.specs.Words.{InTurn, IsFileInTurn, block_head_at, ended}
use Rattle.file_laws.proofs.InTurn.{one_more}
use Rattle.file_laws.proofs.Steps.{nothing_left}

-- the items of each block
abbrev pub items_of : {A : Type 0} → List (Vec A) → List (List A)
items_of blocks = map (λ block. block.items) blocks

pub goes_on : {A : Type 0} (is : List ℕ → List A → List ℕ → Type 0) (bytes : List ℕ) (blocks : List (Vec A)) (left : List ℕ) (block : Vec A) (after : List ℕ)
    → InTurn is bytes (items_of blocks) left → is left block.items after → InTurn is bytes (items_of (blocks ++ block ∷ [])) after
goes_on is bytes blocks left block after are next = rw map-append (one_more is bytes (items_of blocks) left block.items after are next)

pub is_file : {A : Type 0} (is : List ℕ → List A → List ℕ → Type 0) (magic bytes behind left : List ℕ) (count : ℕ) (blocks : List (Vec A))
    → block_head_at magic bytes ≡ Ok (count, behind) → InTurn is behind (items_of blocks) left → length blocks ≡ count → ended left ≡ Ok tt
    → IsFileInTurn magic is bytes (items_of blocks)
is_file is magic bytes behind left count blocks head are same end =
    let all : count ≡ length (items_of blocks) = sym same ∙ sym (length-map blocks (λ block. block.items)) in (
      behind,
      subst (λ (n : ℕ). block_head_at magic bytes ≡ Ok (n, behind)) all head,
      subst (λ (l : List ℕ). InTurn is behind (items_of blocks) l) (nothing_left left end) are,
    )
