-- Frames that are found one behind another.
use Rattle.std.proofs.Common.{◌≡◌, ℕ, ◌+◌, ◌<◌, List, [], ◌∷◌, ◌++◌, length, refl, sym, ap, subst, ◌∙◌, append_assoc, arith}
use Rattle.std.specs.List.{flat_map}
use Rattle.std.proofs.lemmas.List.{length-append}
use Rattle.file_laws.specs.Files.{framed, IsBody}
use Rattle.link_frames.specs.Link.{AreSoMany, HasFrame, IsNoFrame}
use Rattle.link_frames.proofs.Fronts.{not_none}
use Rattle.file_laws.proofs.Lists.{each_more}
use Rattle.file_laws.proofs.Again.{framed_more}

pub one_more : (count : ℕ) (bytes front rest body behind : List ℕ) → AreSoMany count front → bytes ≡ front ++ rest → IsBody body → rest ≡ framed body ++ behind
    → (x : List ℕ) × AreSoMany (count + 1) x × (bytes ≡ x ++ behind)
one_more count bytes front rest body behind so_many all is next =
    let bodies = so_many.0 in
    let number : length (bodies ++ body ∷ []) ≡ count + 1 = omega (arith, length-append bodies (body ∷ []), so_many.1) in (
      front ++ framed body,
      (bodies ++ body ∷ [], number, each_more IsBody bodies (body ∷ []) so_many.2 (is, tt), rw so_many.3 (sym (framed_more bodies body))),
      rw (all, next) (sym (append_assoc front (framed body) behind)),
    )

-- no frame has no bytes
none : (bodies : List (List ℕ)) → length bodies ≡ 0 → flat_map framed bodies ≡ []
none [] e = refl
none (body ∷ bodies) e = absurd (omega (arith, e))

-- where a frame stands first, one is given
pub one_given : (count most : ℕ) (before given after : List ℕ) → 0 < most → HasFrame before → AreSoMany count given → before ≡ given ++ after → (count < most → IsNoFrame after) → count ≡ 0 → ⊥
one_given count most before given after some frame so_many order all zero =
    let nothing : given ≡ [] = so_many.3 ∙ none so_many.0 (so_many.1 ∙ zero) in
    let same : before ≡ after = order ∙ ap (λ (x : List ℕ). x ++ after) nothing in
    not_none before frame (subst IsNoFrame (sym same) (all (omega (arith, some, zero))))
