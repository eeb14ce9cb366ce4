-- A link is read in one way.
use Rattle.std.proofs.Common.{◌≡◌, ℕ, List, [], ◌∷◌, ◌++◌, refl, sym, ap, subst, ◌∙◌, append_assoc}
use Rattle.std.specs.List.{flat_map}
use Rattle.std.proofs.lemmas.List.{append-nil}
use Rattle.file_laws.specs.Files.{framed}
use Rattle.file_laws.proofs.Again.{framed_apart}
use Rattle.link_frames.specs.Link.{AreFrames, IsNoFrame}
use Rattle.link_frames.proofs.Fronts.{not_none}

-- a body and those behind it, on both sides
both_begin : (bytes left rest body other : List ℕ) (bodies others : List (List ℕ)) → AreFrames bytes (body ∷ bodies) left → AreFrames bytes (other ∷ others) rest
    → (body ≡ other) × (flat_map framed bodies ++ left ≡ flat_map framed others ++ rest)
both_begin bytes left rest body other bodies others here there =
    framed_apart body other (flat_map framed bodies ++ left) (flat_map framed others ++ rest) here.0.0 there.0.0
    (sym (append_assoc (framed body) (flat_map framed bodies) left) ∙ sym here.1 ∙ there.1 ∙ append_assoc (framed other) (flat_map framed others) rest)

pub begins : (bytes left rest : List ℕ) (bodies others : List (List ℕ)) → AreFrames bytes bodies left → AreFrames bytes others rest → IsNoFrame rest
    → (more : List (List ℕ)) × (others ≡ bodies ++ more) × AreFrames left more rest
begins bytes left rest [] others here there none = (others, refl, subst (λ (x : List ℕ). AreFrames x others rest) here.1 there)
begins bytes left rest (body ∷ bodies) [] here there none =
    absurd (not_none rest (body, flat_map framed bodies ++ left, here.0.0, sym there.1 ∙ here.1 ∙ append_assoc (framed body) (flat_map framed bodies) left) none)
begins bytes left rest (body ∷ bodies) (other ∷ others) here there none =
    let same = both_begin bytes left rest body other bodies others here there in
    let behind = begins (flat_map framed bodies ++ left) left rest bodies others (here.0.1, refl) (there.0.1, same.1) none in
    (behind.0, ap (λ (x : List ℕ). x ∷ others) (sym same.0) ∙ ap (λ (x : List (List ℕ)). body ∷ x) behind.1, behind.2)

none_more : (left rest : List ℕ) (more : List (List ℕ)) → AreFrames left more rest → IsNoFrame left → more ≡ []
none_more left rest [] are none = refl
none_more left rest (body ∷ more) are none =
    absurd (not_none left (body, flat_map framed more ++ rest, are.0.0, are.1 ∙ append_assoc (framed body) (flat_map framed more) rest) none)

pub once : (bytes left rest : List ℕ) (bodies others : List (List ℕ)) → AreFrames bytes bodies left → IsNoFrame left → AreFrames bytes others rest → IsNoFrame rest
    → (bodies ≡ others) × (left ≡ rest)
once bytes left rest bodies others here none there none_there =
    let b = begins bytes left rest bodies others here there none_there in
    let nothing : b.0 ≡ [] = none_more left rest b.0 b.2 none in (
      sym (b.1 ∙ ap (λ (x : List (List ℕ)). bodies ++ x) nothing ∙ append-nil bodies),
      b.2.1 ∙ ap (λ (x : List (List ℕ)). flat_map framed x ++ rest) nothing,
    )
