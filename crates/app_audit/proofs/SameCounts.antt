-- The test whether blocks have the same counts decides it.
use Rattle.std.proofs.Common.{◌≡◌, ◌↔◌, ℕ, ◌==◌, IsTrue, List, [], ◌∷◌, length, map, drop, zip, slice_index_or, refl, ap, arith}
use Rattle.std.proofs.lemmas.Bool.{and_parts}
use Rattle.std.specs.Cmp.Derive.{both_true}
use Rattle.std.specs.List.{list_all}
use Rattle.std.proofs.lemmas.Bool.Decides.{Decides-eqb}
use Rattle.issuer_words.specs.Words.{Frame, ReplyBody}
use Rattle.app_audit.specs.Blocks.{counts}

pub decided : {V W : Type 0} (f : V → List Frame) (g : W → List ReplyBody) (vs : List V) (ws : List W) → length vs ≡ length ws
    → IsTrue (list_all (λ p. length (f p.0) == length (g p.1)) (zip vs ws)) ↔ (counts (map f vs) ≡ counts (map g ws))
decided f g [] [] e = (λ _. refl, λ _. refl)
decided f g [] (w ∷ ws) e = absurd (omega arith)
decided f g (v ∷ vs) [] e = absurd (omega arith)
decided f g (v ∷ vs) (w ∷ ws) e =
    let rest = decided f g vs ws (omega arith) in
    let first = Decides-eqb (length (f v)) (length (g w)) in (
      λ t. let p = and_parts _ _ t in λ i. first.0 p.0 i ∷ rest.0 p.1 i,
      λ same. both_true (first.1 (ap (λ (ns : List ℕ). slice_index_or ns 0 0) same)) (rest.1 (ap (drop 1) same)),
    )
