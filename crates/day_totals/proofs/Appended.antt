-- Pieces of text that are appended one after another.
use Rattle.std.proofs.Common.{◌≡◌, ℕ, zero, suc, ◌+◌, ◌<◌, List, [], ◌∷◌, ◌++◌, length, take, get_or, sym, ap, ◌∙◌, append_assoc, add-one, arith}
use Rattle.std.proofs.lemmas.List.{append-nil}
use Rattle.std.specs.List.{flat_map}

so_far : {X : Type 0} (f : X → List ℕ) (xs : List X) (i : ℕ) (x : X) → i < length xs → x ≡ get_or xs i x → flat_map f (take (suc i) xs) ≡ flat_map f (take i xs) ++ f x
so_far f [] i x within at = absurd (omega arith)
so_far f (y ∷ xs) zero x within at = append-nil (f y) ∙ ap f (sym at)
so_far f (y ∷ xs) (suc i) x within at = ap (λ rest. f y ++ rest) (so_far f xs i x (omega arith) at) ∙ sym (append_assoc (f y) (flat_map f (take i xs)) (f x))

-- the text of the next item is appended behind those of the first ones
pub appended : {X : Type 0} (f : X → List ℕ) (xs : List X) (i : ℕ) (x : X) (before old new : List ℕ) → i < length xs → x ≡ get_or xs i x
    → old ≡ before ++ flat_map f (take i xs) → new ≡ old ++ f x → new ≡ before ++ flat_map f (take (i + 1) xs)
appended f xs i x before old new within at so_far_is more =
    more ∙ ap (λ (text : List ℕ). text ++ f x) so_far_is ∙ append_assoc before (flat_map f (take i xs)) (f x)
    ∙ ap (λ (text : List ℕ). before ++ text) (sym (rw add-one (so_far f xs i x within at)))

-- three pieces
pub three : (h a b c t u v : List ℕ) → t ≡ h ++ a → u ≡ t ++ b → v ≡ u ++ c → v ≡ h ++ (a ++ (b ++ c))
three h a b c t u v e f g =
    g ∙ ap (λ (x : List ℕ). x ++ c) (f ∙ ap (λ (x : List ℕ). x ++ b) e) ∙ append_assoc (h ++ a) b c ∙ append_assoc h a (b ++ c)

-- four pieces
pub four : (h a b c d t u v w : List ℕ) → t ≡ h ++ a → u ≡ t ++ b → v ≡ u ++ c → w ≡ v ++ d → w ≡ h ++ (a ++ (b ++ (c ++ d)))
four h a b c d t u v w e f g k =
    k ∙ ap (λ (x : List ℕ). x ++ d) (g ∙ ap (λ (x : List ℕ). x ++ c) (f ∙ ap (λ (x : List ℕ). x ++ b) e))
    ∙ append_assoc ((h ++ a) ++ b) c d ∙ append_assoc (h ++ a) b (c ++ d) ∙ append_assoc h a (b ++ (c ++ d))

-- five pieces
pub five : (h a b c d p t u v w z : List ℕ) → t ≡ h ++ a → u ≡ t ++ b → v ≡ u ++ c → w ≡ v ++ d → z ≡ w ++ p → z ≡ h ++ (a ++ (b ++ (c ++ (d ++ p))))
five h a b c d p t u v w z e f g k l = l ∙ ap (λ (x : List ℕ). x ++ p) (four h a b c d t u v w e f g k) ∙ moved
  where
    moved : (h ++ (a ++ (b ++ (c ++ d)))) ++ p ≡ h ++ (a ++ (b ++ (c ++ (d ++ p))))
    moved = append_assoc h (a ++ (b ++ (c ++ d))) p ∙ ap (λ (x : List ℕ). h ++ x) (append_assoc a (b ++ (c ++ d)) p ∙ ap (λ (x : List ℕ). a ++ x) (append_assoc b (c ++ d) p ∙ ap (λ (x : List ℕ). b ++ x) (append_assoc c d p)))

-- six pieces
pub six : (h a b c d p q t u v w y z : List ℕ) → t ≡ h ++ a → u ≡ t ++ b → v ≡ u ++ c → w ≡ v ++ d → y ≡ w ++ p → z ≡ y ++ q → z ≡ h ++ (a ++ (b ++ (c ++ (d ++ (p ++ q)))))
six h a b c d p q t u v w y z e f g k l m = m ∙ ap (λ (x : List ℕ). x ++ q) (five h a b c d p t u v w y e f g k l) ∙ moved
  where
    moved : (h ++ (a ++ (b ++ (c ++ (d ++ p))))) ++ q ≡ h ++ (a ++ (b ++ (c ++ (d ++ (p ++ q)))))
    moved = append_assoc h (a ++ (b ++ (c ++ (d ++ p)))) q ∙ ap (λ (x : List ℕ). h ++ x) (append_assoc a (b ++ (c ++ (d ++ p))) q ∙ ap (λ (x : List ℕ). a ++ x) (append_assoc b (c ++ (d ++ p)) q ∙ ap (λ (x : List ℕ). b ++ x) (append_assoc c (d ++ p) q ∙ ap (λ (x : List ℕ). c ++ x) (append_assoc d p q))))
