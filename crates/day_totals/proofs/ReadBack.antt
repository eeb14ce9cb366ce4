-- What escaped texts are read as.
use Rattle.std.proofs.Common.{◌≡◌, ◌≢◌, ℕ, ◌==◌, Bool, true, false, List, [], ◌∷◌, ◌++◌, codes, inl, inr, refl, arith, cond}
use Rattle.std.proofs.lemmas.Bool.Decides.{nat_tests}
use Rattle.day_totals.specs.Escaped.{BeginsWith, IsPlain, IsReadAs, escaped, escaped_byte}

plain_append : (a b : List ℕ) → IsPlain a → IsPlain b → IsPlain (a ++ b)
plain_append [] b p q = q
plain_append (x ∷ a) b p q = (p.0, plain_append a b p.1 q)

other : (c n : ℕ) → (c == n) ≡ false → c ≢ n
other c n h = grind (arith, nat_tests)

same : (c n : ℕ) → (c == n) ≡ true → c ≡ n
same c n h = grind (arith, nat_tests)

plain_by : (c : ℕ) (b d e f : Bool) → (c == 60) ≡ b → (c == 62) ≡ d → IsPlain (cond b (codes "&lt;") (cond d (codes "&gt;") (cond e (codes "&amp;") (cond f (codes "&quot;") (c ∷ [])))))
plain_by c true d e f h k = ((omega arith, omega arith), ((omega arith, omega arith), ((omega arith, omega arith), ((omega arith, omega arith), tt))))
plain_by c false true e f h k = ((omega arith, omega arith), ((omega arith, omega arith), ((omega arith, omega arith), ((omega arith, omega arith), tt))))
plain_by c false false true f h k = ((omega arith, omega arith), ((omega arith, omega arith), ((omega arith, omega arith), ((omega arith, omega arith), ((omega arith, omega arith), tt)))))
plain_by c false false false true h k = ((omega arith, omega arith), ((omega arith, omega arith), ((omega arith, omega arith), ((omega arith, omega arith), ((omega arith, omega arith), ((omega arith, omega arith), tt))))))
plain_by c false false false false h k = ((other c 60 h, other c 62 k), tt)

plain_byte : (c : ℕ) → IsPlain (escaped_byte c)
plain_byte c = plain_by c (c == 60) (c == 62) (c == 38) (c == 34) refl refl

begins_by : (c : ℕ) (rest : List ℕ) (b d e f : Bool) → (c == 60) ≡ b → (c == 62) ≡ d → (c == 38) ≡ e → (c == 34) ≡ f → BeginsWith ((cond b (codes "&lt;") (cond d (codes "&gt;") (cond e (codes "&amp;") (cond f (codes "&quot;") (c ∷ []))))) ++ rest) c rest
begins_by c rest true d e f h k l m = inl (same c 60 h, refl)
begins_by c rest false true e f h k l m = inr (inl (same c 62 k, refl))
begins_by c rest false false true f h k l m = inr (inr (inl (same c 38 l, refl)))
begins_by c rest false false false true h k l m = inr (inr (inr (inl (same c 34 m, refl))))
begins_by c rest false false false false h k l m = inr (inr (inr (inr (other c 60 h, other c 62 k, other c 38 l, refl))))

begins : (c : ℕ) (rest : List ℕ) → BeginsWith (escaped_byte c ++ rest) c rest
begins c rest = begins_by c rest (c == 60) (c == 62) (c == 38) (c == 34) refl refl refl refl

pub escaped_plain : (text : List ℕ) → IsPlain (escaped text)
escaped_plain [] = tt
escaped_plain (c ∷ text) = plain_append (escaped_byte c) (escaped text) (plain_byte c) (escaped_plain text)

pub escaped_read : (text : List ℕ) → IsReadAs (escaped text) text
escaped_read [] = refl
escaped_read (c ∷ text) = (escaped text, begins c (escaped text), escaped_read text)
