-- The bodies that a text has are ones that a batch can have; and why a text is not packed.
use Rattle.std.proofs.Common.{◌≡◌, ℕ, ◌+◌, ◌≤◌, Bool, true, false, cond, List, [], ◌∷◌, ◌++◌, length, map, Option, Some, None, Result, Ok, Err, refl, subst}
use Rattle.std.specs.Prelude.{◌&&◌, ◌==◌, nat_le}
use Rattle.std.specs.Global.{Vec}
use Rattle.std.specs.List.{AllByRecursion}
use Rattle.std.proofs.lemmas.Bool.{and_parts, leb-true}
use Rattle.std.proofs.lemmas.List.{length-map}
use Rattle.std.proofs.lemmas.Option.{same_Some}
use Rattle.hex.specs.Hex.{decode_of}
use Rattle.hex.specs.declared.FromHexError.{FromHexError}
use Rattle.file_batch.specs.Bodies.{bytes_of}
use Rattle.file_laws.specs.Files.{AreBodies, IsBody}
use Rattle.file_listing.specs.Bodies.{alone, body_of, bodies_from, bodies_of, fitting, line_bodies, lines_of, then_bodies}
use Rattle.file_laws.proofs.Lists.{each_more}

ok_is : {A : Type 0} (x y : A) → Path (Result A ℕ) (Ok x) (Ok y) → x ≡ y
ok_is x y h = cc

-- a value that a test let through
let_through : {A : Type 0} (b : Bool) (x y : A) → Path (Option A) (cond b (Some x) None) (Some y) → (b ≡ true) × (x ≡ y)
let_through true x y h = (refl, cc)
let_through false x y h = absurd cc

fits : (decoded : Result (List ℕ) FromHexError) (body : List ℕ) → fitting decoded ≡ Some body → IsBody body
fits (Ok b) body is =
    let through = let_through (nat_le 1 (length b) && nat_le (length b) 512) b body is in
    let parts = and_parts (nat_le 1 (length b)) (nat_le (length b) 512) through.0 in
    subst IsBody through.1 (leb-true 1 (length b) parts.0, leb-true (length b) 512 parts.1)
fits (Err e) body is = absurd cc

alone_fits : (body : Option (List ℕ)) (bodies : List (List ℕ)) → ((b : List ℕ) → body ≡ Some b → IsBody b) → alone body ≡ Some bodies
    → AllByRecursion IsBody bodies
alone_fits (Some b) bodies fit is = subst (AllByRecursion IsBody) (same_Some (b ∷ []) bodies is) (fit b refl, tt)
alone_fits None bodies fit is = absurd cc

-- of a line that is a comment, or stands for a body
told_fits : (comment : Bool) (body : Option (List ℕ)) (bodies : List (List ℕ)) → ((b : List ℕ) → body ≡ Some b → IsBody b)
    → cond comment (Some []) (alone body) ≡ Some bodies → AllByRecursion IsBody bodies
told_fits true body bodies fit is = subst (AllByRecursion IsBody) (same_Some [] bodies is) tt
told_fits false body bodies fit is = alone_fits body bodies fit is

line_fits : (line : List ℕ) (bodies : List (List ℕ)) → line_bodies line ≡ Some bodies → AllByRecursion IsBody bodies
line_fits [] bodies is = subst (AllByRecursion IsBody) (same_Some [] bodies is) tt
line_fits (c ∷ cs) bodies is = told_fits (c == 35) (body_of (c ∷ cs)) bodies (fits (decode_of (c ∷ cs))) is

then_fits : (n : ℕ) (first : Option (List (List ℕ))) (rest : Result (List (List ℕ)) ℕ) (bodies : List (List ℕ))
    → ((some : List (List ℕ)) → first ≡ Some some → AllByRecursion IsBody some)
    → ((more : List (List ℕ)) → rest ≡ Ok more → AllByRecursion IsBody more)
    → then_bodies n first rest ≡ Ok bodies → AllByRecursion IsBody bodies
then_fits n (Some some) (Ok more) bodies f r is = subst (AllByRecursion IsBody) (ok_is (some ++ more) bodies is) (each_more IsBody some more (f some refl) (r more refl))
then_fits n (Some some) (Err e) bodies f r is = absurd cc
then_fits n None rest bodies f r is = absurd cc

lines_fit : (n : ℕ) (lines : List (List ℕ)) (bodies : List (List ℕ)) → bodies_from n lines ≡ Ok bodies → AllByRecursion IsBody bodies
lines_fit n [] bodies is = subst (AllByRecursion IsBody) (ok_is [] bodies is) tt
lines_fit n (line ∷ lines) bodies is =
    then_fits n (line_bodies line) (bodies_from (n + 1) lines) bodies (line_fits line) (lines_fit (n + 1) lines) is

-- so many bodies of a text are ones that a batch can have
pub text_fits : (bytes : List ℕ) (bodies : List (Vec ℕ)) → bodies_of bytes ≡ Ok (map (λ body. body.items) bodies) → length bodies ≤ 65536
    → AreBodies (bytes_of bodies)
text_fits bytes bodies is few = (rw length-map few, lines_fit 1 (lines_of bytes) (bytes_of bodies) is)
