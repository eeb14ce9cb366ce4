-- The lines of bodies are read as these bodies.
use Rattle.std.proofs.Common.{◌≡◌, ◌≢◌, ℕ, zero, suc, ◌+◌, ◌/◌, ◌%◌, ◌<◌, Bool, cond, List, [], ◌∷◌, ◌++◌, length, slice_index, Option, Some, None, Ok, refl, ap, subst, ◌∙◌, append_assoc, arith}
use Rattle.std.specs.List.{flat_map, All, AllByRecursion}
use Rattle.std.proofs.lemmas.Bool.{ne_eqb}
use Rattle.std.proofs.lemmas.List.Elements.{recursion_from_All}
use Rattle.hex.specs.Hex.{IsBytes, encode_lower, encode_with, hex_digit_value, lower_digits}
use Rattle.hex.proofs.HexLemmas.{IsDigits-lower_digits, decode_of-encode_lower}
use Rattle.file_laws.specs.Files.{IsBody, batch_text, framed, head_text}
use Rattle.file_laws.specs.Reading.{batch_magic}
use Rattle.file_laws.proofs.Once.{batch_taken, AreBytes, front_of, rest_of}
use Rattle.byteorder.specs.Endian.{big_bytes}
use Rattle.file_listing.specs.Bodies.{alone, behind, bodies_from, bodies_of, body_of, fitting, line_bodies, lines_of, then_bodies, with_first}
use Rattle.file_listing.specs.BodyLines.{IsPackedFrom, IsTextOf, body_lines}

-- ---- bytes

indexed : (xs : List ℕ) → AreBytes xs → IsBytes xs
indexed [] all i = omega arith
indexed (x ∷ xs) all zero = all.0
indexed (x ∷ xs) all (suc i) = indexed xs all.1 i

pub bodies_are_bytes : (bodies : List (List ℕ)) → AreBytes (flat_map framed bodies) → AllByRecursion IsBytes bodies
bodies_are_bytes [] all = tt
bodies_are_bytes (b ∷ bodies) all =
    let here = front_of (framed b) (flat_map framed bodies) all in
    (indexed b (rest_of (big_bytes 2 (length b)) b here), bodies_are_bytes bodies (rest_of (framed b) (flat_map framed bodies) all))

-- ---- digits

-- neither a line feed nor a number sign
abbrev IsPlain : ℕ → Type 0
IsPlain c = (c ≢ 10) × (c ≢ 35)

plain_of : (c d : ℕ) → hex_digit_value c ≡ Some d → IsPlain c
plain_of c d value =
    let other : (k : ℕ) → c ≡ k → hex_digit_value k ≡ Some d = λ k e. subst (λ (x : ℕ). hex_digit_value x ≡ Some d) e value in
    (λ e. let none : None ≡ Some d = other 10 e in absurd cc, λ e. let none : None ≡ Some d = other 35 e in absurd cc)

plain_digit : (d : ℕ) → d < 16 → IsPlain (slice_index lower_digits d)
plain_digit d small = plain_of (slice_index lower_digits d) d (IsDigits-lower_digits d small)

no_feed : (body : List ℕ) → IsBytes body → AllByRecursion (λ c. c ≢ 10) (encode_lower body)
unfolding encode_with
no_feed [] bytes = tt
no_feed (b ∷ rest) bytes =
    let fits : b < 256 = bytes 0 in
    ((plain_digit (b / 16) (omega (arith, fits))).0, ((plain_digit (b % 16) (omega (arith, fits))).0, no_feed rest (λ i. bytes (suc i))))

-- ---- lines

first_line : (line rest : List ℕ) → AllByRecursion (λ c. c ≢ 10) line → lines_of (line ++ 10 ∷ rest) ≡ line ∷ lines_of rest
first_line [] rest h = refl
first_line (c ∷ cs) rest h =
    ap (λ (t : Bool). cond t ([] ∷ lines_of (cs ++ 10 ∷ rest)) (with_first c (lines_of (cs ++ 10 ∷ rest)))) (ne_eqb c 10 h.0) ∙ ap (with_first c) (first_line cs rest h.1)

fitted : (body : List ℕ) → IsBody body → fitting (Ok body) ≡ Some body
fitted body is = grind (arith, is.0, is.1)

read_body : (body : List ℕ) → IsBody body → IsBytes body → body_of (encode_lower body) ≡ Some body
read_body body is bytes = ap fitting (decode_of-encode_lower body bytes) ∙ fitted body is

-- a line that begins with a digit is no comment
digits_line : (c : ℕ) (cs body : List ℕ) → c ≢ 35 → body_of (c ∷ cs) ≡ Some body → line_bodies (c ∷ cs) ≡ Some (body ∷ [])
digits_line c cs body plain read =
    ap (λ (t : Bool). cond t (Some []) (alone (body_of (c ∷ cs)))) (ne_eqb c 35 plain) ∙ ap alone read

read_line : (body : List ℕ) → IsBody body → IsBytes body → line_bodies (encode_lower body) ≡ Some (body ∷ [])
unfolding encode_with
read_line [] is bytes = absurd (omega (arith, is.0))
read_line (b ∷ rest) is bytes =
    let fits : b < 256 = bytes 0 in
    digits_line (slice_index lower_digits (b / 16)) (slice_index lower_digits (b % 16) ∷ encode_lower rest) (b ∷ rest)
    (plain_digit (b / 16) (omega (arith, fits))).1 (read_body (b ∷ rest) is bytes)

-- the lines of bodies, from any number on
pub read_lines : (n : ℕ) (bodies : List (List ℕ)) → AllByRecursion IsBody bodies → AllByRecursion IsBytes bodies
    → bodies_from n (lines_of (body_lines bodies)) ≡ Ok bodies
read_lines n [] are bytes = refl
read_lines n (b ∷ bodies) are bytes =
    let text : body_lines (b ∷ bodies) ≡ encode_lower b ++ 10 ∷ body_lines bodies = append_assoc (encode_lower b) (10 ∷ []) (body_lines bodies) in
    let lines : lines_of (body_lines (b ∷ bodies)) ≡ encode_lower b ∷ lines_of (body_lines bodies) =
    ap lines_of text ∙ first_line (encode_lower b) (body_lines bodies) (no_feed b bytes.0) in
    ap (bodies_from n) lines
    ∙ ap (λ (o : Option (List (List ℕ))). then_bodies n o (bodies_from (n + 1) (lines_of (body_lines bodies)))) (read_line b are.0 bytes.0)
    ∙ ap (behind (b ∷ [])) (read_lines (n + 1) bodies are.1 bytes.1)

pub packed_again : (batch text : List ℕ) → All (λ byte. byte < 256) batch → IsTextOf batch text → IsPackedFrom text batch
packed_again batch text all is =
    let file = batch_taken batch is.0 all is.1 in
    let whole : AreBytes (batch_text is.0) = subst AreBytes file.1 (recursion_from_All (λ byte. byte < 256) batch all) in
    let bytes = bodies_are_bytes is.0 (rest_of (head_text batch_magic (length is.0)) (flat_map framed is.0) whole) in
    (is.0, ap bodies_of is.2 ∙ read_lines 1 is.0 file.0.1 bytes, file.1)
