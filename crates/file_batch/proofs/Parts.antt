-- A part of a piece is its front and the rest.
use Rattle.std.proofs.Common.{◌≡◌, ℕ, ◌+◌, ◌-◌, ◌≤◌, ◌<◌, false, ltb, eqb, List, ◌++◌, length, take, drop, Ok, refl, sym, ap, ◌∙◌, append_assoc, arith, take-add}
use Rattle.std.proofs.lemmas.List.{length-take, length-drop, drop-drop, length-append, take_at, drop_at}
use Rattle.std.proofs.lemmas.Bool.{le-ltb, ne_eqb}
use Rattle.byteorder.specs.Endian.{big_number}
use Rattle.file_laws.specs.Reading.{field_at, number_at, length_at, body_at}
use Rattle.file_laws.proofs.Again.{field_again}
use Rattle.file_batch.specs.Window.{part}

pub part_split : (xs : List ℕ) (s c e : ℕ) → s + c ≤ e → part xs s e ≡ part xs s (s + c) ++ part xs (s + c) e
part_split xs s c e le =
    let n : e - s ≡ c + (e - (s + c)) = omega arith in
    let front : (s + c) - s ≡ c = omega arith in
    let both = take-add c (e - (s + c)) (drop s xs) in
    let rest : drop c (drop s xs) ≡ drop (s + c) xs = drop-drop c s xs in
    rw (n, front, ← rest) both

-- from the start on, a part is a front
pub part_front : (xs : List ℕ) (e : ℕ) → part xs 0 e ≡ take e xs
part_front xs e =
    let whole : e - 0 ≡ e = omega arith in
    ap (λ n. take n xs) whole

pub length_part : (xs : List ℕ) (s e : ℕ) → s < e → e ≤ length xs → 0 < length (part xs s e)
length_part xs s e lt le = omega (arith, length-take (e - s) (drop s xs), length-drop s xs)

-- bytes that moved into the field, seen from the beginning
pub moved_on : (bytes field part field' part' next rest : List ℕ) → bytes ≡ field ++ next → next ≡ part ++ rest → field' ++ part' ≡ field ++ part → bytes ≡ field' ++ (part' ++ rest)
moved_on bytes field part field' part' next rest before there moved =
    before ∙ ap (λ (x : List ℕ). field ++ x) there ∙ sym (append_assoc field part rest) ∙ ap (λ (x : List ℕ). x ++ rest) (sym moved) ∙ append_assoc field' part' rest

-- a front of so many bytes is the field
pub is_field : (size : ℕ) (bytes field rest : List ℕ) → bytes ≡ field ++ rest → length field ≡ size → field_at size bytes ≡ Ok (field, rest)
is_field size bytes field rest is same =
    let long : size ≤ length (field ++ rest) = omega (arith, length-append field rest, same) in
    rw (is, le-ltb (length (field ++ rest)) size long, take_at field rest size same, drop_at field rest size same) refl

-- a body that stands whole behind its length is what is read
pub body_whole : (front body rest : List ℕ) → length front ≡ 2 → big_number 2 front ≡ length body → ¬ (length body ≡ 0) → length body ≤ 512
    → body_at (front ++ (body ++ rest)) ≡ Ok (body, rest)
unfolding body_at length_at number_at
body_whole front body rest two number some few =
    let not_none : eqb (length body) 0 ≡ false = ne_eqb (length body) 0 some in
    let not_many : ltb 512 (length body) ≡ false = le-ltb 512 (length body) few in
    rw (field_again front (body ++ rest) 2 two, number, not_none, not_many) (field_again body rest (length body) refl)

-- a part is its first two, so many behind them, and the rest
pub part_whole : (xs : List ℕ) (s n e : ℕ) → s + 2 + n ≤ e → part xs s e ≡ part xs s (s + 2) ++ (part xs (s + 2) (s + 2 + n) ++ part xs (s + 2 + n) e)
part_whole xs s n e le =
    part_split xs s 2 e (omega arith) ∙ ap (λ (x : List ℕ). part xs s (s + 2) ++ x) (part_split xs (s + 2) n e le)

-- the next body in a part, where its length says so many and all of them are there
pub has_body : (xs : List ℕ) (s e n : ℕ) (left : List ℕ) → s + 2 + n ≤ e → e ≤ length xs → big_number 2 (take 2 (part xs s e)) ≡ n → ¬ (n ≡ 0) → n ≤ 512
    → body_at (part xs s e ++ left) ≡ Ok (part xs (s + 2) (s + 2 + n), part xs (s + 2 + n) e ++ left)
has_body xs s e n left within end number some few =
    let front = part xs s (s + 2) in
    let body = part xs (s + 2) (s + 2 + n) in
    let rest = part xs (s + 2 + n) e in
    let two : length front ≡ 2 = omega (arith, length-take ((s + 2) - s) (drop s xs), length-drop s xs, within, end) in
    let long : length body ≡ n = omega (arith, length-take ((s + 2 + n) - (s + 2)) (drop (s + 2) xs), length-drop (s + 2) xs, within, end) in
    let cut : part xs s e ≡ front ++ (body ++ rest) = part_whole xs s n e within in
    let front_is : take 2 (part xs s e) ≡ front = ap (take 2) cut ∙ take_at front (body ++ rest) 2 two in
    let whole : part xs s e ++ left ≡ front ++ (body ++ (rest ++ left)) =
    ap (λ (x : List ℕ). x ++ left) cut ∙ append_assoc front (body ++ rest) left ∙ ap (λ (x : List ℕ). front ++ x) (append_assoc body rest left) in
    ap body_at whole ∙ body_whole front body (rest ++ left) two (ap (big_number 2) (sym front_is) ∙ number ∙ sym long) (rw long some) (rw long few)
