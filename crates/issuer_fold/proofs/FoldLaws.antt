-- One more body that is decided.
use Rattle.std.proofs.Common.{◌≡◌, ℕ, suc, ◌+◌, ◌-◌, ◌<◌, List, [], ◌∷◌, ◌++◌, take, drop, length, get_or, refl, sym, ap, ◌∙◌, add-one, take-append-drop, arith}
use Rattle.std.proofs.lemmas.List.{take_all, length-drop}
use Rattle.std.proofs.Math.Seq.{drop-cons, take-suc}
use Rattle.issuer_words.specs.Words.{Frame, Rows, replies_to, reply_of, rows_after, rows_after_one}

-- what is left begins with the item that a loop is at
pub left_in_turn : {X : Type 0} (xs : List X) (i : ℕ) (x : X) → i < length xs → x ≡ get_or xs i x → drop i xs ≡ x ∷ drop (i + 1) xs
left_in_turn xs i x lt at = rw add-one (drop-cons xs i x lt ∙ ap (λ y. y ∷ drop (suc i) xs) (sym at))

-- what is behind this place, as a slice's rest says it
pub rest_is : {X : Type 0} (xs : List X) (i : ℕ) → take (length xs - i) (drop i xs) ≡ drop i xs
rest_is xs i = take_all (length xs - i) (drop i xs) (omega (arith, length-drop i xs))

-- the bodies of two lists, one list after the other
pub rows_after-append : (rows : Rows) (front back : List Frame) → rows_after rows (front ++ back) ≡ rows_after (rows_after rows front) back
rows_after-append rows [] back = refl
rows_after-append rows (frame ∷ front) back = rows_after-append (rows_after_one rows frame) front back

pub replies_to-append : (rows : Rows) (front back : List Frame) → replies_to rows (front ++ back) ≡ replies_to rows front ++ replies_to (rows_after rows front) back
replies_to-append rows [] back = refl
replies_to-append rows (frame ∷ front) back = ap (λ replies. reply_of rows frame ∷ replies) (replies_to-append (rows_after_one rows frame) front back)

-- the first bodies, and then the rest
pub rows_of_both : (rows : Rows) (frames : List Frame) (k : ℕ) → rows_after (rows_after rows (take k frames)) (drop k frames) ≡ rows_after rows frames
rows_of_both rows frames k = sym (rows_after-append rows (take k frames) (drop k frames)) ∙ ap (rows_after rows) (take-append-drop k frames)

pub replies_of_both : (rows : Rows) (frames : List Frame) (k : ℕ)
    → replies_to rows (take k frames) ++ replies_to (rows_after rows (take k frames)) (drop k frames) ≡ replies_to rows frames
replies_of_both rows frames k = sym (replies_to-append rows (take k frames) (drop k frames)) ∙ ap (replies_to rows) (take-append-drop k frames)

-- one body more behind the first ones
first_and_next : (frames : List Frame) (i : ℕ) (frame : Frame) → i < length frames → frame ≡ get_or frames i frame → take (i + 1) frames ≡ take i frames ++ frame ∷ []
first_and_next frames i frame lt at = rw add-one (take-suc frames i frame lt ∙ ap (λ next. take i frames ++ next ∷ []) (sym at))

pub rows_of_one_more : (rows : Rows) (frames : List Frame) (i : ℕ) (frame : Frame) → i < length frames → frame ≡ get_or frames i frame
    → rows_after_one (rows_after rows (take i frames)) frame ≡ rows_after rows (take (i + 1) frames)
rows_of_one_more rows frames i frame lt at =
    sym (rows_after-append rows (take i frames) (frame ∷ [])) ∙ ap (rows_after rows) (sym (first_and_next frames i frame lt at))

pub replies_of_one_more : (rows : Rows) (frames : List Frame) (i : ℕ) (frame : Frame) → i < length frames → frame ≡ get_or frames i frame
    → replies_to rows (take i frames) ++ reply_of (rows_after rows (take i frames)) frame ∷ [] ≡ replies_to rows (take (i + 1) frames)
replies_of_one_more rows frames i frame lt at =
    sym (replies_to-append rows (take i frames) (frame ∷ [])) ∙ ap (replies_to rows) (sym (first_and_next frames i frame lt at))

-- one reply for each body
pub length-replies_to : (rows : Rows) (frames : List Frame) → length (replies_to rows frames) ≡ length frames
length-replies_to rows [] = refl
length-replies_to rows (frame ∷ frames) = ap suc (length-replies_to (rows_after_one rows frame) frames)
