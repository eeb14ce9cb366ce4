-- What no frame begins with.
use Rattle.std.proofs.Common.{◌≡◌, ℕ, zero, suc, ◌<◌, ◌≤◌, true, false, ltb, eqb, List, [], ◌∷◌, ◌++◌, length, take, drop, Result, Ok, Err, ◌⊎◌, inl, inr, refl, sym, ap, ◌∙◌, arith}
use Rattle.std.proofs.lemmas.Bool.{lt-ltb, le-ltb, ltb-true, ltb-false, eqb-true, eqb-false, ne_eqb}
use Rattle.std.specs.List.{flat_map}
use Rattle.std.proofs.lemmas.List.{length-drop, append-nil}
use Rattle.byteorder.specs.Endian.{big_number}
use Rattle.file_laws.specs.Reading.{field_at, number_at, length_at, body_at, bodies_at}
use Rattle.file_laws.specs.Files.{framed, IsBody}
use Rattle.file_laws.proofs.Again.{bodies_again}
use Rattle.file_laws.specs.declared.batch_fault.BatchFault.{BatchFault}
use Rattle.file_laws.specs.declared.batch_fault.BatchFault.TheVariants.{Ended, Length}
use Rattle.link_frames.specs.Link.{HasFrame, IsPart, HasWrongLength, IsNoFrame}

field_short : (size : ℕ) (bytes : List ℕ) → length bytes < size → field_at size bytes ≡ Err Ended
field_short size bytes lt = rw (lt-ltb (length bytes) size lt) refl

field_there : (size : ℕ) (bytes : List ℕ) → size ≤ length bytes → field_at size bytes ≡ Ok (take size bytes, drop size bytes)
field_there size bytes le = rw (le-ltb (length bytes) size le) refl

-- fewer bytes than a length has
pub no_length : (bytes : List ℕ) → length bytes < 2 → IsPart bytes
unfolding body_at length_at number_at
no_length bytes lt = rw (field_short 2 bytes lt) refl

same_number : (bytes : List ℕ) → 2 ≤ length bytes → big_number 2 (take 2 bytes) ≡ big_number 2 bytes
same_number [] le = absurd (omega (arith, le))
same_number (a ∷ []) le = absurd (omega (arith, le))
same_number (a ∷ b ∷ bytes) le = refl

number_there : (bytes : List ℕ) → 2 ≤ length bytes → number_at 2 bytes ≡ Ok (big_number 2 bytes, drop 2 bytes)
unfolding number_at
number_there bytes le = rw (field_there 2 bytes le, same_number bytes le) refl

-- a length of 0, or over 512
pub wrong_length : (bytes : List ℕ) → 2 ≤ length bytes → (big_number 2 bytes ≡ 0) ⊎ (512 < big_number 2 bytes) → HasWrongLength bytes
unfolding body_at length_at
wrong_length bytes le (inl none) = rw (number_there bytes le, none) refl
wrong_length bytes le (inr many) =
    let n = big_number 2 bytes in
    let some : eqb n 0 ≡ false = ne_eqb n 0 (λ e. absurd (omega (arith, many, e))) in
    rw (number_there bytes le, some, lt-ltb 512 n many) refl

length_there : (bytes : List ℕ) → 2 ≤ length bytes → 1 ≤ big_number 2 bytes → big_number 2 bytes ≤ 512 → length_at bytes ≡ Ok (big_number 2 bytes, drop 2 bytes)
unfolding length_at
length_there bytes le low high =
    let n = big_number 2 bytes in
    let some : eqb n 0 ≡ false = ne_eqb n 0 (λ e. absurd (omega (arith, low, e))) in
    rw (number_there bytes le, some, le-ltb 512 n high) refl

-- fewer bytes behind a length than it says
pub no_body : (bytes : List ℕ) → 2 ≤ length bytes → 1 ≤ big_number 2 bytes → big_number 2 bytes ≤ 512 → length (drop 2 bytes) < big_number 2 bytes → IsPart bytes
unfolding body_at
no_body bytes le low high lt = rw (length_there bytes le low high) (field_short (big_number 2 bytes) (drop 2 bytes) lt)

below : (size : ℕ) (bytes : List ℕ) → field_at size bytes ≡ Err Ended → length bytes < size
below size bytes failed =
    elim (ltb (length bytes) size) as (λ b. ltb (length bytes) size ≡ b → length bytes < size) [
      | true ↦ λ e. ltb-true (length bytes) size e
      | false ↦ λ e. absurd (let there = field_there size bytes (ltb-false (length bytes) size e) in cc)
    ] refl

some_length : (n : ℕ) → (n ≡ 0 → ⊥) → 1 ≤ n
some_length zero ne = absurd (ne refl)
some_length (suc n) ne = omega arith

-- what a wrong length is can't be less than a frame
not_both : (bytes : List ℕ) → HasWrongLength bytes → IsPart bytes → ⊥
not_both bytes wrong part = let two : Path (Result (List ℕ × List ℕ) BatchFault) (Err Length) (Err Ended) = sym wrong ∙ part in cc

-- a length that can be read, and then fewer bytes than it says
body_short : (bytes : List ℕ) → 2 ≤ length bytes → 1 ≤ big_number 2 bytes → big_number 2 bytes ≤ 512 → IsPart bytes → length bytes < 514
unfolding body_at
body_short bytes le low high part =
    let n = big_number 2 bytes in
    let fails : field_at n (drop 2 bytes) ≡ Err Ended = rw (length_there bytes le low high) at part in
    omega (arith, below n (drop 2 bytes) fails, length-drop 2 bytes)

short_body : (bytes : List ℕ) → 2 ≤ length bytes → IsPart bytes → length bytes < 514
short_body bytes le part =
    let n = big_number 2 bytes in
    elim (eqb n 0) as (λ b. eqb n 0 ≡ b → length bytes < 514) [
      | true ↦ λ e. absurd (not_both bytes (wrong_length bytes le (inl (eqb-true n 0 e))) part)
      | false ↦ λ e. elim (ltb 512 n) as (λ b. ltb 512 n ≡ b → length bytes < 514) [
        | true ↦ λ f. absurd (not_both bytes (wrong_length bytes le (inr (ltb-true 512 n f))) part)
        | false ↦ λ f. body_short bytes le (some_length n (eqb-false n 0 e)) (ltb-false 512 n f) part
      ] refl
    ] refl

-- less than a frame is less than the longest one
pub part_is_short : (bytes : List ℕ) → IsPart bytes → length bytes < 514
part_is_short bytes part =
    elim (ltb (length bytes) 2) as (λ b. ltb (length bytes) 2 ≡ b → length bytes < 514) [
      | true ↦ λ e. omega (arith, ltb-true (length bytes) 2 e)
      | false ↦ λ e. short_body bytes (ltb-false (length bytes) 2 e) part
    ] refl

-- a length that isn't wrong
no_fault : (a b : ℕ) (bytes : List ℕ) → 1 ≤ big_number 2 (a ∷ b ∷ bytes) → big_number 2 (a ∷ b ∷ bytes) ≤ 512 → HasWrongLength (a ∷ b ∷ bytes) → ⊥
unfolding body_at
no_fault a b bytes low high wrong =
    let n = big_number 2 (a ∷ b ∷ bytes) in
    let read : field_at n bytes ≡ Err Length = rw (length_there (a ∷ b ∷ bytes) (omega arith) low high) at wrong in
    elim (ltb (length bytes) n) as (λ t. ltb (length bytes) n ≡ t → ⊥) [
      | true ↦ λ e. let two : Path (Result (List ℕ × List ℕ) BatchFault) (Err Ended) (Err Length) = sym (field_short n bytes (ltb-true (length bytes) n e)) ∙ read in cc
      | false ↦ λ e. let two : Path (Result (List ℕ × List ℕ) BatchFault) (Ok (take n bytes, drop n bytes)) (Err Length) = sym (field_there n bytes (ltb-false (length bytes) n e)) ∙ read in cc
    ] refl

-- what a wrong length is
wrong_is : (a b : ℕ) (bytes : List ℕ) → HasWrongLength (a ∷ b ∷ bytes) → (big_number 2 (a ∷ b ∷ bytes) ≡ 0) ⊎ (512 < big_number 2 (a ∷ b ∷ bytes))
wrong_is a b bytes wrong =
    let n = big_number 2 (a ∷ b ∷ bytes) in
    elim (eqb n 0) as (λ t. eqb n 0 ≡ t → (n ≡ 0) ⊎ (512 < n)) [
      | true ↦ λ e. inl (eqb-true n 0 e)
      | false ↦ λ e. elim (ltb 512 n) as (λ t. ltb 512 n ≡ t → (n ≡ 0) ⊎ (512 < n)) [
        | true ↦ λ f. inr (ltb-true 512 n f)
        | false ↦ λ f. absurd (no_fault a b bytes (some_length n (eqb-false n 0 e)) (ltb-false 512 n f) wrong)
      ] refl
    ] refl

-- it is one however the bytes go on
pub wrong_more : (bytes more : List ℕ) → HasWrongLength bytes → HasWrongLength (bytes ++ more)
wrong_more [] more wrong = absurd (not_both [] wrong (no_length [] (omega arith)))
wrong_more (a ∷ []) more wrong = absurd (not_both (a ∷ []) wrong (no_length (a ∷ []) (omega arith)))
wrong_more (a ∷ b ∷ bytes) more wrong = wrong_length (a ∷ b ∷ bytes ++ more) (omega arith) (wrong_is a b bytes wrong)

-- a frame is read as its body
frame_is_read : (bytes body behind : List ℕ) (e : BatchFault) → IsBody body → bytes ≡ framed body ++ behind → body_at bytes ≡ Err e → ⊥
unfolding bodies_at
frame_is_read bytes body behind e is all failed =
    let one : bodies_at 1 bytes ≡ Err e = rw failed refl in
    let regrouped : flat_map framed (body ∷ []) ++ behind ≡ bytes = ap (λ (x : List ℕ). x ++ behind) (append-nil (framed body)) ∙ sym all in
    let two : Path (Result (List (List ℕ) × List ℕ) BatchFault) (Ok (body ∷ [], behind)) (Err e) = sym (bodies_again (body ∷ []) behind (is, tt)) ∙ ap (bodies_at 1) regrouped ∙ one in
    cc

stands : (bytes body behind : List ℕ) → IsBody body → bytes ≡ framed body ++ behind → IsNoFrame bytes → ⊥
stands bytes body behind is all (inl part) = frame_is_read bytes body behind Ended is all part
stands bytes body behind is all (inr wrong) = frame_is_read bytes body behind Length is all wrong

-- where a frame stands first there is no fault
pub not_none : (bytes : List ℕ) → HasFrame bytes → IsNoFrame bytes → ⊥
not_none bytes frame none = stands bytes frame.0 frame.1 frame.2 frame.3 none
