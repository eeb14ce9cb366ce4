-- Logs that are written.
use Rattle.std.proofs.Common.{◌≡◌, ◌≢◌, inl, inr, ℕ, Bool, true, false, ◌+◌, ◌<◌, ◌≤◌, List, [], ◌∷◌, ◌++◌, length, take, drop, refl, sym, ap, subst, ◌∙◌, arith}
use Rattle.std.proofs.lemmas.List.{append-nil, length-append, take_at, take-append-drop, nil_from_length}
use Rattle.std.specs.List.{All}
use Rattle.file_laws.specs.LogReading.{IsUnbegun}
use Rattle.file_laws.specs.Texts.{entry_text, header_text, last_digest, log_text}
use Rattle.std.proofs.lemmas.List.Elements.{All-from_recursion, recursion_from_All}
use Rattle.log_file.proofs.Framing.{clash}
use Rattle.log_file.proofs.Stepping.{log_one_more, text_of_none}

-- nothing is left behind what was cut to nothing
pub header_alone : (book synced unsynced synced' : List ℕ) (whole : List ℕ) → synced ≡ take 0 whole → unsynced ≡ [] → synced' ≡ synced ++ unsynced ++ header_text book → synced' ≡ log_text book []
header_alone book synced unsynced synced' whole s u e = e ∙ rw (s, u) (sym (text_of_none book))

-- one more entry is synced
pub one_more : (book synced unsynced synced' text : List ℕ) (entries : List (List (List ℕ))) (bodies : List (List ℕ)) (digest : List ℕ) → synced ≡ log_text book entries → unsynced ≡ []
    → digest ≡ last_digest book entries → text ≡ entry_text digest bodies → synced' ≡ synced ++ unsynced ++ text → synced' ≡ log_text book (entries ++ bodies ∷ [])
one_more book synced unsynced synced' text entries bodies digest s u d t e =
    let front : synced ++ unsynced ≡ log_text book entries = ap (λ (x : List ℕ). synced ++ x) u ∙ append-nil synced ∙ s in
    let more : text ≡ entry_text (last_digest book entries) bodies = t ∙ ap (λ (x : List ℕ). entry_text x bodies) d in
    e ∙ ap (λ (x : List ℕ). x ++ text) front ∙ ap (λ (x : List ℕ). log_text book entries ++ x) more ∙ sym (log_one_more book entries bodies)

-- ---- whether a log was begun

pub front_begun : (book bytes : List ℕ) → (length bytes < length (header_text book)) × (bytes ≡ take (length bytes) (header_text book)) → IsUnbegun book bytes
front_begun book bytes h =
    let whole : header_text book ≡ bytes ++ drop (length bytes) (header_text book) =
    sym (take-append-drop (length bytes) (header_text book)) ∙ ap (λ (x : List ℕ). x ++ drop (length bytes) (header_text book)) (sym h.1) in
    inl (drop (length bytes) (header_text book), (λ none. absurd (omega (arith, h.0, ap length whole, ap length none, length-append bytes (drop (length bytes) (header_text book))))), whole)

pub begun_front : (book bytes rest : List ℕ) → rest ≢ [] → header_text book ≡ bytes ++ rest → (length bytes < length (header_text book)) × (bytes ≡ take (length bytes) (header_text book))
begun_front book bytes rest some e =
    let more : length rest ≢ 0 = λ none. some (nil_from_length rest none) in
    (omega (arith, ap length e, length-append bytes rest, more), sym (ap (take (length bytes)) e ∙ take_at bytes rest (length bytes) refl))

-- the bytes are a proper beginning of a header
abbrev pub IsFront : List ℕ → List ℕ → Type 0
IsFront bytes header = (length bytes < length header) × (bytes ≡ take (length bytes) header)

pub front_is : (book bytes header : List ℕ) → header ≡ header_text book → IsFront bytes header → IsUnbegun book bytes
front_is book bytes header is front = front_begun book bytes (subst (IsFront bytes) is front)

-- what is found of bytes that are no beginning of it
front_found : (book bytes header : List ℕ) (found : Bool) (rest : List ℕ) → header ≡ header_text book → (IsFront bytes header → found ≡ true) → found ≡ false → rest ≢ [] → header_text book ≡ bytes ++ rest → ⊥
front_found book bytes header found rest is finds f some e = clash found (finds (subst (IsFront bytes) (sym is) (begun_front book bytes rest some e))) f

pub not_long : (book bytes header : List ℕ) (found : Bool) → header ≡ header_text book → (IsFront bytes header → found ≡ true) → found ≡ false → 38 < length bytes → ¬ IsUnbegun book bytes
not_long book bytes header found is finds f long (inl front) = front_found book bytes header found front.0 is finds f front.1 front.2
not_long book bytes header found is finds f long (inr zeros) = absurd (omega (arith, long, zeros.0))

pub zeros_unbegun : (book bytes : List ℕ) → length bytes ≤ 38 → All (λ byte. byte ≡ 0) bytes → IsUnbegun book bytes
zeros_unbegun book bytes few all = inr (few, recursion_from_All (λ byte. byte ≡ 0) bytes all)

pub unbegun_zeros : (book bytes header : List ℕ) (found : Bool) → header ≡ header_text book → (IsFront bytes header → found ≡ true) → found ≡ false → IsUnbegun book bytes → All (λ byte. byte ≡ 0) bytes
unbegun_zeros book bytes header found is finds f (inl front) = absurd (front_found book bytes header found front.0 is finds f front.1 front.2)
unbegun_zeros book bytes header found is finds f (inr zeros) = All-from_recursion (λ byte. byte ≡ 0) bytes zeros.1

pub never_true : false ≡ true → ⊥
never_true e = cc
