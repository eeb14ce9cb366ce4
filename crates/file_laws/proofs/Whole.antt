-- Whatever bytes there are, they are read.
use Rattle.std.proofs.Common.{◌≡◌, ◌≢◌, ◌⊎◌, inl, inr, ℕ, zero, suc, ◌<◌, ◌≤◌, ◌+◌, ◌^◌, List, [], ◌∷◌, ◌++◌, length, take, drop, Result, Ok, Err, refl, sym, ap, subst, ◌∙◌, arith, append_assoc}
use Rattle.std.specs.List.{All}
use Rattle.std.proofs.lemmas.List.{length-append, length-drop, length-take-le, take-append-drop, drop-drop}
use Rattle.std.proofs.lemmas.List.Elements.{recursion_from_All}
use Rattle.std.proofs.lemmas.Bool.{cases_lt}
use Rattle.sha2.specs.Sha256.{sha256}
use Rattle.byteorder.specs.Endian.{big_number}
use Rattle.file_laws.specs.Files.{AreBodies}
use Rattle.file_laws.specs.declared.batch_fault.BatchFault.{BatchFault}
use Rattle.file_laws.specs.LogReading.{AreEntries, IsBrokenAt, IsLogOf, IsReading, Stands}
use Rattle.file_laws.specs.Tails.{AreZeros, BeginsWith, IsBroken, IsTorn}
use Rattle.file_laws.specs.Texts.{digest_after, entries_text, entry_head, entry_text, first_digest, header_text, log_letters, log_text, log_version, next_digest, payload_text}
use Rattle.file_laws.specs.declared.log_fault.LogFault.{LogFault}
use Rattle.file_laws.specs.declared.log_fault.LogFault.TheVariants.{NoLog, Version, OtherBook, Broken}
use Rattle.file_laws.proofs.Choices.{same_or_not, some_or_none}
use Rattle.file_laws.proofs.Heads.{behind_head, number_in_head}
use Rattle.file_laws.proofs.Payloads.{AreBytes, payload_again, payload_read, payload_taken}
use Rattle.file_laws.proofs.LogSteps.{Parts, all_zeros, cut_short, entry_here, length-entry, no_head, no_payload, other_digest, too_short, unmatched}
use Rattle.file_laws.proofs.Once.{rest_of}

-- what stands next
data Next (before left : List ℕ) : Type 0 where
  Torn : IsTorn before left → Next before left
  Broken_here : IsBroken before left → Next before left
  Entry_here : (bodies : List (List ℕ)) (rest : List ℕ) → BeginsWith before left bodies rest → Next before left

bytes_behind : (count : ℕ) (bytes : List ℕ) → AreBytes bytes → AreBytes (drop count bytes)
bytes_behind zero bytes all = all
bytes_behind (suc n) [] all = tt
bytes_behind (suc n) (b ∷ bytes) all = bytes_behind n bytes all.1

bytes_before : (count : ℕ) (bytes : List ℕ) → AreBytes bytes → AreBytes (take count bytes)
bytes_before zero bytes all = tt
bytes_before (suc n) [] all = tt
bytes_before (suc n) (b ∷ bytes) all = (all.0, bytes_before n bytes all.1)

zeros_or_not : (bytes : List ℕ) → AreZeros bytes ⊎ (¬ AreZeros bytes)
zeros_or_not [] = inl tt
zeros_or_not (zero ∷ bytes) = elim (zeros_or_not bytes) [ inl all ↦ inl (refl, all) | inr some ↦ inr (λ all. some all.1) ]
zeros_or_not (suc n ∷ bytes) = inr (λ all. absurd (omega (arith, all.0)))

clashes : {A : Type 0} (x : A) (e : BatchFault) → Path (Result A BatchFault) (Err e) (Ok x) → ⊥
clashes x e h = cc

read_or_not : (payload : List ℕ) → AreBytes payload → (read : Result (List (List ℕ)) BatchFault) → payload_read payload ≡ read
    → ((bodies : List (List ℕ)) × AreBodies bodies × (payload ≡ payload_text bodies)) ⊎ ((bodies : List (List ℕ)) → AreBodies bodies → payload ≢ payload_text bodies)
read_or_not payload all (Ok bodies) is = let taken = payload_taken payload bodies all is in inl (bodies, taken.0, taken.1)
read_or_not payload all (Err fault) is = inr (λ bodies are e. clashes bodies fault (sym is ∙ ap payload_read e ∙ payload_again bodies are))

-- bodies, or none
bodies_or_none : (payload : List ℕ) → AreBytes payload
    → ((bodies : List (List ℕ)) × AreBodies bodies × (payload ≡ payload_text bodies)) ⊎ ((bodies : List (List ℕ)) → AreBodies bodies → payload ≢ payload_text bodies)
bodies_or_none payload all = read_or_not payload all (payload_read payload) refl

next_unmatched : (before left payload digest rest : List ℕ) → Parts left payload digest rest → digest ≢ sha256 (before ++ payload) → ((rest ≡ []) ⊎ (rest ≢ [])) → Next before left
next_unmatched before left payload digest rest p other (inl none) =
    Torn (unmatched before left payload digest (subst (λ (x : List ℕ). Parts left payload digest x) none p) other)
next_unmatched before left payload digest rest p other (inr some) = Broken_here (other_digest before left payload digest rest p other some)

-- behind a whole entry's parts
next_of_parts : (before left payload digest rest : List ℕ) → AreBytes payload → Parts left payload digest rest → Next before left
next_of_parts before left payload digest rest all p =
    elim (same_or_not digest (sha256 (before ++ payload))) [
      | inl same ↦ elim (bodies_or_none payload all) [
        | inl there ↦ Entry_here there.0 rest (entry_here before left payload digest rest there.0 p same there.1 there.2)
        | inr none ↦ Broken_here (no_payload before left payload digest rest p same none)
      ]
      | inr other ↦ next_unmatched before left payload digest rest p other (some_or_none rest)
    ]

-- so many bytes behind a head
pub parts_at : (left : List ℕ) (size : ℕ) → size < 2 ^ 32 → take 8 left ≡ entry_head size → 8 + size + 32 ≤ length left
    → Parts left (take size (drop 8 left)) (take 32 (drop size (drop 8 left))) (drop 32 (drop size (drop 8 left)))
parts_at left size fits head long =
    let behind = drop 8 left in
    let payload = take size behind in
    let more = drop size behind in
    let len : length payload ≡ size = length-take-le size behind (omega (arith, length-drop 8 left, long)) in
    let two : behind ≡ payload ++ (take 32 more ++ drop 32 more) =
    sym (take-append-drop size behind) ∙ ap (λ (x : List ℕ). payload ++ x) (sym (take-append-drop 32 more)) in
    record {
      fits = rw len fits;
      is = behind_head left size head ∙ ap (λ (x : List ℕ). entry_head size ++ x) two ∙ ap (λ (n : ℕ). entry_head n ++ (payload ++ (take 32 more ++ drop 32 more))) (sym len);
      width = length-take-le 32 more (omega (arith, length-drop size behind, length-drop 8 left, long));
    }

next_behind_head : (before left : List ℕ) (size : ℕ) → AreBytes left → size < 2 ^ 32 → take 8 left ≡ entry_head size → Next before left
next_behind_head before left size all fits head =
    elim (cases_lt (length left) (8 + size + 32)) [
      | inl short ↦ Torn (cut_short before left size fits head short)
      | inr long ↦ next_of_parts before left (take size (drop 8 left)) (take 32 (drop size (drop 8 left))) (drop 32 (drop size (drop 8 left)))
          (bytes_before size (drop 8 left) (bytes_behind 8 left all)) (parts_at left size fits head long)
    ]

number_fits : (bytes : List ℕ) → 8 ≤ length bytes → AreBytes bytes → big_number 4 bytes < 2 ^ 32
number_fits [] long all = absurd (omega (arith, long))
number_fits (a ∷ []) long all = absurd (omega (arith, long))
number_fits (a ∷ b ∷ []) long all = absurd (omega (arith, long))
number_fits (a ∷ b ∷ c ∷ []) long all = absurd (omega (arith, long))
number_fits (a ∷ b ∷ c ∷ d ∷ more) long all = omega (arith, all.0, all.1.0, all.1.1.0, all.1.1.1.0)

-- a head says the number that it begins with
pub its_number : (left : List ℕ) (size : ℕ) → size < 2 ^ 32 → take 8 left ≡ entry_head size → big_number 4 left ≡ size
its_number left size fits head = ap (big_number 4) (behind_head left size head) ∙ number_in_head size (drop 8 left) fits

next_of_eight : (before left : List ℕ) → AreBytes left → 8 ≤ length left → Next before left
next_of_eight before left all long =
    elim (same_or_not (take 8 left) (entry_head (big_number 4 left))) [
      | inl head ↦ next_behind_head before left (big_number 4 left) all (number_fits left long all) head
      | inr other ↦
          let none : (size : ℕ) → size < 2 ^ 32 → take 8 left ≢ entry_head size = λ size fits head. other (head ∙ ap entry_head (sym (its_number left size fits head))) in
          elim (zeros_or_not left) [
            | inl zeros ↦ Torn (all_zeros before left zeros)
            | inr some ↦ Broken_here (no_head before left long none some)
          ]
    ]

next : (before left : List ℕ) → AreBytes left → Next before left
next before left all = elim (cases_lt (length left) 8) [ inl short ↦ Torn (too_short before left short) | inr long ↦ next_of_eight before left all long ]

-- entries, and what stands behind them
record Found (before bytes : List ℕ) : Type 0 where
  entries : List (List (List ℕ))
  left : List ℕ
  are : AreEntries entries
  is : bytes ≡ entries_text before entries ++ left
  ends : IsTorn (digest_after before entries) left ⊎ IsBroken (digest_after before entries) left

none_found : (before bytes : List ℕ) → IsTorn before bytes ⊎ IsBroken before bytes → Found before bytes
unfolding entries_text digest_after
none_found before bytes ends = record { entries = []; left = bytes; are = tt; is = refl; ends = ends }

one_found : (before bytes : List ℕ) (bodies : List (List ℕ)) (rest : List ℕ) → BeginsWith before bytes bodies rest → Found (next_digest before bodies) rest → Found before bytes
unfolding entries_text digest_after
one_found before bytes bodies rest begins found = record {
  entries = bodies ∷ found.entries;
  left = found.left;
  are = (begins.are, found.are);
  is = begins.is ∙ ap (λ (x : List ℕ). entry_text before bodies ++ x) found.is ∙ sym (append_assoc (entry_text before bodies) (entries_text (next_digest before bodies) found.entries) found.left);
  ends = found.ends;
}

find : (fuel : ℕ) (before bytes : List ℕ) → length bytes < fuel → AreBytes bytes → Found before bytes
find zero before bytes few all = absurd (omega (arith, few))
find (suc fuel) before bytes few all =
    elim (next before bytes all) [
      | Torn torn ↦ none_found before bytes (inl torn)
      | Broken_here broken ↦ none_found before bytes (inr broken)
      | Entry_here bodies rest begins ↦
          let fewer : length rest < fuel = omega (arith, few, ap length begins.is, length-append (entry_text before bodies) rest, length-entry before bodies) in
          one_found before bytes bodies rest begins (find fuel (next_digest before bodies) rest fewer (rest_of (entry_text before bodies) rest (subst AreBytes begins.is all)))
    ]

abbrev HasReading : List ℕ → List ℕ → Type 0
HasReading book bytes = (reading : Result (List (List (List ℕ)) × List ℕ) LogFault) × IsReading book bytes reading

found_reading : (book bytes behind : List ℕ) → bytes ≡ header_text book ++ behind → Found (first_digest book) behind → HasReading book bytes
found_reading book bytes behind is found =
    let text : bytes ≡ log_text book found.entries ++ found.left =
    is ∙ ap (λ (x : List ℕ). header_text book ++ x) found.is ∙ sym (append_assoc (header_text book) (entries_text (first_digest book) found.entries) found.left) in
    let stands : Stands book bytes found.entries found.left = record { are = found.are; is = text } in
    elim found.ends [
      | inl torn ↦ let log : IsLogOf book bytes found.entries found.left = record { stands = stands; torn = torn } in (Ok (found.entries, found.left), log)
      | inr broken ↦
          let at : IsBrokenAt book bytes (length found.entries) = record { entries = found.entries; left = found.left; stands = stands; count = refl; broken = broken } in
          (Err (Broken (length found.entries)), at)
    ]

-- three parts of a header, and the bytes behind it
pub header_parts : (book bytes : List ℕ) → 38 ≤ length bytes → take 4 bytes ≡ log_letters → take 2 (drop 4 bytes) ≡ log_version → take 32 (drop 6 bytes) ≡ book
    → bytes ≡ header_text book ++ drop 38 bytes
header_parts book bytes long letters version its_book =
    let two = take-append-drop 2 (drop 4 bytes) in
    let three = take-append-drop 32 (drop 6 bytes) in
    let six : drop 2 (drop 4 bytes) ≡ drop 6 bytes = drop-drop 2 4 bytes in
    let rest : drop 32 (drop 6 bytes) ≡ drop 38 bytes = drop-drop 32 6 bytes in
    let back : drop 6 bytes ≡ book ++ drop 38 bytes = sym three ∙ rw (its_book, rest) refl in
    let middle : drop 4 bytes ≡ log_version ++ (book ++ drop 38 bytes) = sym two ∙ rw (version, six, back) refl in
    sym (take-append-drop 4 bytes) ∙ rw (letters, middle) refl

with_header : (book bytes : List ℕ) → AreBytes bytes → 38 ≤ length bytes → HasReading book bytes
with_header book bytes all long =
    elim (same_or_not (take 4 bytes) log_letters) [
      | inr other ↦ (Err NoLog, inr other)
      | inl letters ↦ elim (same_or_not (take 2 (drop 4 bytes)) log_version) [
        | inr other ↦ (Err Version, record { long = long; letters = letters; version = other })
        | inl version ↦ elim (same_or_not (take 32 (drop 6 bytes)) book) [
          | inr other ↦ (Err OtherBook, record { long = long; letters = letters; version = version; other = other })
          | inl its_book ↦
              found_reading book bytes (drop 38 bytes) (header_parts book bytes long letters version its_book)
              (find (suc (length (drop 38 bytes))) (first_digest book) (drop 38 bytes) (omega arith) (bytes_behind 38 bytes all))
        ]
      ]
    ]

pub some_reading : (book bytes : List ℕ) → length book ≡ 32 → All (λ byte. byte < 256) bytes → HasReading book bytes
some_reading book bytes len all =
    elim (cases_lt (length bytes) 38) [
      | inl short ↦ (Err NoLog, inl short)
      | inr long ↦ with_header book bytes (recursion_from_All (λ byte. byte < 256) bytes all) long
    ]
