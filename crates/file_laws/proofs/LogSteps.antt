-- What stands next behind the whole entries of a log.
use Rattle.std.proofs.Common.{◌≡◌, ◌≢◌, inl, inr, ℕ, zero, suc, ◌<◌, ◌≤◌, ◌+◌, ◌^◌, List, [], ◌++◌, length, take, drop, replicate, refl, sym, ap, subst, ◌∙◌, arith, append_assoc}
use Rattle.std.proofs.lemmas.List.{take_at, drop_at, length-append, append-nil, nil_from_length, take-append-le}
use Rattle.std.proofs.lemmas.Bool.{cases_lt}
use Rattle.sha2.specs.Sha256.{sha256}
use Rattle.sha2.proofs.Facts256.{length-sha256}
use Rattle.file_laws.specs.Files.{AreBodies}
use Rattle.file_laws.specs.Tails.{AreZeros, BeginsWith, IsBroken, IsCutShort, IsTorn, IsUnmatched}
use Rattle.file_laws.specs.Texts.{entry_head, entry_text, next_digest, payload_text}
use Rattle.file_laws.proofs.Heads.{length-head, numbers_apart, rests_apart, no_zeros, front_of_head, behind_head}
use Rattle.file_laws.proofs.Payloads.{payloads_apart, payload_fits}

-- no entry stands at the beginning
abbrev pub NoEntry : List ℕ → List ℕ → Type 0
NoEntry before left = (bodies : List (List ℕ)) (rest : List ℕ) → ¬ BeginsWith before left bodies rest

-- an entry in its parts, and what stands behind it
pub entry_parts : (before : List ℕ) (bodies : List (List ℕ)) (left : List ℕ)
    → entry_text before bodies ++ left ≡ entry_head (length (payload_text bodies)) ++ (payload_text bodies ++ (next_digest before bodies ++ left))
entry_parts before bodies left = simp append_assoc

pub length-entry : (before : List ℕ) (bodies : List (List ℕ)) → length (entry_text before bodies) ≡ 8 + length (payload_text bodies) + 32
length-entry before bodies =
    let size = length (payload_text bodies) in
    let front = length-append (entry_head size) (payload_text bodies) in
    let whole = length-append (entry_head size ++ payload_text bodies) (next_digest before bodies) in
    omega (arith, front, whole, length-head size, length-sha256 (before ++ payload_text bodies))

-- two lists in two parts, of which the first are alike long
pub parts_apart : (xs ys us vs : List ℕ) → length xs ≡ length ys → xs ++ us ≡ ys ++ vs → (xs ≡ ys) × (us ≡ vs)
parts_apart xs ys us vs len e = (
  sym (take_at xs us (length ys) len) ∙ ap (take (length ys)) e ∙ take_at ys vs (length ys) refl,
  sym (drop_at xs us (length ys) len) ∙ ap (drop (length ys)) e ∙ drop_at ys vs (length ys) refl,
)

-- the bytes are a head, a payload, a digest and the bytes behind it
pub record Parts (left payload digest rest : List ℕ) : Type 0 where
  pub fits : length payload < 2 ^ 32
  pub is : left ≡ entry_head (length payload) ++ (payload ++ (digest ++ rest))
  pub width : length digest ≡ 32

-- an entry is in such parts
pub parts_of : (before left : List ℕ) (bodies : List (List ℕ)) (rest : List ℕ) → BeginsWith before left bodies rest → Parts left (payload_text bodies) (next_digest before bodies) rest
parts_of before left bodies rest begins =
    record { fits = payload_fits bodies begins.are; is = begins.is ∙ entry_parts before bodies rest; width = length-sha256 (before ++ payload_text bodies) }

-- the parts of the same bytes are the same
pub record Alike (payload other digest other_digest rest other_rest : List ℕ) : Type 0 where
  pub payloads : payload ≡ other
  pub digests : digest ≡ other_digest
  pub rests : rest ≡ other_rest

pub alike : (left payload digest rest other other_digest other_rest : List ℕ) → Parts left payload digest rest → Parts left other other_digest other_rest
    → Alike payload other digest other_digest rest other_rest
alike left payload digest rest other other_digest other_rest p q =
    let whole = sym p.is ∙ q.is in
    let sizes = numbers_apart (length payload) (length other) (payload ++ (digest ++ rest)) (other ++ (other_digest ++ other_rest)) p.fits q.fits whole in
    let behind = rests_apart (length payload) (length other) (payload ++ (digest ++ rest)) (other ++ (other_digest ++ other_rest)) whole in
    let two = parts_apart payload other (digest ++ rest) (other_digest ++ other_rest) sizes behind in
    let three = parts_apart digest other_digest rest other_rest (p.width ∙ sym q.width) two.1 in
    record { payloads = two.0; digests = three.0; rests = three.1 }

-- bytes in such parts are a torn tail only where nothing follows, and the digest isn't that of the payload
abbrev OnlyUnmatched : List ℕ → List ℕ → List ℕ → List ℕ → Type 0
OnlyUnmatched before payload digest rest = (rest ≡ []) × (digest ≢ sha256 (before ++ payload))

length-parts : (left payload digest rest : List ℕ) → Parts left payload digest rest → length left ≡ 8 + length payload + 32 + length rest
length-parts left payload digest rest p =
    omega (arith, ap length p.is, length-append (entry_head (length payload)) (payload ++ (digest ++ rest)), length-head (length payload), length-append payload (digest ++ rest), length-append digest rest, p.width)

short_parts : (before left payload digest rest : List ℕ) → Parts left payload digest rest → length left < 8 → OnlyUnmatched before payload digest rest
short_parts before left payload digest rest p short = absurd (omega (arith, short, length-parts left payload digest rest p))

cut_parts : (before left payload digest rest : List ℕ) → Parts left payload digest rest → IsCutShort left → OnlyUnmatched before payload digest rest
cut_parts before left payload digest rest p cut =
    let same = numbers_apart (length payload) cut.size (payload ++ (digest ++ rest)) cut.rest p.fits cut.fits (sym p.is ∙ cut.is) in
    let behind = rests_apart (length payload) cut.size (payload ++ (digest ++ rest)) cut.rest (sym p.is ∙ cut.is) in
    absurd (omega (arith, same, ap length behind, length-append payload (digest ++ rest), length-append digest rest, p.width, cut.short))

unmatched_parts : (before left payload digest rest : List ℕ) → Parts left payload digest rest → IsUnmatched before left → OnlyUnmatched before payload digest rest
unmatched_parts before left payload digest rest p un =
    let text : left ≡ entry_head (length un.payload) ++ (un.payload ++ (un.digest ++ [])) =
    un.is ∙ append_assoc (entry_head (length un.payload)) un.payload un.digest ∙ ap (λ (x : List ℕ). entry_head (length un.payload) ++ (un.payload ++ x)) (sym (append-nil un.digest)) in
    let q : Parts left un.payload un.digest [] = record { fits = un.fits; is = text; width = un.width } in
    let same = alike left payload digest rest un.payload un.digest [] p q in
    (same.rests, λ e. un.other (sym same.digests ∙ e ∙ ap (λ (x : List ℕ). sha256 (before ++ x)) same.payloads))

zero_parts : (before left payload digest rest : List ℕ) → Parts left payload digest rest → AreZeros left → OnlyUnmatched before payload digest rest
zero_parts before left payload digest rest p zeros = absurd (no_zeros (length payload) (payload ++ (digest ++ rest)) p.fits (subst AreZeros p.is zeros))

pub torn_parts : (before left payload digest rest : List ℕ) → Parts left payload digest rest → IsTorn before left → OnlyUnmatched before payload digest rest
torn_parts before left payload digest rest p (inl short) = short_parts before left payload digest rest p short
torn_parts before left payload digest rest p (inr (inl cut)) = cut_parts before left payload digest rest p cut
torn_parts before left payload digest rest p (inr (inr (inl un))) = unmatched_parts before left payload digest rest p un
torn_parts before left payload digest rest p (inr (inr (inr zeros))) = zero_parts before left payload digest rest p zeros

-- a torn tail begins no entry
pub torn_no_entry : (before left : List ℕ) → IsTorn before left → NoEntry before left
torn_no_entry before left torn bodies rest begins =
    (torn_parts before left (payload_text bodies) (next_digest before bodies) rest (parts_of before left bodies rest begins) torn).1 refl

-- two entries behind one digest that begin the same bytes are one
pub entries_apart : (before left : List ℕ) (bodies others : List (List ℕ)) (rest behind : List ℕ) → BeginsWith before left bodies rest → BeginsWith before left others behind
    → (bodies ≡ others) × (rest ≡ behind)
entries_apart before left bodies others rest behind b c =
    let same = alike left (payload_text bodies) (next_digest before bodies) rest (payload_text others) (next_digest before others) behind (parts_of before left bodies rest b) (parts_of before left others behind c) in
    (payloads_apart bodies others b.are c.are same.payloads, same.rests)

-- ---- what is found where bytes are read

-- fewer bytes than a head
pub too_short : (before left : List ℕ) → length left < 8 → IsTorn before left
too_short before left short = inl short

-- zeros
pub all_zeros : (before left : List ℕ) → AreZeros left → IsTorn before left
all_zeros before left zeros = inr (inr (inr zeros))

-- eight bytes that are no head begin no entry, and no torn tail but zeros
no_head_torn : (before left : List ℕ) → 8 ≤ length left → ((size : ℕ) → size < 2 ^ 32 → take 8 left ≢ entry_head size) → ¬ AreZeros left → ¬ IsTorn before left
no_head_torn before left long none some (inl short) = absurd (omega (arith, short, long))
no_head_torn before left long none some (inr (inl cut)) = none cut.size cut.fits (ap (take 8) cut.is ∙ front_of_head cut.size cut.rest)
no_head_torn before left long none some (inr (inr (inl un))) =
    none (length un.payload) un.fits (ap (take 8) (un.is ∙ append_assoc (entry_head (length un.payload)) un.payload un.digest) ∙ front_of_head (length un.payload) (un.payload ++ un.digest))
no_head_torn before left long none some (inr (inr (inr zeros))) = some zeros

pub no_head : (before left : List ℕ) → 8 ≤ length left → ((size : ℕ) → size < 2 ^ 32 → take 8 left ≢ entry_head size) → ¬ AreZeros left → IsBroken before left
no_head before left long none some = record {
  not_torn = no_head_torn before left long none some;
  no_entry = λ bodies rest begins. none (length (payload_text bodies)) (payload_fits bodies begins.are)
      (ap (take 8) (begins.is ∙ entry_parts before bodies rest) ∙ front_of_head (length (payload_text bodies)) (payload_text bodies ++ (next_digest before bodies ++ rest)));
}

-- their digest isn't that of the payload, and bytes follow
pub other_digest : (before left payload digest rest : List ℕ) → Parts left payload digest rest → digest ≢ sha256 (before ++ payload) → rest ≢ [] → IsBroken before left
other_digest before left payload digest rest p other some = record {
  not_torn = λ torn. some (torn_parts before left payload digest rest p torn).0;
  no_entry = λ bodies behind begins.
      let same = alike left payload digest rest (payload_text bodies) (next_digest before bodies) behind p (parts_of before left bodies behind begins) in
      other (same.digests ∙ ap (λ (x : List ℕ). sha256 (before ++ x)) (sym same.payloads));
}

-- their digest is that of the payload, which is none of bodies
pub no_payload : (before left payload digest rest : List ℕ) → Parts left payload digest rest → digest ≡ sha256 (before ++ payload)
    → ((bodies : List (List ℕ)) → AreBodies bodies → payload ≢ payload_text bodies) → IsBroken before left
no_payload before left payload digest rest p same none = record {
  not_torn = λ torn. (torn_parts before left payload digest rest p torn).1 same;
  no_entry = λ bodies behind begins.
      none bodies begins.are (alike left payload digest rest (payload_text bodies) (next_digest before bodies) behind p (parts_of before left bodies behind begins)).payloads;
}

-- their digest isn't that of the payload, and nothing follows
pub unmatched : (before left payload digest : List ℕ) → Parts left payload digest [] → digest ≢ sha256 (before ++ payload) → IsTorn before left
unmatched before left payload digest parts other =
    let text : left ≡ entry_head (length payload) ++ payload ++ digest =
    parts.is ∙ ap (λ (x : List ℕ). entry_head (length payload) ++ (payload ++ x)) (append-nil digest) ∙ sym (append_assoc (entry_head (length payload)) payload digest) in
    let un : IsUnmatched before left = record { payload = payload; digest = digest; fits = parts.fits; is = text; width = parts.width; other = other } in
    inr (inr (inl un))

-- their digest is that of the payload, which is one of bodies
pub entry_here : (before left payload digest rest : List ℕ) (bodies : List (List ℕ)) → Parts left payload digest rest → digest ≡ sha256 (before ++ payload)
    → AreBodies bodies → payload ≡ payload_text bodies → BeginsWith before left bodies rest
entry_here before left payload digest rest bodies parts same are text =
    let digests : digest ≡ next_digest before bodies = same ∙ ap (λ (x : List ℕ). sha256 (before ++ x)) text in
    let whole : left ≡ entry_head (length (payload_text bodies)) ++ (payload_text bodies ++ (next_digest before bodies ++ rest)) = parts.is ∙ rw (text, digests) refl in
    record { are = are; is = whole ∙ sym (entry_parts before bodies rest) }

-- a head, and less than has to follow
pub cut_short : (before left : List ℕ) (size : ℕ) → size < 2 ^ 32 → take 8 left ≡ entry_head size → length left < 8 + size + 32 → IsTorn before left
cut_short before left size fits head short =
    let cut : IsCutShort left = record {
      size = size;
      rest = drop 8 left;
      fits = fits;
      is = behind_head left size head;
      short = omega (arith, short, ap length (behind_head left size head), length-append (entry_head size) (drop 8 left), length-head size);
    } in
    inr (inl cut)

-- a proper beginning of an entry is a torn tail
pub beginning_torn : (before : List ℕ) (bodies : List (List ℕ)) (front rest : List ℕ) → AreBodies bodies → rest ≢ [] → entry_text before bodies ≡ front ++ rest → IsTorn before front
beginning_torn before bodies front rest are some e =
    let size = length (payload_text bodies) in
    let proper : length front < 8 + size + 32 =
    let len = ap length e in
    let more : length rest ≢ 0 = λ none. some (nil_from_length rest none) in
    omega (arith, len, length-append front rest, length-entry before bodies, more) in
    elim (cases_lt (length front) 8) [
      | inl short ↦ inl short
      | inr long ↦
          let same : take 8 front ≡ entry_head size =
          let one : take 8 (front ++ rest) ≡ take 8 front = take-append-le 8 front rest long in
          let two : take 8 (entry_text before bodies) ≡ entry_head size =
          ap (take 8) (append_assoc (entry_head size) (payload_text bodies) (next_digest before bodies)) ∙ front_of_head size (payload_text bodies ++ next_digest before bodies) in
          sym one ∙ sym (ap (take 8) e) ∙ two in
          cut_short before front size (payload_fits bodies are) same proper
    ]

pub zeros_are : (count : ℕ) → AreZeros (replicate count 0)
zeros_are zero = tt
zeros_are (suc n) = (refl, zeros_are n)
