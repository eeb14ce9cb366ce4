-- Bytes that are held, and those behind them.
use Rattle.std.proofs.Common.{◌≡◌, ◌≢◌, ℕ, ◌+◌, ◌<◌, ◌≤◌, ◌^◌, List, [], ◌∷◌, ◌++◌, length, take, drop, Bool, Result, Ok, refl, sym, ap, subst, ◌∙◌, append_assoc, arith}
use Rattle.std.proofs.lemmas.List.{append-nil, length-append, take-append-le, drop-drop, nil_from_length, length-drop, length-take-le, drop_all}
use Rattle.std.specs.List.{All}
use Rattle.std.proofs.lemmas.List.Elements.{All-from_recursion, recursion_from_All}
use Rattle.sha2.specs.Sha256.{sha256}
use Rattle.file_laws.specs.Files.{AreBodies}
use Rattle.file_laws.specs.declared.log_fault.LogFault.{LogFault}
use Rattle.file_laws.specs.Tails.{AreZeros, BeginsWith, IsBroken, IsTorn}
use Rattle.file_laws.specs.Texts.{entry_head, entry_text, next_digest, payload_text}
use Rattle.file_laws.proofs.LogSteps.{Parts, all_zeros, cut_short, entry_here, length-entry, no_head, no_payload, other_digest, too_short, unmatched}
use Rattle.file_laws.proofs.Whole.{parts_at}

-- nothing is left behind what is held
pub all_held : (bytes held left : List ℕ) → held ++ left ≡ bytes → left ≡ [] → held ≡ bytes
all_held bytes held left e none = sym (append-nil held) ∙ ap (λ (x : List ℕ). held ++ x) (sym none) ∙ e

-- fewer than a head are left
pub short_end : (before bytes held left : List ℕ) → held ++ left ≡ bytes → left ≡ [] → length held < 8 → IsTorn before bytes × (length held ≡ length bytes)
short_end before bytes held left e none short =
    let all = all_held bytes held left e none in
    (too_short before bytes (omega (arith, short, ap length all)), ap length all)

-- a head, and fewer bytes than have to follow
pub cut_end : (before bytes old more held left : List ℕ) (size : ℕ) → size < 2 ^ 32 → 8 ≤ length old → take 8 old ≡ entry_head size → old ++ more ≡ bytes
    → held ++ left ≡ bytes → left ≡ [] → length held < size + 40 → IsTorn before bytes × (length held ≡ length bytes)
cut_end before bytes old more held left size fits long head is e none short =
    let all = all_held bytes held left e none in
    let first : take 8 bytes ≡ entry_head size = ap (take 8) (sym is) ∙ take-append-le 8 old more long ∙ head in
    (cut_short before bytes size fits first (omega (arith, short, ap length all)), ap length all)

-- the parts of an entry that is held
abbrev pub payload_held : ℕ → List ℕ → List ℕ
payload_held size held = take size (drop 8 held)

abbrev pub digest_held : ℕ → List ℕ → List ℕ
digest_held size held = take 32 (drop size (drop 8 held))

pub parts_held : (bytes old more held left : List ℕ) (size : ℕ) → size < 2 ^ 32 → 8 ≤ length old → take 8 old ≡ entry_head size → old ++ more ≡ bytes
    → held ++ left ≡ bytes → size + 40 ≤ length held → Parts bytes (payload_held size held) (digest_held size held) (drop (size + 40) held ++ left)
parts_held bytes old more held left size fits long head is e enough =
    let first : take 8 held ≡ entry_head size = sym (take-append-le 8 held left (omega (arith, enough))) ∙ ap (take 8) (e ∙ sym is) ∙ take-append-le 8 old more long ∙ head in
    let p = parts_at held size fits first (omega (arith, enough)) in
    let rest : drop 32 (drop size (drop 8 held)) ≡ drop (size + 40) held =
    ap (drop 32) (drop-drop size 8 held) ∙ drop-drop 32 (8 + size) held ∙ ap (λ (n : ℕ). drop n held) (omega arith) in
    let payload = payload_held size held in
    let digest = digest_held size held in
    let head' = entry_head (length payload) in
    let whole : bytes ≡ head' ++ (payload ++ (digest ++ (drop (size + 40) held ++ left))) =
    sym e ∙ ap (λ (x : List ℕ). x ++ left) (p.is ∙ ap (λ (x : List ℕ). head' ++ (payload ++ (digest ++ x))) rest)
    ∙ append_assoc head' (payload ++ (digest ++ drop (size + 40) held)) left
    ∙ ap (λ (x : List ℕ). head' ++ x) (append_assoc payload (digest ++ drop (size + 40) held) left)
    ∙ ap (λ (x : List ℕ). head' ++ (payload ++ x)) (append_assoc digest (drop (size + 40) held) left) in
    record { fits = p.fits; is = whole; width = p.width }

-- ---- zeros

-- so many zeros were read, and these bytes are left
pub record ZerosRead (count : ℕ) (bytes left : List ℕ) : Type 0 where
  pub zeros : List ℕ
  pub are : AreZeros zeros
  pub number : length zeros ≡ count
  pub is : bytes ≡ zeros ++ left

pub none_read : (bytes left : List ℕ) → left ≡ bytes → ZerosRead 0 bytes left
none_read bytes left e = record { zeros = []; are = tt; number = refl; is = sym e }

zeros_more : (xs ys : List ℕ) → AreZeros xs → AreZeros ys → AreZeros (xs ++ ys)
zeros_more [] ys all all' = all'
zeros_more (x ∷ xs) ys all all' = (all.0, zeros_more xs ys all.1 all')

zeros_behind : (xs ys : List ℕ) → AreZeros (xs ++ ys) → AreZeros ys
zeros_behind [] ys all = all
zeros_behind (x ∷ xs) ys all = zeros_behind xs ys all.1

zeros_before : (xs ys : List ℕ) → AreZeros (xs ++ ys) → AreZeros xs
zeros_before [] ys all = tt
zeros_before (x ∷ xs) ys all = (all.0, zeros_before xs ys all.1)

pub more_read : (count : ℕ) (bytes held left next : List ℕ) → ZerosRead count bytes (held ++ left) → All (λ byte. byte ≡ 0) held → next ≡ left → ZerosRead (count + length held) bytes next
more_read count bytes held left next z all e = record {
  zeros = z.zeros ++ held;
  are = zeros_more z.zeros held z.are (recursion_from_All (λ byte. byte ≡ 0) held all);
  number = omega (arith, length-append z.zeros held, z.number);
  is = z.is ∙ sym (append_assoc z.zeros held left) ∙ ap (λ (x : List ℕ). (z.zeros ++ held) ++ x) (sym e);
}

pub zeros_end : (before : List ℕ) (count : ℕ) (bytes left : List ℕ) → ZerosRead count bytes left → left ≡ [] → IsTorn before bytes × (count ≡ length bytes)
zeros_end before count bytes left z none =
    let all : bytes ≡ z.zeros = z.is ∙ ap (λ (x : List ℕ). z.zeros ++ x) none ∙ append-nil z.zeros in
    (all_zeros before bytes (subst AreZeros (sym all) z.are), sym z.number ∙ ap length (sym all))

pub zeros_broken : (before : List ℕ) (count : ℕ) (bytes old more held left : List ℕ) → old ++ more ≡ bytes → 8 ≤ length old
    → ((size : ℕ) → size < 2 ^ 32 → take 8 old ≢ entry_head size) → ZerosRead count bytes (held ++ left) → ¬ All (λ byte. byte ≡ 0) held → IsBroken before bytes
zeros_broken before count bytes old more held left is long none z some =
    no_head before bytes (omega (arith, ap length is, length-append old more, long))
    (λ size fits head. none size fits (sym (take-append-le 8 old more long) ∙ ap (take 8) is ∙ head))
    (λ all. some (All-from_recursion (λ byte. byte ≡ 0) held (zeros_before held left (zeros_behind z.zeros (held ++ left) (subst AreZeros z.is all)))))

pub ok_of : (b c : Bool) → b ≡ c → Path (Result Bool LogFault) (Ok b) (Ok c)
ok_of b c e = ap Ok e

-- what is left behind all that was held
pub skipped : (count : ℕ) (held left next : List ℕ) → count ≡ length held → next ≡ drop count held ++ left → next ≡ left
skipped count held left next e is = is ∙ ap (λ (x : List ℕ). x ++ left) (drop_all count held (omega (arith, e)))

-- ---- the bytes of an entry that is held

-- the payload and the digest that are held
pub record IsHeld (size : ℕ) (held payload digest : List ℕ) : Type 0 where
  pub payload_is : payload ≡ payload_held size held
  pub digest_is : digest ≡ digest_held size held
  pub enough : size + 40 ≤ length held

pub entry_part : (before bytes held left : List ℕ) (size : ℕ) (payload digest own next : List ℕ) (bodies : List (List ℕ))
    → Parts bytes (payload_held size held) (digest_held size held) (drop (size + 40) held ++ left) → IsHeld size held payload digest → own ≡ digest
    → next ≡ drop (size + 40) held ++ left → digest ≡ sha256 (before ++ payload) → AreBodies bodies → payload ≡ payload_text bodies
    → BeginsWith before bytes bodies next × (own ≡ next_digest before bodies) × (size + 40 ≡ length (entry_text before bodies))
entry_part before bytes held left size payload digest own next bodies p h copied behind same are text =
    let len : length (payload_held size held) ≡ size = length-take-le size (drop 8 held) (omega (arith, length-drop 8 held, h.enough)) in
    let q : Parts bytes payload digest next = rw (h.payload_is, h.digest_is, behind) p in (
      entry_here before bytes payload digest next bodies q same are text,
      copied ∙ same ∙ ap (λ (x : List ℕ). sha256 (before ++ x)) text,
      omega (arith, length-entry before bodies, ap length text, ap length h.payload_is, len),
    )

pub no_bodies_part : (before bytes held left : List ℕ) (size : ℕ) (payload digest : List ℕ)
    → Parts bytes (payload_held size held) (digest_held size held) (drop (size + 40) held ++ left) → IsHeld size held payload digest
    → digest ≡ sha256 (before ++ payload) → ((bodies : List (List ℕ)) → AreBodies bodies → payload ≢ payload_text bodies) → IsBroken before bytes
no_bodies_part before bytes held left size payload digest p h same none =
    let q : Parts bytes payload digest (drop (size + 40) held ++ left) = rw (h.payload_is, h.digest_is) p in
    no_payload before bytes payload digest (drop (size + 40) held ++ left) q same none

length-rest : (bytes held left : List ℕ) (size : ℕ) → held ++ left ≡ bytes → size + 40 ≤ length held → length (drop (size + 40) held ++ left) + size + 40 ≡ length bytes
length-rest bytes held left size e enough =
    omega (arith, ap length e, length-append held left, length-append (drop (size + 40) held) left, length-drop (size + 40) held, enough)

pub more_part : (before bytes held left : List ℕ) (size : ℕ) (payload digest : List ℕ)
    → Parts bytes (payload_held size held) (digest_held size held) (drop (size + 40) held ++ left) → IsHeld size held payload digest → held ++ left ≡ bytes
    → digest ≢ sha256 (before ++ payload) → size + 40 < length bytes → IsBroken before bytes
more_part before bytes held left size payload digest p h e other more =
    let q : Parts bytes payload digest (drop (size + 40) held ++ left) = rw (h.payload_is, h.digest_is) p in
    other_digest before bytes payload digest (drop (size + 40) held ++ left) q other
    (λ none. absurd (omega (arith, ap length none, length-rest bytes held left size e h.enough, more)))

pub last_part : (before bytes held left : List ℕ) (size : ℕ) (payload digest : List ℕ)
    → Parts bytes (payload_held size held) (digest_held size held) (drop (size + 40) held ++ left) → IsHeld size held payload digest → held ++ left ≡ bytes
    → digest ≢ sha256 (before ++ payload) → length bytes ≤ size + 40 → IsTorn before bytes × (size + 40 ≡ length bytes)
last_part before bytes held left size payload digest p h e other few =
    let none : drop (size + 40) held ++ left ≡ [] = nil_from_length (drop (size + 40) held ++ left) (omega (arith, length-rest bytes held left size e h.enough, few)) in
    let q : Parts bytes payload digest [] = rw (h.payload_is, h.digest_is, ← none) p in
    (unmatched before bytes payload digest q other, omega (arith, length-rest bytes held left size e h.enough, few))

-- how many bytes there are, where so many are held and where all are
pub at_least : (bytes held left : List ℕ) (n : ℕ) → held ++ left ≡ bytes → n ≤ length held → n ≤ length bytes
at_least bytes held left n e enough = omega (arith, ap length e, length-append held left, enough)

pub at_most : (bytes held left : List ℕ) (n : ℕ) → held ++ left ≡ bytes → left ≡ [] → length held < n → length bytes < n
at_most bytes held left n e none few = omega (arith, ap length (all_held bytes held left e none), few)

pub nothing_ahead : (held left next : List ℕ) → held ++ left ≡ next → left ≡ [] → length held < 1 → next ≡ []
nothing_ahead held left next e none few = sym (all_held next held left e none) ∙ nil_from_length held (omega (arith, few))
