-- The message type and the bitmap, both ways.
use Rattle.std.proofs.Common.{◌≡◌, ℕ, ◌+◌, ◌-◌, ◌*◌, ◌/◌, ◌%◌, ◌^◌, ◌<◌, ◌≤◌, true, false, cond, eqb, leb, List, [], ◌∷◌, ◌++◌, length, get_or, Result, Ok, Err, refl, sym, ap, subst, ◌∙◌, append_assoc, arith, inl, inr}
use Rattle.std.specs.Prelude.{◌||◌, codes}
use Rattle.std.specs.Str.{bytes_eq}
use Rattle.std.specs.Int.{w64, from_be_bytes, to_be_bytes}
use Rattle.std.proofs.lemmas.Bool.{cases_lt, eqb-true, leb-true, leb-false, le-leb, lt-leb}
use Rattle.std.proofs.lemmas.Slice.Eq.{bytes_eq-Decides}
use Rattle.std.proofs.lemmas.List.{get_or_past, get_or-append-add}
use Rattle.std.proofs.Math.ListN.{get_or-append}
use Rattle.std.proofs.lemmas.Nat.{be_bytes_8, from_be_bytes-to_be_bytes_8}
use Rattle.iso8583.specs.declared.codec_fault.CodecFault.{CodecFault}
use Rattle.iso8583.specs.declared.codec_fault.CodecFault.TheVariants.{SecondaryBitmap}
use Rattle.iso_laws.specs.Elements.{parts_of}
use Rattle.iso_laws.specs.declared.mti.Mti.{Mti}
use Rattle.iso_laws.specs.declared.mti.Mti.TheVariants as mti
use Rattle.iso_laws.specs.Types.{mti_text, is_among}
use Rattle.iso_laws.specs.Spelling.{bitmap_bytes}
use Rattle.iso_laws.specs.Reading.{◌>>=◌, bytes_at, mti_at, presence_at, secondary_at, bitmap_at, header_at}
use Rattle.iso_laws.proofs.Elements.{bind_ok, guard_ok, ok_is, bytes_taken, bytes_again}

abbrev pub IsBytes : List ℕ → Type 0
IsBytes bytes = (i : ℕ) → get_or bytes i 0 < 256

-- ---- the type

abbrev named : List ℕ → Mti
named text =
    cond (bytes_eq text (codes "1100")) mti.Request (cond (bytes_eq text (codes "1101")) mti.RequestRepeat (cond (bytes_eq text (codes "1110")) mti.RequestReply
    (cond (bytes_eq text (codes "1120")) mti.Advice (cond (bytes_eq text (codes "1121")) mti.AdviceRepeat (cond (bytes_eq text (codes "1130")) mti.AdviceReply
    (cond (bytes_eq text (codes "1420")) mti.Reversal (cond (bytes_eq text (codes "1421")) mti.ReversalRepeat mti.ReversalReply)))))))

named-mti_text : (t : Mti) → named (mti_text t) ≡ t
named-mti_text mti.Request = refl
named-mti_text _ = refl

pub length-mti_text : (t : Mti) → length (mti_text t) ≡ 4
length-mti_text mti.Request = refl
length-mti_text _ = refl

-- each type has a text of its own
pub same_type : (t u : Mti) → mti_text t ≡ mti_text u → t ≡ u
same_type t u h = sym (named-mti_text t) ∙ (ap named h ∙ named-mti_text u)

same_text : (t u : Mti) → bytes_eq (mti_text t) (mti_text u) ≡ true → t ≡ u
same_text t u h = same_type t u ((bytes_eq-Decides (mti_text t) (mti_text u)).0 h)

abbrev NamedType : Type 0
NamedType = Result Mti CodecFault

pub mti_taken : (types : List Mti) (text : List ℕ) (t : Mti) → mti_at types text ≡ Ok t → (text ≡ mti_text t) × (is_among types t ≡ true)
unfolding mti_at
mti_taken [] text t h = absurd cc
mti_taken (u ∷ us) text t h =
    elim (bytes_eq text (mti_text u)) as (λ b. bytes_eq text (mti_text u) ≡ b → cond {A = NamedType} b (Ok u) (mti_at us text) ≡ Ok t → (text ≡ mti_text t) × (is_among (u ∷ us) t ≡ true)) [
      | true ↦ λ e k.
          (let same : u ≡ t = cc in
          let text-is : text ≡ mti_text t = (bytes_eq-Decides text (mti_text u)).0 e ∙ ap mti_text same in
          let first : bytes_eq (mti_text u) (mti_text t) ≡ true = (bytes_eq-Decides (mti_text u) (mti_text t)).1 (ap mti_text same) in
          (text-is, rw first refl))
      | false ↦ λ e k.
          (let others = mti_taken us text t k in
          (others.0, elim (bytes_eq (mti_text u) (mti_text t)) as (λ b. (b || is_among us t) ≡ true) [ true ↦ refl | false ↦ others.1 ]))
    ] refl h

pub mti_again : (types : List Mti) (t : Mti) → is_among types t ≡ true → mti_at types (mti_text t) ≡ Ok t
unfolding mti_at
mti_again [] t h = absurd cc
mti_again (u ∷ us) t h =
    elim (bytes_eq (mti_text t) (mti_text u)) as (λ b. bytes_eq (mti_text t) (mti_text u) ≡ b → cond {A = NamedType} b (Ok u) (mti_at us (mti_text t)) ≡ Ok t) [
      | true ↦ λ e. (let same : t ≡ u = same_text t u e in cc)
      | false ↦ λ e.
          (let other : bytes_eq (mti_text u) (mti_text t) ≡ false =
          elim (bytes_eq (mti_text u) (mti_text t)) as (λ b. bytes_eq (mti_text u) (mti_text t) ≡ b → b ≡ false) [
            | true ↦ λ k. sym ((bytes_eq-Decides (mti_text t) (mti_text u)).1 (sym ((bytes_eq-Decides (mti_text u) (mti_text t)).0 k))) ∙ e
            | false ↦ λ k. refl
          ] refl in
          mti_again us t (rw other at h))
    ] refl

-- ---- the bitmap

pub bytes_front : (a b : List ℕ) → IsBytes (a ++ b) → IsBytes a
bytes_front a b h i =
    elim (cases_lt i (length a)) [
      | inl lt ↦ subst (λ (x : ℕ). x < 256) (get_or-append a b 0 i lt) (h i)
      | inr le ↦ rw (get_or_past a i 0 le) (omega arith)
    ]

pub bytes_back : (a b : List ℕ) → IsBytes (a ++ b) → IsBytes b
bytes_back a b h i = subst (λ (x : ℕ). x < 256) (get_or-append-add a b i 0) (h (length a + i))

word_bytes : (bits : List ℕ) → length bits ≡ 8 → IsBytes bits → (to_be_bytes w64 (from_be_bytes w64 bits) ≡ bits) × (from_be_bytes w64 bits < 2 ^ 64)
word_bytes bits len fits = (be_bytes_8 bits _ len fits refl, omega (arith, fits 0, fits 1, fits 2, fits 3, fits 4, fits 5, fits 6, fits 7))

pub length-word : (word : ℕ) → length (to_be_bytes w64 word) ≡ 8
length-word word = refl

-- eight bytes at the front, as a number and as they are spelled
pub word_taken : (bytes bits rest : List ℕ) → IsBytes bytes → bytes_at 0 8 bytes ≡ Ok (bits, rest)
    → (bytes ≡ to_be_bytes w64 (from_be_bytes w64 bits) ++ rest) × (from_be_bytes w64 bits < 2 ^ 64) × IsBytes rest
word_taken bytes bits rest fits h =
    let cut = bytes_taken 0 8 bytes bits rest h in
    let inside : IsBytes (bits ++ rest) = subst IsBytes cut.0 fits in
    let word = word_bytes bits cut.1 (bytes_front bits rest inside) in
    (cut.0 ∙ ap (λ (x : List ℕ). x ++ rest) (sym word.0), word.1, bytes_back bits rest inside)

pub word_again : (word : ℕ) (rest : List ℕ) → bytes_at 0 8 (to_be_bytes w64 word ++ rest) ≡ Ok (to_be_bytes w64 word, rest)
word_again word rest = bytes_again 0 8 (to_be_bytes w64 word) rest (length-word word)

-- elements 2 to 64 alone, and with others
plain : (word : ℕ) → bitmap_bytes (word * 2 ^ 64) ≡ to_be_bytes w64 word
unfolding bitmap_bytes
plain word =
    let none : word * 2 ^ 64 % 2 ^ 64 ≡ 0 = omega arith in
    let same : word * 2 ^ 64 / 2 ^ 64 ≡ word = omega arith in
    rw (none, same) refl

extended : (high low : ℕ) → low < 2 ^ 64 → eqb low 0 ≡ false → bitmap_bytes (high * 2 ^ 64 + low) ≡ to_be_bytes w64 (2 ^ 63 + high) ++ to_be_bytes w64 low
unfolding bitmap_bytes
extended high low fits some =
    let lower : (high * 2 ^ 64 + low) % 2 ^ 64 ≡ low = omega arith in
    let upper : (high * 2 ^ 64 + low) / 2 ^ 64 ≡ high = omega arith in
    rw (lower, upper, some) refl

-- what a bitmap is, as it is read
pub record IsBitmap (bytes : List ℕ) (bitmap : ℕ) (rest : List ℕ) : Type 0 where
  pub spelled : bytes ≡ bitmap_bytes bitmap ++ rest
  pub fits : bitmap < 2 ^ 127

abbrev BitmapRead : Type 0
BitmapRead = Result (ℕ × List ℕ) CodecFault

bitmap_along : (bytes : List ℕ) (x y : ℕ × List ℕ) → x ≡ y → IsBitmap bytes x.0 x.1 → IsBitmap bytes y.0 y.1
bitmap_along bytes x y e h = subst (λ (z : ℕ × List ℕ). IsBitmap bytes z.0 z.1) e h

secondary_taken : (bytes rest : List ℕ) (primary : ℕ) (x : ℕ × List ℕ) → bytes ≡ to_be_bytes w64 primary ++ rest → 2 ^ 63 ≤ primary → primary < 2 ^ 64 → IsBytes rest
    → secondary_at primary rest ≡ Ok x → IsBitmap bytes x.0 x.1
unfolding secondary_at
secondary_taken bytes rest primary x front low high fits h =
    let a = bind_ok (bytes_at 0 8 rest) (λ second. let r : BitmapRead = cond (eqb (from_be_bytes w64 second.0) 0) (Err SecondaryBitmap) (Ok ((primary - 2 ^ 63) * 2 ^ 64 + from_be_bytes w64 second.0, second.1)) in r) x h in
    let word = word_taken rest a.0.0 a.0.1 fits a.1 in
    let lower = from_be_bytes w64 a.0.0 in
    let g = guard_ok (eqb (from_be_bytes w64 a.0.0) 0) SecondaryBitmap ((primary - 2 ^ 63) * 2 ^ 64 + from_be_bytes w64 a.0.0, a.0.1) x a.2 in
    let higher : 2 ^ 63 + (primary - 2 ^ 63) ≡ primary = omega arith in
    let both : bitmap_bytes ((primary - 2 ^ 63) * 2 ^ 64 + from_be_bytes w64 a.0.0) ≡ to_be_bytes w64 primary ++ to_be_bytes w64 (from_be_bytes w64 a.0.0) =
    extended (primary - 2 ^ 63) (from_be_bytes w64 a.0.0) word.1 g.0 ∙ ap (λ (n : ℕ). to_be_bytes w64 n ++ to_be_bytes w64 (from_be_bytes w64 a.0.0)) higher in
    let whole : bytes ≡ (to_be_bytes w64 primary ++ to_be_bytes w64 (from_be_bytes w64 a.0.0)) ++ a.0.1 =
    front ∙ (ap (λ (z : List ℕ). to_be_bytes w64 primary ++ z) word.0 ∙ sym (append_assoc (to_be_bytes w64 primary) (to_be_bytes w64 (from_be_bytes w64 a.0.0)) a.0.1)) in
    bitmap_along bytes ((primary - 2 ^ 63) * 2 ^ 64 + from_be_bytes w64 a.0.0, a.0.1) x g.1
    (record { spelled = whole ∙ ap (λ (z : List ℕ). z ++ a.0.1) (sym both); fits = omega (arith, word.1) })

pub bitmap_taken : (bytes : List ℕ) (x : ℕ × List ℕ) → IsBytes bytes → bitmap_at bytes ≡ Ok x → IsBitmap bytes x.0 x.1
unfolding bitmap_at
bitmap_taken bytes x fits h =
    let a = bind_ok (bytes_at 0 8 bytes) (λ first. let r : BitmapRead = cond (leb (2 ^ 63) (from_be_bytes w64 first.0)) (secondary_at (from_be_bytes w64 first.0) first.1) (Ok (from_be_bytes w64 first.0 * 2 ^ 64, first.1)) in r) x h in
    let word = word_taken bytes a.0.0 a.0.1 fits a.1 in
    let primary = from_be_bytes w64 a.0.0 in
    elim (leb (2 ^ 63) (from_be_bytes w64 a.0.0)) as (λ b. leb (2 ^ 63) (from_be_bytes w64 a.0.0) ≡ b
    → (let r : BitmapRead = cond b (secondary_at (from_be_bytes w64 a.0.0) a.0.1) (Ok (from_be_bytes w64 a.0.0 * 2 ^ 64, a.0.1)) in r) ≡ Ok x → IsBitmap bytes x.0 x.1) [
      | true ↦ λ e k. secondary_taken bytes a.0.1 (from_be_bytes w64 a.0.0) x word.0 (leb-true (2 ^ 63) (from_be_bytes w64 a.0.0) e) word.1 word.2 k
      | false ↦ λ e k.
          (let same : (from_be_bytes w64 a.0.0 * 2 ^ 64, a.0.1) ≡ x = ok_is (let r : BitmapRead = Ok x in r) (sym k) refl in
          let below : from_be_bytes w64 a.0.0 < 2 ^ 63 = leb-false (2 ^ 63) (from_be_bytes w64 a.0.0) e in
          bitmap_along bytes (from_be_bytes w64 a.0.0 * 2 ^ 64, a.0.1) x same
          (record { spelled = word.0 ∙ ap (λ (z : List ℕ). z ++ a.0.1) (sym (plain (from_be_bytes w64 a.0.0))); fits = omega arith }))
    ] refl a.2

plain_again : (word : ℕ) (rest : List ℕ) → word < 2 ^ 63 → bitmap_at (to_be_bytes w64 word ++ rest) ≡ Ok (word * 2 ^ 64, rest)
unfolding bitmap_at
plain_again word rest below =
    let first : leb (2 ^ 63) word ≡ false = lt-leb (2 ^ 63) word below in
    rw (word_again word rest, from_be_bytes-to_be_bytes_8 word (omega arith), first) refl

pub extended_again : (primary low : ℕ) (rest : List ℕ) → 2 ^ 63 ≤ primary → primary < 2 ^ 64 → low < 2 ^ 64
    → bitmap_at (to_be_bytes w64 primary ++ (to_be_bytes w64 low ++ rest))
    ≡ (let r : BitmapRead = cond (eqb low 0) (Err SecondaryBitmap) (Ok ((primary - 2 ^ 63) * 2 ^ 64 + low, rest)) in r)
unfolding bitmap_at secondary_at
extended_again primary low rest least most fits =
    let first : leb (2 ^ 63) primary ≡ true = le-leb (2 ^ 63) primary least in
    rw (
      word_again primary (to_be_bytes w64 low ++ rest),
      from_be_bytes-to_be_bytes_8 primary most,
      first,
      word_again low rest,
      from_be_bytes-to_be_bytes_8 low fits,
    ) refl

pub bitmap_again : (bitmap : ℕ) (rest : List ℕ) → bitmap < 2 ^ 127 → bitmap_at (bitmap_bytes bitmap ++ rest) ≡ Ok (bitmap, rest)
unfolding bitmap_bytes
bitmap_again bitmap rest fits =
    elim (eqb (bitmap % 2 ^ 64) 0) as (λ b. eqb (bitmap % 2 ^ 64) 0 ≡ b
    → bitmap_at (cond b (to_be_bytes w64 (bitmap / 2 ^ 64)) (to_be_bytes w64 (2 ^ 63 + bitmap / 2 ^ 64) ++ to_be_bytes w64 (bitmap % 2 ^ 64)) ++ rest) ≡ Ok (bitmap, rest)) [
      | true ↦ λ e.
          (let none : bitmap % 2 ^ 64 ≡ 0 = eqb-true (bitmap % 2 ^ 64) 0 e in
          let same : bitmap / 2 ^ 64 * 2 ^ 64 ≡ bitmap = omega arith in
          plain_again (bitmap / 2 ^ 64) rest (omega arith) ∙ ap (λ (n : ℕ). let r : BitmapRead = Ok (n, rest) in r) same)
      | false ↦ λ e.
          (let same : (2 ^ 63 + bitmap / 2 ^ 64 - 2 ^ 63) * 2 ^ 64 + bitmap % 2 ^ 64 ≡ bitmap = omega arith in
          ap bitmap_at (append_assoc (to_be_bytes w64 (2 ^ 63 + bitmap / 2 ^ 64)) (to_be_bytes w64 (bitmap % 2 ^ 64)) rest)
          ∙ extended_again (2 ^ 63 + bitmap / 2 ^ 64) (bitmap % 2 ^ 64) rest (omega arith) (omega arith) (omega arith)
          ∙ (rw e refl ∙ ap (λ (n : ℕ). let r : BitmapRead = Ok (n, rest) in r) same))
    ] refl

-- ---- both

pub record Headed (types : List Mti) (bytes : List ℕ) (t : Mti) (bitmap : ℕ) (rest : List ℕ) : Type 0 where
  pub spelled : bytes ≡ mti_text t ++ bitmap_bytes bitmap ++ rest
  pub among : is_among types t ≡ true
  pub fits : bitmap < 2 ^ 127
  pub sound : presence_at (parts_of t) bitmap ≡ Ok tt

abbrev pub Header : Type 0
Header = Mti × ℕ × List ℕ

headed_along : (types : List Mti) (bytes : List ℕ) (x y : Header) → x ≡ y → Headed types bytes x.0 x.1 x.2 → Headed types bytes y.0 y.1 y.2
headed_along types bytes x y e h = subst (λ (z : Header). Headed types bytes z.0 z.1 z.2) e h

headed : (types : List Mti) (bytes text behind : List ℕ) (t : Mti) (bitmap : ℕ) (rest : List ℕ) → bytes ≡ text ++ behind → text ≡ mti_text t → is_among types t ≡ true
    → IsBitmap behind bitmap rest → presence_at (parts_of t) bitmap ≡ Ok tt → Headed types bytes t bitmap rest
headed types bytes text behind t bitmap rest front named among back sound =
    let texts : text ++ behind ≡ mti_text t ++ (bitmap_bytes bitmap ++ rest) = ap (λ (z : List ℕ). z ++ behind) named ∙ ap (λ (z : List ℕ). mti_text t ++ z) back.spelled in
    record { spelled = front ∙ (texts ∙ sym (append_assoc (mti_text t) (bitmap_bytes bitmap) rest)); among = among; fits = back.fits; sound = sound }

pub header_taken : (types : List Mti) (bytes : List ℕ) (x : Header) → IsBytes bytes → header_at types bytes ≡ Ok x → Headed types bytes x.0 x.1 x.2
unfolding header_at
header_taken types bytes x fits h =
    let a = bind_ok (bytes_at 0 4 bytes) (λ front. mti_at types front.0 >>= λ t. bitmap_at front.1 >>= λ bits. presence_at (parts_of t) bits.0 >>= λ _. let r : Result Header CodecFault = Ok (t, bits.0, bits.1) in r) x h in
    let text = a.0.0 in
    let behind = a.0.1 in
    let b = bind_ok (mti_at types text) (λ t. bitmap_at behind >>= λ bits. presence_at (parts_of t) bits.0 >>= λ _. let r : Result Header CodecFault = Ok (t, bits.0, bits.1) in r) x a.2 in
    let t = b.0 in
    let c = bind_ok (bitmap_at behind) (λ bits. presence_at (parts_of t) bits.0 >>= λ _. let r : Result Header CodecFault = Ok (t, bits.0, bits.1) in r) x b.2 in
    let bitmap = c.0.0 in
    let rest = c.0.1 in
    let d = bind_ok (presence_at (parts_of t) bitmap) (λ _. let r : Result Header CodecFault = Ok (t, bitmap, rest) in r) x c.2 in
    let same : (t, bitmap, rest) ≡ x = cc in
    let front = bytes_taken 0 4 bytes text behind a.1 in
    let inside : IsBytes behind = bytes_back text behind (subst IsBytes front.0 fits) in
    let back = bitmap_taken behind c.0 inside c.1 in
    let type = mti_taken types text t b.1 in
    headed_along types bytes (t, bitmap, rest) x same (headed types bytes text behind t bitmap rest front.0 type.0 type.1 back d.1)

-- what is read of a type of the list and a bitmap
pub header_known : (types : List Mti) (t : Mti) (bitmap : ℕ) (rest : List ℕ) → is_among types t ≡ true → bitmap < 2 ^ 127
    → header_at types ((mti_text t ++ bitmap_bytes bitmap) ++ rest) ≡ (presence_at (parts_of t) bitmap >>= λ _. let r : Result Header CodecFault = Ok (t, bitmap, rest) in r)
unfolding header_at
header_known types t bitmap rest among fits =
    rw (
      append_assoc (mti_text t) (bitmap_bytes bitmap) rest,
      bytes_again 0 4 (mti_text t) (bitmap_bytes bitmap ++ rest) (length-mti_text t),
      mti_again types t among,
      bitmap_again bitmap rest fits,
    ) refl

pub header_again : (types : List Mti) (t : Mti) (bitmap : ℕ) (rest : List ℕ) → is_among types t ≡ true → bitmap < 2 ^ 127 → presence_at (parts_of t) bitmap ≡ Ok tt
    → header_at types ((mti_text t ++ bitmap_bytes bitmap) ++ rest) ≡ Ok (t, bitmap, rest)
header_again types t bitmap rest among fits sound = header_known types t bitmap rest among fits ∙ rw sound refl
