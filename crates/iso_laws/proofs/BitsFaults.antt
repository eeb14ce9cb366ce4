-- Which fault of the bitmap's bytes reading names, and when: too few of them, or a second bitmap without an element.
use Rattle.std.proofs.Common.{◌≡◌, ◌≢◌, ◌⊎◌, ℕ, ◌+◌, ◌-◌, ◌*◌, ◌^◌, ◌<◌, ◌≤◌, Bool, true, false, cond, eqb, leb, ltb, List, ◌++◌, length, take, drop, Result, Ok, Err, refl, sym, ap, subst, ◌∙◌, append_assoc, arith, inl, inr}
use Rattle.std.specs.Prelude.{IfErr}
use Rattle.std.specs.Int.{w64, from_be_bytes, to_be_bytes}
use Rattle.std.proofs.lemmas.Bool.{cases_lt, lt-ltb, le-ltb, le-leb, leb-true, eqb-true}
use Rattle.std.proofs.lemmas.List.{length-append, take_at, length-drop}
use Rattle.iso8583.specs.declared.codec_fault.CodecFault.{CodecFault}
use Rattle.iso8583.specs.declared.codec_fault.CodecFault.TheVariants.{Short, BadMti, SecondaryBitmap}
use Rattle.iso_laws.specs.Elements.{Part, parts_of}
use Rattle.iso_laws.specs.declared.mti.Mti.{Mti}
use Rattle.iso_laws.specs.Types.{mti_text, is_among}
use Rattle.iso_laws.specs.Spelling.{Field}
use Rattle.iso_laws.specs.Reading.{◌>>=◌, bytes_at, mti_at, secondary_at, bitmap_at, header_at, whole_at, reading}
use Rattle.iso_laws.specs.Faults.{begins_extended, IsShortBitmap, NamesAShortHeader, NamesASecondaryBitmap}
use Rattle.iso_laws.proofs.Elements.{bind_err, bytes_again, bytes_taken}
use Rattle.iso_laws.proofs.Headers.{Header, IsBytes, bytes_back, length-mti_text, mti_again, mti_taken, word_taken, extended_again}
use Rattle.iso_laws.proofs.HeaderFaults.{OfBitmap, bitmap_read, presence_read, presence_read_holds, mti_holds}
use Rattle.iso_laws.proofs.BodyFaults.{is_body_fault, is_named, then_holds, whole_never}
use Rattle.iso_laws.proofs.TypeFaults.{short_read}

abbrev Whole : Type 0
Whole = Result (Mti × List Field) CodecFault

abbrev BitmapRead : Type 0
BitmapRead = Result (ℕ × List ℕ) CodecFault

-- ---- a fault that neither the type nor the elements have

-- too few bytes for a type, or a fault of the bytes behind a type of the list
abbrev IsBehindType : List Mti → List ℕ → CodecFault → Type 0
IsBehindType types bytes d = (bytes_at 0 4 bytes ≡ Err d) ⊎ ((t : Mti) × (rest : List ℕ) × (is_among types t ≡ true) × (bytes ≡ mti_text t ++ rest) × (bitmap_at rest ≡ Err d))

module _ (types : List Mti) (d : CodecFault) (others : OfBitmap (λ e. e ≢ d)) (type : BadMti ≢ d) (body : (ps : List Part) → is_body_fault true (is_named ps) d ≡ false) where
  abbrev IsOther : CodecFault → Type 0
  IsOther e = e ≢ d

  of_bits : (t : Mti) (rest : List ℕ) → bitmap_read t rest ≡ Err d → bitmap_at rest ≡ Err d
  of_bits t rest h =
      elim (bind_err (bitmap_at rest) (λ bits. presence_read t bits) d h) [
        | inl e ↦ e
        | inr x ↦ absurd (subst (λ (r : Result Header CodecFault). IfErr r IsOther) x.2 (presence_read_holds IsOther t x.0 others) refl)
      ]

  of_header : (bytes : List ℕ) → header_at types bytes ≡ Err d → IsBehindType types bytes d
  unfolding header_at
  of_header bytes h =
      elim (bind_err (bytes_at 0 4 bytes) (λ front. mti_at types front.0 >>= λ t. bitmap_read t front.1) d h) [
        | inl e ↦ inl e
        | inr x ↦ elim (bind_err (mti_at types x.0.0) (λ t. bitmap_read t x.0.1) d x.2) [
          | inl e ↦ absurd (subst (λ (r : Result Mti CodecFault). IfErr r IsOther) e (mti_holds IsOther types x.0.0 type) refl)
          | inr y ↦
              (let text = bytes_taken 0 4 bytes x.0.0 x.0.1 x.1 in
              let named = mti_taken types x.0.0 y.0 y.1 in
              inr (y.0, x.0.1, named.1, text.0 ∙ ap (λ (z : List ℕ). z ++ x.0.1) named.0, of_bits y.0 x.0.1 y.2))
        ]
      ]

  of_reading : (bytes : List ℕ) → reading types bytes ≡ Err d → IsBehindType types bytes d
  unfolding reading
  of_reading bytes h =
      elim (bind_err (header_at types bytes) (λ head. whole_at head.1 (parts_of head.0) head.2 >>= λ fields. let r : Whole = Ok (head.0, fields) in r) d h) [
        | inl e ↦ of_header bytes e
        | inr x ↦ absurd (subst (λ (r : Whole). IfErr r IsOther) x.2 (then_holds IsOther (whole_at x.0.1 (parts_of x.0.0) x.0.2) _ (whole_never x.0.1 (parts_of x.0.0) x.0.2 d (body (parts_of x.0.0))) (λ _. tt)) refl)
      ]

bits_named : (types : List Mti) (t : Mti) (rest : List ℕ) (d : CodecFault) → is_among types t ≡ true → bitmap_at rest ≡ Err d → reading types (mti_text t ++ rest) ≡ Err d
unfolding reading header_at
bits_named types t rest d among h = rw (bytes_again 0 4 (mti_text t) rest (length-mti_text t), mti_again types t among, h) refl

pub few_bytes : (n size : ℕ) (bytes : List ℕ) (d : CodecFault) → bytes_at n size bytes ≡ Err d → (length bytes < size) × (Short n ≡ d)
few_bytes n size bytes d h =
    elim (cases_lt (length bytes) size) [
      | inl lt ↦ (let short : ltb (length bytes) size ≡ true = lt-ltb (length bytes) size lt in let same = rw short at h in (lt, cc))
      | inr le ↦ (let long : ltb (length bytes) size ≡ false = le-ltb (length bytes) size le in let same = rw long at h in absurd cc)
    ]

-- ---- too few bytes

abbrev second_read : ℕ → List ℕ × List ℕ → BitmapRead
second_read primary second = cond (eqb (from_be_bytes w64 second.0) 0) (Err SecondaryBitmap) (Ok ((primary - 2 ^ 63) * 2 ^ 64 + from_be_bytes w64 second.0, second.1))

second_fault : (b : Bool) (x : ℕ × List ℕ) (d : CodecFault) → (let r : BitmapRead = cond b (Err SecondaryBitmap) (Ok x) in r) ≡ Err d → (b ≡ true) × (SecondaryBitmap ≡ d)
second_fault true x d h = (refl, cc)
second_fault false x d h = absurd cc

-- where the fault is: in the first eight bytes, or in the second
abbrev IsBitsFault : List ℕ → CodecFault → Type 0
IsBitsFault bytes d = (bytes_at 0 8 bytes ≡ Err d) ⊎ ((x : List ℕ × List ℕ) × (bytes_at 0 8 bytes ≡ Ok x) × (2 ^ 63 ≤ from_be_bytes w64 x.0) × (secondary_at (from_be_bytes w64 x.0) x.1 ≡ Err d))

bits_fault : (bytes : List ℕ) (d : CodecFault) → bitmap_at bytes ≡ Err d → IsBitsFault bytes d
unfolding bitmap_at
bits_fault bytes d h =
    elim (bind_err (bytes_at 0 8 bytes) (λ first. let r : BitmapRead = cond (leb (2 ^ 63) (from_be_bytes w64 first.0)) (secondary_at (from_be_bytes w64 first.0) first.1) (Ok (from_be_bytes w64 first.0 * 2 ^ 64, first.1)) in r) d h) [
      | inl e ↦ inl e
      | inr x ↦ elim (leb (2 ^ 63) (from_be_bytes w64 x.0.0)) as (λ b. leb (2 ^ 63) (from_be_bytes w64 x.0.0) ≡ b
          → (let r : BitmapRead = cond b (secondary_at (from_be_bytes w64 x.0.0) x.0.1) (Ok (from_be_bytes w64 x.0.0 * 2 ^ 64, x.0.1)) in r) ≡ Err d → IsBitsFault bytes d) [
            | true ↦ λ e k. inr (x.0, x.1, leb-true (2 ^ 63) (from_be_bytes w64 x.0.0) e, k)
            | false ↦ λ e k. absurd cc
          ] refl x.2
    ]

short_bits : (bytes : List ℕ) → bitmap_at bytes ≡ Err (Short 0) → IsShortBitmap bytes
unfolding secondary_at
short_bits bytes h =
    elim (bits_fault bytes (Short 0) h) [
      | inl e ↦ inl (few_bytes 0 8 bytes (Short 0) e).0
      | inr x ↦
          (let cut = bytes_taken 0 8 bytes x.0.0 x.0.1 x.1 in
          let front : take 8 bytes ≡ x.0.0 = ap (take 8) cut.0 ∙ take_at x.0.0 x.0.1 8 cut.1 in
          let size = length-append x.0.0 x.0.1 in
          let whole : length bytes ≡ length (x.0.0 ++ x.0.1) = ap length cut.0 in
          elim (bind_err (bytes_at 0 8 x.0.1) (λ second. second_read (from_be_bytes w64 x.0.0) second) (Short 0) x.3) [
            | inl e ↦ (let few = few_bytes 0 8 x.0.1 (Short 0) e in inr (omega (arith, few.0, size, whole, cut.1), rw front x.2))
            | inr y ↦ (let other = (second_fault (eqb (from_be_bytes w64 y.0.0) 0) _ (Short 0) y.2).1 in absurd cc)
          ])
    ]

bits_short : (bytes : List ℕ) → IsShortBitmap bytes → bitmap_at bytes ≡ Err (Short 0)
unfolding bitmap_at secondary_at
bits_short bytes h =
    elim (cases_lt (length bytes) 8) [
      | inl lt ↦ (let few : ltb (length bytes) 8 ≡ true = lt-ltb (length bytes) 8 lt in rw few refl)
      | inr le ↦ elim h [
        | inl lt ↦ absurd (omega arith)
        | inr x ↦
            (let enough : ltb (length bytes) 8 ≡ false = le-ltb (length bytes) 8 le in
            let first : leb (2 ^ 63) (from_be_bytes w64 (take 8 bytes)) ≡ true = le-leb (2 ^ 63) (from_be_bytes w64 (take 8 bytes)) x.1 in
            let few : ltb (length (drop 8 bytes)) 8 ≡ true = lt-ltb (length (drop 8 bytes)) 8 (omega (arith, x.0, length-drop 8 bytes)) in
            rw (enough, first, few) refl)
      ]
    ]

pub short_header : (types : List Mti) → NamesAShortHeader types
short_header types bytes = (
  λ h. elim (of_reading types (Short 0) (record { unexpected = λ n e. cc; missing = λ n e. cc }) (λ e. cc) (λ ps. refl) bytes h) [
    | inl e ↦ inl (few_bytes 0 4 bytes (Short 0) e).0
    | inr x ↦ inr (x.0, x.1, x.2, x.3, short_bits x.1 x.4)
  ],
  λ h. elim h [
    | inl lt ↦ short_read types bytes lt
    | inr x ↦ ap (reading types) x.3 ∙ bits_named types x.0 x.1 (Short 0) x.2 (bits_short x.1 x.4)
  ],
)

-- ---- a second bitmap without an element

abbrev IsSecondary : List ℕ → Type 0
IsSecondary bytes = (primary : ℕ) × (rest : List ℕ) × (2 ^ 63 ≤ primary) × (primary < 2 ^ 64) × (bytes ≡ to_be_bytes w64 primary ++ (to_be_bytes w64 0 ++ rest))

secondary_bits : (bytes : List ℕ) → IsBytes bytes → bitmap_at bytes ≡ Err SecondaryBitmap → IsSecondary bytes
unfolding secondary_at
secondary_bits bytes fits h =
    elim (bits_fault bytes SecondaryBitmap h) [
      | inl e ↦ (let other = (few_bytes 0 8 bytes SecondaryBitmap e).1 in absurd cc)
      | inr x ↦
          (let word = word_taken bytes x.0.0 x.0.1 fits x.1 in
          elim (bind_err (bytes_at 0 8 x.0.1) (λ second. second_read (from_be_bytes w64 x.0.0) second) SecondaryBitmap x.3) [
            | inl e ↦ (let other = (few_bytes 0 8 x.0.1 SecondaryBitmap e).1 in absurd cc)
            | inr y ↦
                (let next = word_taken x.0.1 y.0.0 y.0.1 word.2 y.1 in
                let none : from_be_bytes w64 y.0.0 ≡ 0 = eqb-true (from_be_bytes w64 y.0.0) 0 (second_fault (eqb (from_be_bytes w64 y.0.0) 0) _ SecondaryBitmap y.2).0 in
                let zeros : x.0.1 ≡ to_be_bytes w64 0 ++ y.0.1 = next.0 ∙ ap (λ (n : ℕ). to_be_bytes w64 n ++ y.0.1) none in
                let whole : bytes ≡ to_be_bytes w64 (from_be_bytes w64 x.0.0) ++ (to_be_bytes w64 0 ++ y.0.1) =
                word.0 ∙ ap (λ (z : List ℕ). to_be_bytes w64 (from_be_bytes w64 x.0.0) ++ z) zeros in
                (from_be_bytes w64 x.0.0, y.0.1, x.2, word.1, whole))
          ])
    ]

regroup : (a b c d : List ℕ) → ((a ++ b) ++ c) ++ d ≡ a ++ (b ++ (c ++ d))
regroup a b c d = simp append_assoc

behind_type : (t : Mti) (primary : ℕ) (rest : List ℕ) → begins_extended t primary 0 rest ≡ mti_text t ++ (to_be_bytes w64 primary ++ (to_be_bytes w64 0 ++ rest))
behind_type t primary rest = regroup (mti_text t) (to_be_bytes w64 primary) (to_be_bytes w64 0) rest

pub secondary_bitmap : (types : List Mti) → NamesASecondaryBitmap types
secondary_bitmap types bytes fits = (
  λ h. elim (of_reading types SecondaryBitmap (record { unexpected = λ n e. cc; missing = λ n e. cc }) (λ e. cc) (λ ps. refl) bytes h) [
    | inl e ↦ (let other = (few_bytes 0 4 bytes SecondaryBitmap e).1 in absurd cc)
    | inr x ↦
        (let inside : IsBytes x.1 = bytes_back (mti_text x.0) x.1 (subst IsBytes x.3 fits) in
        let found = secondary_bits x.1 inside x.4 in
        (x.0, found.0, found.1, x.2, found.2, found.3, x.3 ∙ (ap (λ (z : List ℕ). mti_text x.0 ++ z) found.4 ∙ sym (behind_type x.0 found.0 found.1))))
  ],
  λ h.
      let bits : bitmap_at (to_be_bytes w64 h.1 ++ (to_be_bytes w64 0 ++ h.2)) ≡ Err SecondaryBitmap = extended_again h.1 0 h.2 h.4 h.5 (omega arith) in
      ap (reading types) (h.6 ∙ behind_type h.0 h.1 h.2) ∙ bits_named types h.0 (to_be_bytes w64 h.1 ++ (to_be_bytes w64 0 ++ h.2)) SecondaryBitmap h.3 bits,
)
