-- Which fault of a text's end reading names, and when.
use Rattle.std.proofs.Common.{◌≡◌, ◌≢◌, ℕ, true, false, cond, eqb, List, [], ◌∷◌, ◌++◌, length, Result, Ok, Err, refl, sym, ap, subst, ◌∙◌, append_assoc, inl, inr}
use Rattle.std.specs.Prelude.{IfErr, IsOk}
use Rattle.std.specs.List.{flat_map}
use Rattle.iso8583.specs.declared.codec_fault.CodecFault.{CodecFault}
use Rattle.iso8583.specs.declared.codec_fault.CodecFault.TheVariants.{Trailing}
use Rattle.iso_laws.specs.Elements.{Part, parts_of}
use Rattle.iso_laws.specs.declared.mti.Mti.{Mti}
use Rattle.iso_laws.specs.Types.{mti_text, taken_in, given_out}
use Rattle.iso_laws.specs.Spelling.{Field, field, bitmap_bytes}
use Rattle.iso_laws.specs.Messages.{mti_of, fields_of}
use Rattle.iso_laws.specs.Replies.{reply_mti, reply_fields}
use Rattle.iso_laws.specs.Reading.{◌>>=◌, header_at, fields_at, whole_at, reading}
use Rattle.iso_laws.specs.Faults.{NamesATrailingByte, NamesAByteBehindAMessage, NamesAByteBehindAReply}
use Rattle.iso_laws.proofs.Elements.{bind_err}
use Rattle.iso_laws.proofs.Headers.{Header, Headed, IsBytes, bytes_front, header_taken, header_again}
use Rattle.iso_laws.proofs.HeaderFaults.{header_holds}
use Rattle.iso_laws.proofs.BodyFaults.{is_body_fault, is_named, fields_faults}
use Rattle.iso_laws.proofs.Present.{Taken, fields_taken}
use Rattle.iso_laws.proofs.Whole.{reading_found, whole_again, trailing_read}
use Rattle.iso_laws.proofs.Messages.{message_are, message_taken}
use Rattle.iso_laws.proofs.Replies.{reply_are, reply_given}

abbrev Whole : Type 0
Whole = Result (Mti × List Field) CodecFault

-- ---- a byte behind a whole text

ok_value : {A : Type 0} (r : Result A CodecFault) → IsOk r → (x : A) × (r ≡ Ok x)
ok_value (Ok x) h = (x, refl)
ok_value (Err d) h = absurd cc

behind_whole : (types : List Mti) (front : List ℕ) (byte : ℕ) (rest : List ℕ) → IsBytes front → IsOk (reading types front) → reading types (front ++ (byte ∷ rest)) ≡ Err Trailing
behind_whole types front byte rest fits ok =
    let x = ok_value (reading types front) ok in
    let found = reading_found types front x.0 fits x.1 in
    ap (λ (z : List ℕ). reading types (z ++ (byte ∷ rest))) found.spelled ∙ trailing_read types x.0.0 x.0.1 byte rest found.are found.among

abbrev IsOther : CodecFault → Type 0
IsOther d = d ≢ Trailing

some_left : (fields : List Field) (rest : List ℕ) → (let r : Result (List Field) CodecFault = cond (eqb (length rest) 0) (Ok fields) (Err Trailing) in r) ≡ Err Trailing → (byte : ℕ) × (behind : List ℕ) × (rest ≡ byte ∷ behind)
some_left fields [] h = absurd cc
some_left fields (byte ∷ behind) h = (byte, behind, refl)

-- the elements, and what is behind them
left : (bitmap : ℕ) (ps : List Part) (bytes : List ℕ) → whole_at bitmap ps bytes ≡ Err Trailing → (fields : List Field) × (byte : ℕ) × (rest : List ℕ) × Taken bitmap ps bytes fields (byte ∷ rest)
unfolding whole_at
left bitmap ps bytes h =
    elim (bind_err (fields_at bitmap ps bytes) (λ x. let r : Result (List Field) CodecFault = cond (eqb (length x.1) 0) (Ok x.0) (Err Trailing) in r) Trailing h) [
      | inl e ↦ (let body = subst (λ (r : Result (List Field × List ℕ) CodecFault). IfErr r (λ d. is_body_fault false (is_named ps) d ≡ true)) e (fields_faults false (is_named ps) bitmap ps bytes (λ n k. k)) in absurd cc)
      | inr x ↦
          (let some = some_left x.0.0 x.0.1 x.2 in
          (x.0.0, some.0, some.1, subst (λ (r : List ℕ). Taken bitmap ps bytes x.0.0 r) some.2 (fields_taken bitmap ps bytes x.0 x.1)))
    ]

abbrev HasWholeFront : List Mti → List ℕ → Type 0
HasWholeFront types bytes = (front : List ℕ) × (byte : ℕ) × (rest : List ℕ) × (bytes ≡ front ++ (byte ∷ rest)) × IsOk (reading types front)

whole_front : (types : List Mti) (bytes : List ℕ) (t : Mti) (bitmap : ℕ) (behind : List ℕ) (fields : List Field) (byte : ℕ) (rest : List ℕ)
    → Headed types bytes t bitmap behind → Taken bitmap (parts_of t) behind fields (byte ∷ rest) → HasWholeFront types bytes
unfolding reading
whole_front types bytes t bitmap behind fields byte rest head body =
    let front = (mti_text t ++ bitmap_bytes bitmap) ++ flat_map field fields in
    let spelled : bytes ≡ ((mti_text t ++ bitmap_bytes bitmap) ++ flat_map field fields) ++ (byte ∷ rest) =
    head.spelled ∙ (ap (λ (x : List ℕ). (mti_text t ++ bitmap_bytes bitmap) ++ x) body.spelled ∙ sym (append_assoc (mti_text t ++ bitmap_bytes bitmap) (flat_map field fields) (byte ∷ rest))) in
    let read : reading types ((mti_text t ++ bitmap_bytes bitmap) ++ flat_map field fields) ≡ Ok (t, fields) =
    rw (header_again types t bitmap (flat_map field fields) head.among head.fits head.sound, whole_again bitmap (parts_of t) fields body.elements body.texts body.rules) refl in
    (front, byte, rest, spelled, subst (λ (r : Whole). IsOk r) (sym read) refl)

front_whole : (types : List Mti) (bytes : List ℕ) → IsBytes bytes → reading types bytes ≡ Err Trailing → HasWholeFront types bytes
unfolding reading
front_whole types bytes fits h =
    elim (bind_err (header_at types bytes) (λ head. whole_at head.1 (parts_of head.0) head.2 >>= λ fields. let r : Whole = Ok (head.0, fields) in r) Trailing h) [
      | inl e ↦ absurd (subst (λ (r : Result Header CodecFault). IfErr r IsOther) e (header_holds IsOther types bytes (λ k. cc) (λ k. cc) (λ k. cc) (record { unexpected = λ n k. cc; missing = λ n k. cc })) refl)
      | inr x ↦ elim (bind_err (whole_at x.0.1 (parts_of x.0.0) x.0.2) (λ fields. let r : Whole = Ok (x.0.0, fields) in r) Trailing x.2) [
        | inl e ↦
            (let rest = left x.0.1 (parts_of x.0.0) x.0.2 e in
            whole_front types bytes x.0.0 x.0.1 x.0.2 rest.0 rest.1 rest.2 (header_taken types bytes x.0 fits x.1) rest.3)
        | inr y ↦ (let none = y.2 in absurd cc)
      ]
    ]

pub trailing_byte : (types : List Mti) → NamesATrailingByte types
trailing_byte types bytes fits = (
  front_whole types bytes fits,
  λ h.
      let inside : IsBytes (h.0 ++ (h.1 ∷ h.2)) = subst IsBytes h.3 fits in
      ap (reading types) h.3 ∙ behind_whole types h.0 h.1 h.2 (bytes_front h.0 (h.1 ∷ h.2) inside) h.4,
)

-- ---- messages and replies

pub behind_message : NamesAByteBehindAMessage
behind_message bytes m byte rest h =
    ap (λ (x : List ℕ). reading taken_in (x ++ (byte ∷ rest))) h.1 ∙ trailing_read taken_in (mti_of m) (fields_of m) byte rest (message_are m h.0) (message_taken m)

pub behind_reply : NamesAByteBehindAReply
behind_reply bytes r byte rest h =
    ap (λ (x : List ℕ). reading given_out (x ++ (byte ∷ rest))) h.1 ∙ trailing_read given_out (reply_mti r) (reply_fields r) byte rest (reply_are r h.0) (reply_given r)
