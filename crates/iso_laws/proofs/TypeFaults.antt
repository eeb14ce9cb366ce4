-- When reading names an unknown type.
use Rattle.std.proofs.Common.{◌≡◌, ◌≢◌, ℕ, ◌<◌, ◌≤◌, true, false, ltb, List, [], ◌∷◌, ◌++◌, length, take, drop, Result, Err, refl, subst, inl, inr}
use Rattle.std.specs.Prelude.{IfErr}
use Rattle.std.specs.Str.{bytes_eq}
use Rattle.std.proofs.lemmas.Bool.{cases_lt, lt-ltb, le-ltb, or_right}
use Rattle.std.proofs.lemmas.List.{take-append-drop}
use Rattle.std.proofs.lemmas.Slice.Eq.{bytes_eq-Decides}
use Rattle.iso8583.specs.declared.codec_fault.CodecFault.{CodecFault}
use Rattle.iso8583.specs.declared.codec_fault.CodecFault.TheVariants.{Short, BadMti}
use Rattle.iso_laws.specs.Elements.{parts_of}
use Rattle.iso_laws.specs.declared.mti.Mti.{Mti}
use Rattle.iso_laws.specs.Types.{mti_text, is_among}
use Rattle.iso_laws.specs.Spelling.{Field}
use Rattle.iso_laws.specs.Reading.{mti_at, header_at, whole_at, reading}
use Rattle.iso_laws.specs.Faults.{NamesAnUnknownType}
use Rattle.iso_laws.proofs.Elements.{bytes_again}
use Rattle.iso_laws.proofs.Headers.{length-mti_text, mti_again}
use Rattle.iso_laws.proofs.HeaderFaults.{bitmap_read, bitmap_holds}
use Rattle.iso_laws.proofs.BodyFaults.{then_holds, whole_never}

abbrev Whole : Type 0
Whole = Result (Mti × List Field) CodecFault

unknown : (types : List Mti) (text : List ℕ) → ((t : Mti) → is_among types t ≡ true → text ≢ mti_text t) → mti_at types text ≡ Err BadMti
unfolding mti_at
unknown [] text h = refl
unknown (u ∷ us) text h =
    let other : bytes_eq text (mti_text u) ≡ false =
    elim (bytes_eq text (mti_text u)) as (λ b. bytes_eq text (mti_text u) ≡ b → b ≡ false) [
      | true ↦ λ e.
          (let here : bytes_eq (mti_text u) (mti_text u) ≡ true = (bytes_eq-Decides (mti_text u) (mti_text u)).1 refl in
          absurd (h u (rw here refl) ((bytes_eq-Decides text (mti_text u)).0 e)))
      | false ↦ λ e. refl
    ] refl in
    rw other (unknown us text (λ t k. h t (or_right (bytes_eq (mti_text u) (mti_text t)) (is_among us t) k)))

abbrev IsOther : CodecFault → Type 0
IsOther d = d ≢ BadMti

-- a text that begins with a type of the list
known : (types : List Mti) (t : Mti) (rest : List ℕ) → is_among types t ≡ true → IfErr (reading types (mti_text t ++ rest)) IsOther
unfolding reading header_at
known types t rest among =
    rw (bytes_again 0 4 (mti_text t) rest (length-mti_text t), mti_again types t among)
    (then_holds IsOther (bitmap_read t rest) _ (bitmap_holds IsOther t rest (λ e. cc) (λ e. cc) (record { unexpected = λ n e. cc; missing = λ n e. cc })) (λ head.
    then_holds IsOther (whole_at head.1 (parts_of head.0) head.2) _ (whole_never head.1 (parts_of head.0) head.2 BadMti refl) (λ _. tt)))

unknown_read : (types : List Mti) (bytes : List ℕ) → 4 ≤ length bytes → ((t : Mti) → is_among types t ≡ true → take 4 bytes ≢ mti_text t) → reading types bytes ≡ Err BadMti
unfolding reading header_at
unknown_read types bytes enough h =
    let long : ltb (length bytes) 4 ≡ false = le-ltb (length bytes) 4 enough in
    rw (long, unknown types (take 4 bytes) h) refl

pub short_read : (types : List Mti) (bytes : List ℕ) → length bytes < 4 → reading types bytes ≡ Err (Short 0)
unfolding reading header_at
short_read types bytes h = let few : ltb (length bytes) 4 ≡ true = lt-ltb (length bytes) 4 h in rw few refl

pub unknown_type : (types : List Mti) → NamesAnUnknownType types
unknown_type types bytes = (
  λ h. (
    elim (cases_lt (length bytes) 4) [
      | inl lt ↦ (let short = short_read types bytes lt in absurd cc)
      | inr le ↦ le
    ],
    λ t among same.
        let text : mti_text t ++ drop 4 bytes ≡ bytes = rw (← same) (take-append-drop 4 bytes) in
        let other = subst (λ (x : List ℕ). IfErr (reading types x) IsOther) text (known types t (drop 4 bytes) among) in
        subst (λ (r : Whole). IfErr r IsOther) h other refl,
  ),
  λ h. unknown_read types bytes h.0 h.1,
)
