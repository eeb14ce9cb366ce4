-- What a reader answers is what the bytes spell.
use Rattle.std.proofs.Common.{◌≡◌, ◌≢◌, ℕ, true, List, Option, Some, None, Result, Ok, Err, sym, ap, subst, ◌∙◌}
use Rattle.std.specs.Prelude.{IsSome, IfOk, IfErr, option_map}
use Rattle.iso8583.specs.declared.codec_fault.CodecFault.{CodecFault}
use Rattle.iso8583.specs.declared.codec_fault.CodecFault.TheVariants.{OutOfMemory}
use Rattle.iso_laws.specs.declared.mti.Mti.{Mti}
use Rattle.iso_laws.specs.Types.{is_among}
use Rattle.iso_laws.specs.Spelling.{Field, spelling}
use Rattle.iso_laws.specs.Reading.{Gives, reading}
use Rattle.iso_laws.proofs.Headers.{IsBytes}
use Rattle.iso_laws.proofs.NoMemory.{reading_none}
use Rattle.iso_laws.proofs.Whole.{AreFields, reading_found, reading_again}

abbrev read_as : Mti × List Field → Result (Mti × List Field) CodecFault
read_as x = Ok x

same_reading : (x y : Mti × List Field) → read_as x ≡ read_as y → (x.0 ≡ y.0) × (x.1 ≡ y.1)
same_reading x y h = (cc, cc)

-- an element that is there isn't missing
pub missing : {X : Type 0} (o : Option X) (f : X → List ℕ) → IsSome (option_map f o) → o ≡ None → ⊥
missing None f h k = absurd cc
missing (Some x) f h k = absurd cc

-- values that are read from these types
module _ {V : Type 0} (types : List Mti) (mti : V → Mti) (fields : V → List Field) (IsValue : V → Type 0)
    (are : (v : V) → IsValue v → AreFields (mti v) (fields v)) (among : (v : V) → is_among types (mti v) ≡ true)
    (same : (v w : V) → IsValue v → IsValue w → mti v ≡ mti w → fields v ≡ fields w → v ≡ w) where
  abbrev pub IsRead : List ℕ → Result V CodecFault → Type 0
  IsRead bytes result = Gives (λ v. (mti v, fields v)) result (reading types bytes)

  abbrev pub SpellsValue : List ℕ → V → Type 0
  SpellsValue bytes v = IsValue v × (bytes ≡ spelling (mti v) (fields v))

  pub is_found : (bytes : List ℕ) (result : Result V CodecFault) → IsBytes bytes → IsRead bytes result → IfOk result IsValue → IfOk result (SpellsValue bytes)
  is_found bytes (Ok v) fits read h = (h, (reading_found types bytes (mti v, fields v) fits read).spelled)
  is_found bytes (Err e) fits read h = tt

  again : (bytes : List ℕ) (v : V) → SpellsValue bytes v → reading types bytes ≡ Ok (mti v, fields v)
  again bytes v s = ap (reading types) s.1 ∙ reading_again types (mti v) (fields v) (are v s.0) (among v)

  pub is_only : (bytes : List ℕ) (result : Result V CodecFault) → IsRead bytes result → IfOk result IsValue → (v : V) → SpellsValue bytes v → result ≡ Ok v
  is_only bytes (Ok w) read h v s =
      let parts = same_reading (mti w, fields w) (mti v, fields v) (sym read ∙ again bytes v s) in
      let one : w ≡ v = same w v h s.0 parts.0 parts.1 in
      cc
  is_only bytes (Err e) read h v s =
      let read_again : reading types bytes ≡ Ok (mti v, fields v) = again bytes v s in
      absurd cc

  pub needs_no_memory : (bytes : List ℕ) (result : Result V CodecFault) → IsRead bytes result → IfErr result (λ e. e ≢ OutOfMemory)
  needs_no_memory bytes (Ok v) read = tt
  needs_no_memory bytes (Err e) read = subst (λ (r : Result (Mti × List Field) CodecFault). IfErr r (λ e. e ≢ OutOfMemory)) read (reading_none types bytes)
