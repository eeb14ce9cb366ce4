-- The faults that reading the type and the bitmap can have.
use Rattle.std.proofs.Common.{ℕ, List, [], ◌∷◌, length, eqb, ltb, Option, Some, None, Result, Ok}
use Rattle.std.specs.Prelude.{IfErr}
use Rattle.std.specs.Str.{bytes_eq}
use Rattle.std.specs.Int.{w64, from_be_bytes}
use Rattle.iso8583.specs.declared.codec_fault.CodecFault.{CodecFault}
use Rattle.iso8583.specs.declared.codec_fault.CodecFault.TheVariants.{Short, BadMti, SecondaryBitmap, Unexpected, Missing}
use Rattle.iso_laws.specs.Elements.{Part, parts_of}
use Rattle.iso_laws.specs.declared.mti.Mti.{Mti}
use Rattle.iso_laws.specs.Types.{mti_text}
use Rattle.iso_laws.specs.Reading.{◌>>=◌, bytes_at, mti_at, least, is_unexpected, is_missing, first_wrong, presence_at, is_extended, secondary_at, bitmap_at, header_at}
use Rattle.iso_laws.proofs.Headers.{Header}
use Rattle.iso_laws.proofs.BodyFaults.{then_holds, either_holds}

-- what holds of each fault of a bitmap's elements
pub record OfBitmap (P : CodecFault → Type 0) : Type 0 where
  pub unexpected : (n : ℕ) → P (Unexpected n)
  pub missing : (n : ℕ) → P (Missing n)

wrong_holds : (P : CodecFault → Type 0) (a b : Option ℕ) → OfBitmap P → IfErr (first_wrong a b) P
wrong_holds P (Some n) b h = h.unexpected n
wrong_holds P None (Some n) h = h.missing n
wrong_holds P None None h = tt

presence_holds : (P : CodecFault → Type 0) (ps : List Part) (bitmap : ℕ) → OfBitmap P → IfErr (presence_at ps bitmap) P
unfolding presence_at
presence_holds P ps bitmap h = wrong_holds P (least (is_unexpected ps bitmap) 2 127) (least (is_missing ps bitmap) 2 127) h

pub mti_holds : (P : CodecFault → Type 0) (types : List Mti) (text : List ℕ) → P BadMti → IfErr (mti_at types text) P
unfolding mti_at
mti_holds P [] text h = h
mti_holds P (t ∷ ts) text h = either_holds P (bytes_eq text (mti_text t)) _ _ tt (mti_holds P ts text h)

bytes_holds : (P : CodecFault → Type 0) (n size : ℕ) (bytes : List ℕ) → P (Short n) → IfErr (bytes_at n size bytes) P
bytes_holds P n size bytes h = either_holds P (ltb (length bytes) size) _ _ h tt

-- the bitmap, in eight bytes or in sixteen
pub bits_hold : (P : CodecFault → Type 0) (bytes : List ℕ) → P (Short 0) → P SecondaryBitmap → IfErr (bitmap_at bytes) P
unfolding bitmap_at secondary_at
bits_hold P bytes short second =
    then_holds P (bytes_at 0 8 bytes) _ (bytes_holds P 0 8 bytes short) (λ x.
    either_holds P (is_extended (from_be_bytes w64 x.0)) _ _
    (then_holds P (bytes_at 0 8 x.1) _ (bytes_holds P 0 8 x.1 short) (λ y. either_holds P (eqb (from_be_bytes w64 y.0) 0) _ _ second tt)) tt)

-- behind the bitmap
abbrev pub presence_read : Mti → ℕ × List ℕ → Result Header CodecFault
presence_read t bits = presence_at (parts_of t) bits.0 >>= λ _. let r : Result Header CodecFault = Ok (t, bits.0, bits.1) in r

pub presence_read_holds : (P : CodecFault → Type 0) (t : Mti) (bits : ℕ × List ℕ) → OfBitmap P → IfErr (presence_read t bits) P
presence_read_holds P t bits h = then_holds P (presence_at (parts_of t) bits.0) _ (presence_holds P (parts_of t) bits.0 h) (λ _. tt)

-- behind the type
abbrev pub bitmap_read : Mti → List ℕ → Result Header CodecFault
bitmap_read t rest = bitmap_at rest >>= λ bits. presence_read t bits

pub bitmap_holds : (P : CodecFault → Type 0) (t : Mti) (rest : List ℕ) → P (Short 0) → P SecondaryBitmap → OfBitmap P → IfErr (bitmap_read t rest) P
bitmap_holds P t rest short second h = then_holds P (bitmap_at rest) _ (bits_hold P rest short second) (λ bits. presence_read_holds P t bits h)

pub header_holds : (P : CodecFault → Type 0) (types : List Mti) (bytes : List ℕ) → P (Short 0) → P BadMti → P SecondaryBitmap → OfBitmap P → IfErr (header_at types bytes) P
unfolding header_at
header_holds P types bytes short type second h =
    then_holds P (bytes_at 0 4 bytes) _ (bytes_holds P 0 4 bytes short) (λ front.
    then_holds P (mti_at types front.0) _ (mti_holds P types front.0 type) (λ t. bitmap_holds P t front.1 short second h))
