-- Reading never runs out of memory.
use Rattle.std.proofs.Common.{◌≢◌, ℕ, List, refl}
use Rattle.std.specs.Prelude.{IfErr}
use Rattle.iso8583.specs.declared.codec_fault.CodecFault.{CodecFault}
use Rattle.iso8583.specs.declared.codec_fault.CodecFault.TheVariants.{OutOfMemory}
use Rattle.iso_laws.specs.Elements.{parts_of}
use Rattle.iso_laws.specs.declared.mti.Mti.{Mti}
use Rattle.iso_laws.specs.Reading.{whole_at, header_at, reading}
use Rattle.iso_laws.proofs.BodyFaults.{then_holds, whole_never}
use Rattle.iso_laws.proofs.HeaderFaults.{header_holds}

abbrev IsOther : CodecFault → Type 0
IsOther d = d ≢ OutOfMemory

pub reading_none : (types : List Mti) (bytes : List ℕ) → IfErr (reading types bytes) (λ e. e ≢ OutOfMemory)
unfolding reading
reading_none types bytes =
    then_holds IsOther (header_at types bytes) _ (header_holds IsOther types bytes (λ e. cc) (λ e. cc) (λ e. cc) (record { unexpected = λ n e. cc; missing = λ n e. cc })) (λ head.
    then_holds IsOther (whole_at head.1 (parts_of head.0) head.2) _ (whole_never head.1 (parts_of head.0) head.2 OutOfMemory refl) (λ _. tt))
