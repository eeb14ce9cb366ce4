-- What a function that reads or writes does to its devices.
use Rattle.std.specs.Prelude.{◌≡◌, ◌⊎◌, ◌||◌, Bool, Result, Ok, IfErr, OnOk}
use Rattle.file_laws.specs.BatchFault.{failed_after}
use Rattle.file_laws.specs.declared.batch_fault.BatchFault.{BatchFault}
use Rattle.file_laws.specs.declared.batch_fault.BatchFault.TheVariants.{Device}

-- over a source or a sink
module _ {S : Type 0} (is_known : S → Type 0) (has_failed : S → Bool) (may_fail : S → Type 0) where
  -- it returns the device's fault exactly where a call of the device failed, and only of a device whose calls may fail; and what was known
  -- of the device is known still
  pub record UsesDevice {X : Type 0} (old new : S) (result : Result X BatchFault) : Type 0 where
    pub failed : has_failed new ≡ failed_after result (has_failed old)
    pub fault : IfErr result (λ e. e ≡ Device → may_fail old)
    pub may : may_fail new → may_fail old
    pub known : is_known old → is_known new

  -- no call of the device failed
  abbrev pub KeepsDevice : S → S → Type 0
  KeepsDevice old new = UsesDevice {X = Unit {0}} old new (Ok tt)

-- over a source and a sink
module _ {S T : Type 0} (is_read_known : S → Type 0) (read_failed : S → Bool) (read_may_fail : S → Type 0)
    (is_put_known : T → Type 0) (put_failed : T → Bool) (put_may_fail : T → Type 0) where
  -- it returns the device's fault exactly where a call of one of them failed, and only where a call of one may fail; and what was known of
  -- them is known still
  pub record UsesDevices {X : Type 0} (old new : S) (old_sink new_sink : T) (result : Result X BatchFault) : Type 0 where
    pub failed : (read_failed new || put_failed new_sink) ≡ failed_after result (read_failed old || put_failed old_sink)
    pub fault : IfErr result (λ e. e ≡ Device → read_may_fail old ⊎ put_may_fail old_sink)
    pub kept : OnOk result ((read_failed new ≡ read_failed old) × (put_failed new_sink ≡ put_failed old_sink))
    pub read_may : read_may_fail new → read_may_fail old
    pub put_may : put_may_fail new_sink → put_may_fail old_sink
    pub read_known : is_read_known old → is_read_known new
    pub put_known : is_put_known old_sink → is_put_known new_sink
