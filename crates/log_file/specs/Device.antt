-- What a function that reads or writes a log does to its file.
use Rattle.std.specs.Prelude.{◌≡◌, Bool, Result, IfErr}
use Rattle.file_laws.specs.LogFault.{failed_after}
use Rattle.file_laws.specs.declared.log_fault.LogFault.{LogFault}
use Rattle.file_laws.specs.declared.log_fault.LogFault.TheVariants.{Failed}

-- it returns `Failed` exactly where a call on the file failed, and only of a file whose calls may fail; and what was known of the file is
-- known still
module _ {S : Type 0} (is_known : S → Type 0) (has_failed : S → Bool) (may_fail : S → Type 0) where
  pub record UsesFile {X : Type 0} (old new : S) (result : Result X LogFault) : Type 0 where
    pub failed : has_failed new ≡ failed_after result (has_failed old)
    pub fault : IfErr result (λ e. e ≡ Failed → may_fail old)
    pub may : may_fail new → may_fail old
    pub known : is_known old → is_known new
