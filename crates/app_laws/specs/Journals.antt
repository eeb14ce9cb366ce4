-- What an audit finds by the journal of a run.
use Rattle.std.specs.Prelude.{◌≡◌, ◌≢◌, ◌⊎◌, ℕ, List, length}
use Rattle.issuer_rows.specs.declared.frame.Frame.{Frame}
use Rattle.app_audit.specs.declared.audited.Audit.{Audit}
use Rattle.app_audit.specs.declared.audited.Audit.TheVariants.{Same, CountDiffers}
use Rattle.file_devices.specs.BatchNames.{Names}

-- neither replies nor new book were put over the journal
abbrev pub IsOfOwnFile : Names → List ℕ → Type 0
IsOfOwnFile names journal = (names.replies ≢ journal) × (journal ≢ names.new_book)

-- `same`; but where the run had no incarnation or epoch left, so that its core committed fewer than all messages, `count differs`
abbrev pub IsFoundByJournal : ℕ → List Frame → Audit → Type 0
IsFoundByJournal committed frames found = (found ≡ Same) ⊎ ((found ≡ CountDiffers) × (committed ≢ length frames))
