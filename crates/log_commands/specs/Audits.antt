-- What the program says of an audit of a log.
use Rattle.std.specs.Prelude.{◌≡◌, ◌⊎◌, ℕ, List, [], ◌∷◌, ◌++◌, Option}
use Rattle.std.specs.Io.KnownBytes.{Appends}
use Rattle.app_audit.specs.Texts.{block_audit_text}
use Rattle.app_audit.specs.declared.block_audit.BlockAudit.{BlockAudit}
use Rattle.app_jobs.specs.Decided.{Holding}
use Rattle.file_batch.specs.Words.{Failing, Names}
use Rattle.log_commands.specs.Audited.{IsAudited, IsAuditRefusal, status_of_audit}
use Rattle.log_commands.specs.CommandFault.{status_of}
use Rattle.log_commands.specs.declared.command_fault.CommandFault.{CommandFault}

-- The exit status says what was found, which was printed; or 1, where not all of that could be; or it is that of the reason why nothing is found.
abbrev pub EndsAudit : Type 0 → Holding → Failing → Holding → (List ℕ → Type 0) → (List ℕ → Type 0) → Names → Option (List ℕ) → Option (List ℕ) → ℕ → Type 0
EndsAudit known old failing held reading in_use names before after status =
    ((found : BlockAudit) × IsAudited known old held names found
    × (((status ≡ status_of_audit found) × Appends before after (block_audit_text found ++ 10 ∷ [])) ⊎ (status ≡ 1)))
    ⊎ ((fault : CommandFault) × (status ≡ status_of fault) × IsAuditRefusal held reading in_use old failing names fault)
