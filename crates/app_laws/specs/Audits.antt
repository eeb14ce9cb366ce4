-- What an audit finds of the files of a run.
use Rattle.std.specs.Prelude.{◌≡◌, List}
use Rattle.issuer_words.specs.Words.{Frame, ReplyBody, Rows, replies_to, rows_after}
use Rattle.file_laws.specs.Blocks.{rows_after_blocks, replies_to_blocks}
use Rattle.app_audit.specs.Blocks.{FindsInBlocks}
use Rattle.app_audit.specs.Finding.{Finds}
use Rattle.app_audit.specs.declared.audited.Audit.{Audit}
use Rattle.app_audit.specs.declared.block_audit.BlockAudit.{BlockAudit}
use Rattle.app_audit.specs.declared.audited.Audit.TheVariants as in_batch
use Rattle.app_audit.specs.declared.block_audit.BlockAudit.TheVariants as in_blocks
use Rattle.app_laws.specs.Files.{AreReadAgain, AreReadFrom, AreBlocksReadAgain, AreBlocksReadFrom}

-- what an audit finds of what is read from the files of a run is `same`
abbrev pub AuditSaysSame : Rows → List Frame → List ReplyBody → Rows → Audit → Type 0
AuditSaysSame rows frames answers after found =
    AreReadAgain rows frames → AreReadFrom rows frames answers after
    → Finds answers after (replies_to rows frames) (rows_after rows frames) found
    → found ≡ in_batch.Same

-- the same of blocks
abbrev pub BlockAuditSaysSame : Rows → List (List Frame) → List (List ReplyBody) → Rows → BlockAudit → Type 0
BlockAuditSaysSame rows blocks answers after found =
    AreBlocksReadAgain rows blocks → AreBlocksReadFrom rows blocks answers after
    → FindsInBlocks answers after (replies_to_blocks rows blocks) (rows_after_blocks rows blocks) found
    → found ≡ in_blocks.Same
