-- What an audit found, as text.
use Rattle.std.specs.Prelude.{ℕ, List, ◌++◌, codes}
use Rattle.std.specs.Fmt.{decimal}
use Rattle.stm_journal_text.specs.Texts.{key_text}
use Rattle.issuer_rows.specs.declared.row_key.RowKey.{RowKey}
use Rattle.app_audit.specs.declared.audited.Audit.{Audit}
use Rattle.app_audit.specs.declared.audited.Audit.TheVariants as batch
use Rattle.app_audit.specs.declared.block_audit.BlockAudit.{BlockAudit}
use Rattle.app_audit.specs.declared.block_audit.BlockAudit.TheVariants as blocks

abbrev pub reply_text : ℕ → List ℕ
reply_text place = codes "reply " ++ (decimal place ++ codes " differs")

abbrev pub block_reply_text : ℕ → ℕ → List ℕ
block_reply_text block index = codes "block " ++ (decimal block ++ (codes " " ++ reply_text index))

-- the key as a journal writes it
abbrev pub row_text : RowKey → List ℕ
row_text key = codes "row " ++ (key_text key ++ codes " differs")

abbrev pub audit_text : Audit → List ℕ
audit_text batch.Same = codes "same"
audit_text batch.CountDiffers = codes "count differs"
audit_text (batch.ReplyDiffers place) = reply_text place
audit_text (batch.BookDiffers key) = row_text key

abbrev pub block_audit_text : BlockAudit → List ℕ
block_audit_text blocks.Same = codes "same"
block_audit_text blocks.CountDiffers = codes "count differs"
block_audit_text (blocks.ReplyDiffers block index) = block_reply_text block index
block_audit_text (blocks.BookDiffers key) = row_text key
