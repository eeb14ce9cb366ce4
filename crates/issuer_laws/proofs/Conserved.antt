-- Every decision keeps every backing, and so does a batch.
use Rattle.std.proofs.Common.{◌≡◌, List, [], ◌∷◌, refl, ◌∙◌}
use Rattle.std.specs.FinMap as map
use Rattle.issuer_rows.proofs.PutsOnce.{kinds_apart}
use Rattle.issuer_words.specs.Words.{Frame, Rows, rows_after, rows_after_one}
use Rattle.issuer_laws.proofs.Backings.{Holder, Account, Prefix, backing, balanced_keeps}
use Rattle.issuer_laws.proofs.Balanced.{decision_balanced}
use Rattle.issuer_laws.specs.Conserved.{KeepsAccounts, KeepsPrefixes}

kept_by_one : (h : Holder) (rows : Rows) (frame : Frame) → backing h (rows_after_one rows frame) ≡ backing h rows
kept_by_one h rows frame = balanced_keeps h rows _ (kinds_apart (map.get rows) frame) (decision_balanced h (map.get rows) frame)

kept_by_batch : (h : Holder) (rows : Rows) (frames : List Frame) → backing h (rows_after rows frames) ≡ backing h rows
kept_by_batch h rows [] = refl
kept_by_batch h rows (frame ∷ frames) = kept_by_batch h (rows_after_one rows frame) frames ∙ kept_by_one h rows frame

pub accounts_kept : (rows : Rows) (frame : Frame) → KeepsAccounts rows (rows_after_one rows frame)
accounts_kept rows frame id = kept_by_one (Account id) rows frame

pub prefixes_kept : (rows : Rows) (frame : Frame) → KeepsPrefixes rows (rows_after_one rows frame)
prefixes_kept rows frame prefix = kept_by_one (Prefix prefix) rows frame

pub accounts_kept_by_batch : (rows : Rows) (frames : List Frame) → KeepsAccounts rows (rows_after rows frames)
accounts_kept_by_batch rows frames id = kept_by_batch (Account id) rows frames

pub prefixes_kept_by_batch : (rows : Rows) (frames : List Frame) → KeepsPrefixes rows (rows_after rows frames)
prefixes_kept_by_batch rows frames prefix = kept_by_batch (Prefix prefix) rows frames
