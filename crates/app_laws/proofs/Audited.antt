-- An audit of the right replies and the right book finds no difference.
use Rattle.std.proofs.Common.{◌≡◌, List, ◌∷◌, length, refl, sym, ap, ◌∙◌}
use Rattle.std.proofs.lemmas.List.{append_cancel_left}
use Rattle.std.specs.FinMap as map
use Rattle.std.specs.List.{slice_get}
use Rattle.issuer_words.specs.Words.{Frame, ReplyBody, Rows, replies_to, rows_after}
use Rattle.file_laws.proofs.ReadBack.{replies_alone}
use Rattle.file_laws.proofs.ReadBackBlocks.{blocks_alone}
use Rattle.file_laws.specs.Blocks.{rows_after_blocks, replies_to_blocks}
use Rattle.app_audit.specs.Blocks.{FindsInBlocks, IsFirstDifferenceInBlocks, counts}
use Rattle.app_audit.specs.Difference.{IsFirstDifference, IsLeastDifference}
use Rattle.app_audit.specs.Finding.{Finds}
use Rattle.app_audit.specs.declared.audited.Audit.{Audit}
use Rattle.app_audit.specs.declared.block_audit.BlockAudit.{BlockAudit}
use Rattle.app_audit.specs.declared.audited.Audit.TheVariants as in_batch
use Rattle.app_audit.specs.declared.block_audit.BlockAudit.TheVariants as in_blocks
use Rattle.app_laws.specs.Audits.{AuditSaysSame, BlockAuditSaysSame}
use Rattle.app_laws.proofs.Once.{same_book}

no_reply : (replies right : List ReplyBody) (place : _) → replies ≡ right → IsFirstDifference replies right place → ⊥
no_reply replies right place same differ = differ.here (ap (λ (rs : List ReplyBody). slice_get rs place) same)

no_row : (book right : Rows) (key : _) → book ≡ right → IsLeastDifference book right key → ⊥
no_row book right key same differ = differ.here (ap (λ (rows : Rows). map.get rows key) same)

pub same : (replies right : List ReplyBody) (book after : Rows) (found : Audit) → replies ≡ right → book ≡ after → Finds replies book right after found → found ≡ in_batch.Same
same replies right book after in_batch.Same r b h = refl
same replies right book after in_batch.CountDiffers r b h = absurd (h (ap (λ (rs : List ReplyBody). length rs) r))
same replies right book after (in_batch.ReplyDiffers place) r b h = absurd (no_reply replies right place r h.1)
same replies right book after (in_batch.BookDiffers key) r b h = absurd (no_row book after key b h.1)

pub says_same : (rows : Rows) (frames : List Frame) (answers : List ReplyBody) (after : Rows) (found : Audit) → AuditSaysSame rows frames answers after found
says_same rows frames answers after found again from h =
    same answers (replies_to rows frames) after (rows_after rows frames) found (replies_alone (replies_to rows frames) answers again.replies from.replies)
    (same_book (rows_after rows frames) after again.book from.book) h

-- ---- blocks

first_of : (mine theirs : List ReplyBody) (my_rest their_rest : List (List ReplyBody)) → mine ∷ my_rest ≡ theirs ∷ their_rest → mine ≡ theirs
first_of mine theirs my_rest their_rest e = cc

no_reply_in : (replies right : List (List ReplyBody)) (block index : _) → replies ≡ right → IsFirstDifferenceInBlocks replies right block index → ⊥
no_reply_in replies right block index same d =
    let rest : d.mine ∷ d.my_rest ≡ d.theirs ∷ d.their_rest = append_cancel_left d.front _ _ (sym d.are ∙ same ∙ d.are_right) in
    no_reply d.mine d.theirs index (first_of d.mine d.theirs d.my_rest d.their_rest rest) d.here

pub same_blocks : (replies right : List (List ReplyBody)) (book after : Rows) (found : BlockAudit) → replies ≡ right → book ≡ after → FindsInBlocks replies book right after found → found ≡ in_blocks.Same
same_blocks replies right book after in_blocks.Same r b h = refl
same_blocks replies right book after in_blocks.CountDiffers r b h = absurd (h (ap (λ (rs : List (List ReplyBody)). counts rs) r))
same_blocks replies right book after (in_blocks.ReplyDiffers block index) r b h = absurd (no_reply_in replies right block index r h.1)
same_blocks replies right book after (in_blocks.BookDiffers key) r b h = absurd (no_row book after key b h.1)

pub blocks_say_same : (rows : Rows) (blocks : List (List Frame)) (answers : List (List ReplyBody)) (after : Rows) (found : BlockAudit) → BlockAuditSaysSame rows blocks answers after found
blocks_say_same rows blocks answers after found again from h =
    same_blocks answers (replies_to_blocks rows blocks) after (rows_after_blocks rows blocks) found (blocks_alone (replies_to_blocks rows blocks) answers again.replies from.replies)
    (same_book (rows_after_blocks rows blocks) after again.book from.book) h
