-- An audit of the files that a run of blocks left.
use Rattle.std.proofs.Common.{◌≡◌, List, [], ◌∷◌, inl, inr}
use Rattle.issuer_words.specs.Words.{Frame, Rows, rows_after}
use Rattle.book_changes.proofs.Sound.{stays_sound}
use Rattle.book_laws.specs.CheckBook.{IsSound}
use Rattle.book_laws.specs.Text.{book_text}
use Rattle.file_batch.specs.Words.{Failing, Holding, Names, replies_to_blocks, rows_after_blocks}
use Rattle.app_runs.specs.Words.{AreBlocksAudited, AreBlocksDecided, IsBlockAuditingFault, JobFault}
use Rattle.app_audit.specs.declared.block_audit.BlockAudit.{BlockAudit}
use Rattle.app_audit.specs.declared.block_audit.BlockAudit.TheVariants as in_blocks
use Rattle.app_laws.specs.Faults.{IsOfNoFile, MayNotBeRead}
use Rattle.app_laws.specs.Kept.{AreInputsKept}
use Rattle.app_laws.proofs.Audited.{same_blocks}
use Rattle.app_laws.proofs.Books.{HoldsBook, no_book_fault, one_book}
use Rattle.app_laws.proofs.Files.{HoldsBlockReplies, HoldsBlocks, no_block_replies_fault, no_blocks_fault, one_block_file, one_list_of_blocks}
use Rattle.app_laws.proofs.RunFiles.{of_these_alone, out_of_memory}

-- nothing is wrong with the book after blocks
blocks_stay_sound : (blocks : List (List Frame)) (rows : Rows) → IsSound rows → IsSound (rows_after_blocks rows blocks)
blocks_stay_sound [] rows sound = sound
blocks_stay_sound (block ∷ blocks) rows sound = blocks_stay_sound blocks (rows_after rows block) (stays_sound block rows sound)

-- the files of these names hold this book and these blocks, the replies of deciding them, and the book after them
record HoldsBlockRun (holds : Holding) (names : Names) (rows : Rows) (blocks : List (List Frame)) : Type 0 where
  book : HoldsBook holds names.book rows
  sent : HoldsBlocks holds names.batch blocks
  replies : HoldsBlockReplies holds names.replies (replies_to_blocks rows blocks)
  new_book : HoldsBook holds names.new_book (rows_after_blocks rows blocks)

held_by_blocks : (known : Type 0) (old new : Holding) (names : Names) (count messages : _) (run : AreBlocksDecided known old new names count messages)
    → AreInputsKept known old new names → HoldsBlockRun new names run.rows run.blocks
held_by_blocks known old new names count messages run inputs =
    let k = inputs.was_known in
    let text = run.book_there k in
    let is = run.opening text.0 text.1 in
    let sent = run.blocks_there k in
    record {
      book = record { text = text.0; held = inputs.book.kept text.0 text.1; read = is.0; sound = is.1 };
      sent = record { bytes = sent.0; held = inputs.batch.kept sent.0 sent.1; is = run.read sent.0 sent.1 };
      replies = record { held = run.answered k inputs.apart; are = run.bodies };
      new_book = record {
        text = book_text (rows_after_blocks run.rows run.blocks);
        held = run.after k;
        read = run.back;
        sound = blocks_stay_sound run.blocks run.rows is.1;
      };
    }

pub says_same_of_blocks : (known later : Type 0) (old new : Holding) (names : Names) (count messages : _) (found : BlockAudit) → AreInputsKept known old new names
    → AreBlocksDecided known old new names count messages → AreBlocksAudited later new names found → found ≡ in_blocks.Same
says_same_of_blocks known later old new names count messages found inputs run audited =
    let held = held_by_blocks known old new names count messages run inputs in
    let book = one_book new names.book run.rows audited.rows held.book audited.opening in
    let sent = one_block_file new names.batch run.blocks audited.blocks held.sent audited.read in
    let mine = audited.answers in
    let replies = one_list_of_blocks new names.replies (replies_to_blocks run.rows run.blocks) mine.answers held.replies mine.answered in
    let new_book = one_book new names.new_book (rows_after_blocks run.rows run.blocks) mine.rows_after_them held.new_book mine.after in
    same_blocks mine.answers (replies_to_blocks run.rows run.blocks) mine.rows_after_them (rows_after_blocks run.rows run.blocks) found replies new_book
    (rw (book, sent) at mine.finds)

pub no_fault_of_blocks : (known : Type 0) (old new : Holding) (failing : Failing) (names : Names) (count messages : _) (fault : JobFault) → AreInputsKept known old new names
    → AreBlocksDecided known old new names count messages → IsBlockAuditingFault new failing names fault → IsOfNoFile (MayNotBeRead failing names) fault
no_fault_of_blocks known old new failing names count messages fault inputs run h =
    let held = held_by_blocks known old new names count messages run inputs in
    let may_fail = MayNotBeRead failing names in
    let may = of_these_alone failing names in
    elim h [
      | inl book ↦ no_book_fault new failing names.book run.rows may_fail fault may.book held.book book
      | inr b ↦ elim b.1 [
        | inl sent ↦ no_blocks_fault new failing names.batch run.blocks may_fail fault may.batch held.sent sent
        | inr m ↦ elim m.1 [
          | inl replies ↦ no_block_replies_fault new failing names.replies (replies_to_blocks run.rows run.blocks) may_fail fault may.replies held.replies replies
          | inr r ↦ elim r.1 [
            | inl new_book ↦ no_book_fault new failing names.new_book (rows_after_blocks run.rows run.blocks) may_fail fault may.new_book held.new_book new_book
            | inr n ↦ out_of_memory may_fail fault n.1
          ]
        ]
      ]
    ]
