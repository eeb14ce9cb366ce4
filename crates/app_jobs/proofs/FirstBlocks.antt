-- What a halt of blocks leaves in a file that was empty.
use Rattle.std.proofs.Common.{◌≡◌, ℕ, List, [], ◌++◌, refl, sym, ◌∙◌, inl, inr, Bool, false, ◌||◌, Result, Ok, Err, IfErr, IsTrue}
use Rattle.std.proofs.lemmas.Bool.{or_parts}
use Rattle.std.proofs.lemmas.List.{append-nil}
use Rattle.file_blocks.specs.Blocks.{StopsBefore, StopsInHead, StopsInBlocks}
use Rattle.file_batch.specs.Words.{BatchFault, block_replies_magic, blocks_text, failed_at, head_text, is_of_bytes, replies_to_blocks}
use Rattle.file_laws.specs.declared.batch_fault.BatchFault.TheVariants.{Device}
use Rattle.issuer_rows.specs.Fold.{Rows}
use Rattle.app_jobs.specs.DecidedBlocks.{AreFirstAnswered}
use Rattle.app_jobs.specs.Decided.{Holding}

pub before_head : (known : Type 0) (old : Holding) (batch : List ℕ) (rows after : Rows) (fault : BatchFault) (count : ℕ) (said : Type 0)
    (reads : Type 0) (bytes written : List ℕ) (same : Type 0)
    → ((held : List ℕ) → old batch held → reads × (bytes ≡ held)) → (known → same → written ≡ [])
    → StopsBefore rows after count reads bytes fault same
    → AreFirstAnswered known old batch rows after fault count said written
before_head known old batch rows after fault count said reads bytes written same opened empty h =
    record {
      blocks = [];
      number = h.0;
      total = 0;
      book = h.1;
      read = λ held o. inl refl;
      fails = λ held o t. inl (refl, rw (← (opened held o).1) (h.3 (opened held o).0 t));
      replied = λ k. inl (refl, head_text block_replies_magic 0, rw (empty k h.2) refl);
    }

pub in_head : (known : Type 0) (old : Holding) (batch : List ℕ) (rows after : Rows) (fault : BatchFault) (count : ℕ) (said : Type 0)
    (reads : Type 0) (bytes : List ℕ) (puts : Type 0) (start written : List ℕ) (failed : Type 0)
    → (known → puts) → (known → start ≡ []) → (failed → ¬ IsTrue (is_of_bytes fault))
    → StopsInHead rows after count reads bytes puts start written failed
    → AreFirstAnswered known old batch rows after fault count said written
in_head known old batch rows after fault count said reads bytes puts start written failed put empty device h =
    record {
      blocks = [];
      number = h.0;
      total = h.3;
      book = h.1;
      read = λ held o. inl refl;
      fails = λ held o t. absurd (device h.2 t);
      replied = λ k.
          let part = h.6 (put k) in
          inl (refl, part.1, rw (part.2, empty k) part.3);
    }

pub behind_head : (known : Type 0) (old : Holding) (batch : List ℕ) (rows after : Rows) (fault : BatchFault) (count : ℕ) (said : Type 0)
    (reads : Type 0) (bytes : List ℕ) (puts : Type 0) (start written : List ℕ) (failed : Type 0)
    → ((held : List ℕ) → old batch held → reads × (bytes ≡ held)) → (known → puts) → (known → start ≡ []) → (failed → said)
    → StopsInBlocks rows after count reads bytes puts start written fault failed
    → AreFirstAnswered known old batch rows after fault count said written
behind_head known old batch rows after fault count said reads bytes puts start written failed opened put empty tells h =
    let kept = h.3.kept in
    record {
      blocks = kept.blocks;
      number = sym kept.number;
      total = h.0;
      book = kept.book;
      read = λ held o. inr (h.1, h.3.left, rw (← (opened held o).1) (h.2 (opened held o).0), kept.read (opened held o).0);
      fails = λ held o t. inr (
        h.1,
        h.3.left,
        rw (← (opened held o).1) (h.2 (opened held o).0),
        kept.read (opened held o).0,
        rw kept.number (h.3.fails (opened held o).0 t),
      );
      replied = λ k. inr (elim h.3.begun [
        | inl none ↦ (
          [],
          none (put k) ∙ (kept.put (put k) ∙ rw (empty k) (sym (append-nil (head_text block_replies_magic h.0 ++ blocks_text (replies_to_blocks rows kept.blocks))))),
          inl refl,
        )
        | inr begun ↦
            let part = begun.4 (put k) in (
              part.0,
              rw (part.2, kept.put (put k), empty k) refl,
              inr (
                tells begun.0,
                begun.1,
                (λ held o. (
                  h.1,
                  h.3.left,
                  begun.2,
                  rw (← (opened held o).1) (h.2 (opened held o).0),
                  kept.read (opened held o).0,
                  begun.3 (opened held o).0,
                )),
                part.1,
                rw (← kept.book) part.3,
              ),
            )
      ]);
    }

-- one device alone failed, so that the fault is of no bytes
pub device_alone : (fault : BatchFault) (reading putting : Bool) → (reading || putting) ≡ failed_at fault false → IsTrue putting → ¬ IsTrue (is_of_bytes fault)
device_alone Device reading putting failed alone of_bytes = absurd cc
device_alone _ reading putting failed alone of_bytes =
    let none : putting ≡ false = (or_parts reading putting failed).1 in
    absurd (cc (none, alone))

-- what follows from three facts of an error
pub from_three : {T E : Type 0} (r : Result T E) (P Q R S : E → Type 0) → ((e : E) → P e → Q e → R e → S e) → IfErr r P → IfErr r Q → IfErr r R → IfErr r S
from_three (Ok x) P Q R S follows p q h = tt
from_three (Err e) P Q R S follows p q h = follows e p q h
