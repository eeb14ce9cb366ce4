-- Messages that are gathered one after another.
use Rattle.std.proofs.Common.{◌≡◌, ◌<◌, ◌≤◌, List, [], ◌∷◌, ◌++◌, length, ap, sym, subst, ◌∙◌, append_assoc, arith}
use Rattle.std.proofs.lemmas.List.{append-nil}
use Rattle.issuer_rows.specs.declared.frame.Frame.{Frame}
use Rattle.file_laws.specs.Blocks.{all_messages}
use Rattle.log_replay.specs.Blocks.{AreBlocksOf}
use Rattle.log_replay.specs.Gathering.{Gathers, HasGathered, full_blocks}
use Rattle.log_replay.specs.declared.gathering.Gathering.{Gathering}
use Rattle.log_replay.proofs.Cutting.{full_cut, last_cut, one_more_full}
use Rattle.file_laws.proofs.FoldedBlocks.{one_more_list}

-- one message waits more
pub waits : (old new : Gathering) (frame : Frame) → full_blocks new ≡ full_blocks old → new.block.items ≡ old.block.items ++ frame ∷ [] → length new.block.items < 65536
    → Gathers old new (frame ∷ [])
waits old new frame same block room messages has = record {
  full = rw same has.full;
  are = ap (λ (x : List Frame). x ++ frame ∷ []) has.are ∙ append_assoc (all_messages (full_blocks old)) old.block.items (frame ∷ [])
      ∙ ap (λ (x : List Frame). all_messages (full_blocks old) ++ x) (sym block) ∙ ap (λ (blocks : List (List Frame)). all_messages blocks ++ new.block.items) (sym same);
  room = room;
}

-- one message more makes its block full
pub fills : (old new : Gathering) (block : List Frame) (frame : Frame) → block ≡ old.block.items ++ frame ∷ [] → length block ≡ 65536
    → full_blocks new ≡ full_blocks old ++ block ∷ [] → new.block.items ≡ [] → Gathers old new (frame ∷ [])
fills old new block frame is full more none messages has = record {
  full = rw more (one_more_full (full_blocks old) block has.full full);
  are = ap (λ (x : List Frame). x ++ frame ∷ []) has.are ∙ append_assoc (all_messages (full_blocks old)) old.block.items (frame ∷ [])
      ∙ ap (λ (x : List Frame). all_messages (full_blocks old) ++ x) (sym is) ∙ sym (one_more_list (full_blocks old) block)
      ∙ ap all_messages (sym more) ∙ sym (append-nil (all_messages (full_blocks new))) ∙ ap (λ (x : List Frame). all_messages (full_blocks new) ++ x) (sym none);
  room = rw none (omega arith);
}

-- some more are gathered, and others behind them
pub joined : (old middle new : Gathering) (some more : List Frame) → Gathers old middle some → Gathers middle new more → Gathers old new (some ++ more)
joined old middle new some more first then messages has =
    subst (λ (m : List Frame). HasGathered m new) (append_assoc messages some more) (then (messages ++ some) (first messages has))

-- none more is gathered
pub nothing : (gathering : Gathering) → Gathers gathering gathering []
nothing gathering messages has = subst (λ (m : List Frame). HasGathered m gathering) (sym (append-nil messages)) has

-- the last block has no message
pub none_left : (gathering : Gathering) (messages : List Frame) → gathering.block.items ≡ [] → HasGathered messages gathering → AreBlocksOf messages (full_blocks gathering)
none_left gathering messages none has = record {
  all = sym (has.are ∙ ap (λ (x : List Frame). all_messages (full_blocks gathering) ++ x) none ∙ append-nil (all_messages (full_blocks gathering)));
  cut = full_cut (full_blocks gathering) has.full;
}

-- it has some
pub some_left : (gathering : Gathering) (messages : List Frame) (blocks : List (List Frame)) → 1 ≤ length gathering.block.items → blocks ≡ full_blocks gathering ++ gathering.block.items ∷ []
    → HasGathered messages gathering → AreBlocksOf messages blocks
some_left gathering messages blocks some are has = rw are (record {
  all = one_more_list (full_blocks gathering) gathering.block.items ∙ sym has.are;
  cut = last_cut (full_blocks gathering) gathering.block.items has.full some (omega (arith, has.room));
})
