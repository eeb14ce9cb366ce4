-- What a journal plays to is of its book and its bodies.
use Rattle.std.proofs.Common.{◌≡◌, List, [], ◌∷◌, length, take, ap, ◌∙◌}
use Rattle.std.proofs.Math.Seq.{take-length}
use Rattle.issuer_words.specs.Words.{Frame, Rows, replies_to, rows_after}
use Rattle.stm_journal_text.specs.Words.{Plays, greatest}
use Rattle.stm_journal_text.specs.declared.entry.Entry.{Entry}
use Rattle.stm_journal_text.proofs.Playing.{same_answers}
use Rattle.stm_core_laws.specs.Play.{Play, opening_play}

-- opening book and bodies stay
same_opening : (old : Play) (entries : List Entry) (new : Play) → Plays old entries new → (new.state.opening ≡ old.state.opening) × (new.state.frames ≡ old.state.frames)
same_opening old [] new is = (ap (λ (p : Play). p.state.opening) is, ap (λ (p : Play). p.state.frames) is)
same_opening old (entry ∷ entries) new plays =
    let mid = plays.0 in
    let step = same_answers old entry.seat entry.event plays.1.0 mid plays.1.2 in
    let rest = same_opening mid entries new plays.2 in
    (rest.0 ∙ step.0, rest.1 ∙ step.1)

-- where all bodies are committed, the committed replies are all
pub all_replies : (book : Rows) (frames : List Frame) (entries : List Entry) (core : Play) → Plays (opening_play book frames greatest) entries core → core.state.board.committed ≡ length frames
    → replies_to core.state.opening (take core.state.board.committed core.state.frames) ≡ replies_to book frames
all_replies book frames entries core plays all =
    let same = same_opening (opening_play book frames greatest) entries core plays in
    (λ i. replies_to (same.0 i) (take (all i) (same.1 i))) ∙ ap (replies_to book) (take-length frames)

-- and the book is that after all
pub all_rows : (book : Rows) (frames : List Frame) (entries : List Entry) (core : Play) → Plays (opening_play book frames greatest) entries core → core.state.board.committed ≡ length frames
    → rows_after core.state.opening (take core.state.board.committed core.state.frames) ≡ rows_after book frames
all_rows book frames entries core plays all =
    let same = same_opening (opening_play book frames greatest) entries core plays in
    (λ i. rows_after (same.0 i) (take (all i) (same.1 i))) ∙ ap (rows_after book) (take-length frames)
