-- One more message committed.
use Rattle.std.proofs.Common.{◌≡◌, ℕ, ◌+◌, ◌<◌, Some, List, [], ◌∷◌, ◌++◌, Result, Ok, Err, IfSome, OnOk, OnErr, length, take, get_or, slice_get, sym, ap, subst, ◌∙◌, arith}
use Rattle.std.proofs.lemmas.List.{take_more}
use Rattle.std.proofs.lemmas.Option.{slice_get_within, slice_get-get_or, get_or_from_slice_get}
use Rattle.std.specs.FinMap as map
use Rattle.issuer_fold.proofs.FoldLaws.{rows_after-append, replies_to-append}
use Rattle.issuer_words.specs.Words.{Executed, Frame, IsLocal, IsTrueExecution, Reads, ReplyBody, Rows, Writes, overlay, replies_to, reply_of, rows_after, rows_after_one}
use Rattle.split_state.specs.Progress.{Progress, further, IsNext, IsFold, book_of, replies_of}

-- the messages that are committed, and the next one
next_taken : (p : Progress) (frame : Frame) → slice_get p.frames p.count ≡ Some frame → take (p.count + 1) p.frames ≡ take p.count p.frames ++ frame ∷ []
next_taken p frame at =
    take_more p.frames p.count frame (slice_get_within p.frames p.count frame at)
    ∙ ap (λ (f : Frame). take p.count p.frames ++ f ∷ []) (get_or_from_slice_get p.frames p.count frame frame at)

-- a true execution of the next message, where the book agrees with what it read, is what deciding that message comes to
pub further_fold : (p : Progress) (e : Executed) (replies : List ReplyBody) (book : Rows) → IsFold p replies book → IsNext p e → IsTrueExecution e
    → IsFold (further p) (replies ++ e.reply ∷ []) (overlay book e.writes)
further_fold p e replies book h next true_of =
    let within : p.count < length p.frames = slice_get_within p.frames p.count e.frame next.frame in
    let more = next_taken p e.frame next.frame in
    let comes = true_of (map.get (book_of p)) next.reads in
    record {
      few = h.few;
      within = omega arith;
      replies_are =
          ap (λ (rs : List ReplyBody). rs ++ e.reply ∷ []) h.replies_are
          ∙ (ap (λ (r : ReplyBody). replies_of p ++ r ∷ []) (sym comes.0)
          ∙ (sym (replies_to-append p.opening (take p.count p.frames) (e.frame ∷ []))
          ∙ ap (replies_to p.opening) (sym more)));
      book_is =
          ap (λ (o : Rows). overlay o e.writes) h.book_is
          ∙ (ap (overlay (book_of p)) (sym comes.1)
          ∙ (sym (rows_after-append p.opening (take p.count p.frames) (e.frame ∷ []))
          ∙ ap (rows_after p.opening) (sym more)));
    }

-- the message at the next place, decided on the ledger's book
decided_fold : (p : Progress) (any : Frame) (replies : List ReplyBody) (book : Rows) → IsFold p replies book → p.count < length p.frames
    → IsFold (further p) (replies ++ reply_of book (get_or p.frames p.count any) ∷ []) (rows_after_one book (get_or p.frames p.count any))
decided_fold p any replies book h within =
    let frame = get_or p.frames p.count any in
    let more = take_more p.frames p.count any within in
    record {
      few = h.few;
      within = omega arith;
      replies_are = rw (h.replies_are, h.book_is)
          (sym (replies_to-append p.opening (take p.count p.frames) (frame ∷ [])) ∙ ap (replies_to p.opening) (sym more));
      book_is = rw (h.book_is) (sym (rows_after-append p.opening (take p.count p.frames) (frame ∷ [])) ∙ ap (rows_after p.opening) (sym more));
    }

-- the same where it may stop, and then nothing is changed
pub decided_or_kept : {A E : Type 0} (p : Progress) (any : Frame) (replies after : List ReplyBody) (book next : Rows) (count : ℕ) (result : Result A E)
    → IsFold p replies book → p.count < length p.frames → OnOk result (count ≡ p.count + 1) → OnOk result (next ≡ rows_after_one book (get_or p.frames p.count any))
    → OnOk result (after ≡ replies ++ reply_of book (get_or p.frames p.count any) ∷ [])
    → OnErr result ((count ≡ p.count) × (next ≡ book) × (after ≡ replies))
    → IsFold (record { opening = p.opening; frames = p.frames; count = count }) after next
decided_or_kept p any replies after book next count (Ok _) h within counted decided replied kept =
    rw (counted, decided, replied) (decided_fold p any replies book h within)
decided_or_kept p any replies after book next count (Err _) h within counted decided replied kept = rw (kept.0, kept.1, kept.2) h

-- what the sets have that were left behind is what the next message's decision read and wrote
pub next_local : {A E : Type 0} (p : Progress) (any : Frame) (replies : List ReplyBody) (book : Rows) (reads : Reads) (writes : Writes) (result : Result A E)
    → IsFold p replies book → p.count < length p.frames
    → OnOk result (IsLocal (get_or p.frames p.count any) reads writes (reply_of book (get_or p.frames p.count any)))
    → OnOk result (IfSome (slice_get p.frames p.count) (λ frame. IsLocal frame reads writes (reply_of (book_of p) frame)))
next_local p any replies book reads writes (Ok _) h within local =
    let frame = get_or p.frames p.count any in
    rw (slice_get-get_or p.frames p.count any within) (subst (λ b. IsLocal frame reads writes (reply_of b frame)) h.book_is local)
next_local p any replies book reads writes (Err _) h within local = tt
