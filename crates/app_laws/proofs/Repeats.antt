-- A message that is sent again to a later run.
use Rattle.std.proofs.Common.{◌≡◌, ℕ, zero, suc, List, [], ◌∷◌, ◌++◌, take, Some, sym, ap, ◌∙◌, subst}
use Rattle.std.specs.List.{slice_get}
use Rattle.std.proofs.lemmas.Option.{same_Some, none-some}
use Rattle.issuer_words.specs.Words.{Frame, Message, ReplyBody, Rows, overlay, replies_to, reply_of, rows_after, rows_after_one, writes_of}
use Rattle.issuer_fold.proofs.FoldLaws.{rows_after-append}
use Rattle.issuer_laws.proofs.Repeated.{advice_repeated, request_repeated}
use Rattle.issuer_laws.specs.Again.{again}
use Rattle.issuer_laws.specs.Repeated.{GetsSameReply}
use Rattle.book_laws.specs.Text.{book_text}
use Rattle.file_laws.proofs.ReadBack.{replies_alone}
use Rattle.file_batch.specs.Words.{Holding, Names, replies_text}
use Rattle.app_jobs.specs.Decided.{IsDecided}
use Rattle.app_laws.specs.Repeats.{AreRepliesIn, HasTwoOutputs, IsBookLeft, IsFirstSent, IsRepeatOf, without}
use Rattle.app_laws.proofs.Once.{same_ok}
use Rattle.issuer_laws.proofs.RepliesAt.{reply_at}

-- ---- places of a batch

-- the batch up to a place, what is there, and what is behind
record Cut (frames : List Frame) (place : ℕ) (frame : Frame) : Type 0 where
  back : List Frame
  are : take place frames ++ frame ∷ back ≡ frames

cut : (frames : List Frame) (place : ℕ) (frame : Frame) → slice_get frames place ≡ Some frame → Cut frames place frame
cut [] place frame at = absurd (none-some frame at)
cut (f ∷ frames) zero frame at = record { back = frames; are = ap (λ (g : Frame). g ∷ frames) (sym (same_Some f frame at)) }
cut (f ∷ frames) (suc place) frame at =
    let rest = cut frames place frame at in
    record { back = rest.back; are = ap (λ (fs : List Frame). f ∷ fs) rest.are }

-- a message that writes nothing leaves the book, and the other replies, as if it hadn't been sent
nothing_written : (rows : Rows) (frames : List Frame) (place : ℕ) (frame : Frame) → slice_get frames place ≡ Some frame
    → writes_of (rows_after rows (take place frames)) frame ≡ []
    → (rows_after rows (without place frames) ≡ rows_after rows frames) × (replies_to rows (without place frames) ≡ without place (replies_to rows frames))
nothing_written rows [] place frame at none = absurd (none-some frame at)
nothing_written rows (f ∷ frames) zero frame at none =
    let same = same_Some f frame at in
    let stays : rows_after_one rows f ≡ rows = ap (λ (g : Frame). rows_after_one rows g) same ∙ ap (overlay rows) none in
    (ap (λ (r : Rows). rows_after r frames) (sym stays), ap (λ (r : Rows). replies_to r frames) (sym stays))
nothing_written rows (f ∷ frames) (suc place) frame at none =
    let rest = nothing_written (rows_after_one rows f) frames place frame at none in
    (rest.0, ap (λ (rs : List ReplyBody). reply_of rows f ∷ rs) rest.1)

-- ---- the repeat

gets_same_reply : (rows : Rows) (message : Frame) (between : List Frame) → IsFirstSent rows message → GetsSameReply rows message between (again message)
gets_same_reply rows (Frame.Good (Message.Request r)) between first = request_repeated rows r between first
gets_same_reply rows (Frame.Good (Message.Advice a)) between first = advice_repeated rows a between first
gets_same_reply rows (Frame.Good (Message.Reversal v)) between first = absurd first
gets_same_reply rows (Frame.Bad fault) between first = absurd first

-- the rows that the repeat is decided on are those after the message, and what came between
rows_at_repeat : (rows : Rows) (batch : List Frame) (i : ℕ) (message : Frame) (here : Cut batch i message) (more : List Frame)
    → rows_after (rows_after_one (rows_after rows (take i batch)) message) (here.back ++ more) ≡ rows_after (rows_after rows batch) more
rows_at_repeat rows batch i message here more =
    let front = rows_after rows (take i batch) in
    let whole : rows_after (rows_after_one front message) here.back ≡ rows_after rows batch =
    sym (rows_after-append rows (take i batch) (message ∷ here.back)) ∙ ap (rows_after rows) here.are in
    rows_after-append (rows_after_one front message) here.back more ∙ ap (λ (r : Rows). rows_after r more) whole

record IsAlike (rows : Rows) (batch : List Frame) (i : ℕ) (later : List Frame) (j : ℕ) : Type 0 where
  reply : slice_get (replies_to (rows_after rows batch) later) j ≡ slice_get (replies_to rows batch) i
  book : rows_after (rows_after rows batch) (without j later) ≡ rows_after (rows_after rows batch) later
  others : replies_to (rows_after rows batch) (without j later) ≡ without j (replies_to (rows_after rows batch) later)

alike : (rows : Rows) (batch : List Frame) (i : ℕ) (later : List Frame) (j : ℕ) → IsRepeatOf rows batch i later j → IsAlike rows batch i later j
alike rows batch i later j is =
    let opening = rows_after rows batch in
    let front = rows_after rows (take i batch) in
    let here = cut batch i is.message is.sent in
    let at = rows_at_repeat rows batch i is.message here (take j later) in
    let same = gets_same_reply front is.message (here.back ++ take j later) is.first in
    let reply : reply_of (rows_after opening (take j later)) (again is.message) ≡ reply_of front is.message =
    subst (λ (r : Rows). reply_of r (again is.message) ≡ reply_of front is.message) at same.0 in
    let none : writes_of (rows_after opening (take j later)) (again is.message) ≡ [] = subst (λ (r : Rows). writes_of r (again is.message) ≡ []) at same.1 in
    let unsent = nothing_written opening later j (again is.message) is.repeat none in
    record {
      reply = reply_at opening later j (again is.message) is.repeat ∙ ap (λ (b : ReplyBody). Some b) reply ∙ sym (reply_at rows batch i is.message is.sent);
      book = unsent.0;
      others = unsent.1;
    }

-- ---- files

-- the later run decides on the book after the earlier
opened_after : (known later : Type 0) (before left opened ended : Holding) (names others : Names) (count more : _) (first : IsDecided known before left names count)
    (second : IsDecided later opened ended others more) → known → IsBookLeft left names opened others
    → second.rows ≡ rows_after first.rows first.frames
opened_after known later before left opened ended names others count more first second k book =
    let read = (second.opening (book_text (rows_after first.rows first.frames)) (book (book_text (rows_after first.rows first.frames)) (first.after k))).0 in
    same_ok second.rows (rows_after first.rows first.frames) (sym read ∙ first.back)

replies_in : (known : Type 0) (old new : Holding) (names : Names) (count : _) (run : IsDecided known old new names count) (replies : List ReplyBody) → known
    → HasTwoOutputs names → AreRepliesIn new names replies → replies ≡ replies_to run.rows run.frames
replies_in known old new names count run replies k apart read =
    replies_alone (replies_to run.rows run.frames) replies run.bodies (read (replies_text (replies_to run.rows run.frames)) (run.answered k apart))

pub same_reply_later : (known later : Type 0) (before left opened ended : Holding) (names others : Names) (count more : _) (i j : ℕ) (mine theirs : List ReplyBody)
    (first : IsDecided known before left names count) (second : IsDecided later opened ended others more) → known → later
    → HasTwoOutputs names → HasTwoOutputs others → IsBookLeft left names opened others
    → IsRepeatOf first.rows first.frames i second.frames j → AreRepliesIn left names mine → AreRepliesIn ended others theirs
    → slice_get theirs j ≡ slice_get mine i
same_reply_later known later before left opened ended names others count more i j mine theirs first second k l apart others_apart book is read read_later =
    let opening = opened_after known later before left opened ended names others count more first second k book in
    let replies : theirs ≡ replies_to (rows_after first.rows first.frames) second.frames =
    replies_in later opened ended others more second theirs l others_apart read_later ∙ ap (λ (r : Rows). replies_to r second.frames) opening in
    ap (λ (rs : List ReplyBody). slice_get rs j) replies ∙ (alike first.rows first.frames i second.frames j is).reply
    ∙ ap (λ (rs : List ReplyBody). slice_get rs i) (sym (replies_in known before left names count first mine k apart read))

pub as_if_unsent : (known later : Type 0) (before left opened ended : Holding) (names others : Names) (count more : _) (i j : ℕ)
    (first : IsDecided known before left names count) (second : IsDecided later opened ended others more) → known → IsBookLeft left names opened others
    → IsRepeatOf first.rows first.frames i second.frames j
    → (rows_after second.rows (without j second.frames) ≡ rows_after second.rows second.frames)
    × (replies_to second.rows (without j second.frames) ≡ without j (replies_to second.rows second.frames))
as_if_unsent known later before left opened ended names others count more i j first second k book is =
    let opening = opened_after known later before left opened ended names others count more first second k book in
    let same = alike first.rows first.frames i second.frames j is in
    (rw opening same.book, rw opening same.others)
