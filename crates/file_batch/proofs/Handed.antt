-- Pieces that were handed over, one more at a time.
use Rattle.std.proofs.Common.{◌≡◌, ℕ, ◌+◌, ◌≤◌, List, [], ◌∷◌, ◌++◌, length, sym, ap, subst, ◌∙◌, append_assoc, cond}
use Rattle.std.specs.Prelude.{count_by}
use Rattle.std.specs.List.{flat_map, AllByRecursion}
use Rattle.std.proofs.lemmas.List.{append-nil, length-append, nil_from_length}
use Rattle.std.proofs.lemmas.List.Concat.{flat_map-append}
use Rattle.std.proofs.lemmas.List.Sums.{sum_by-append, count_by-le-length}
use Rattle.file_laws.specs.Files.{framed, reply_text}
use Rattle.file_laws.specs.Replies.{IsReplyBody}
use Rattle.file_batch.specs.Counting.{is_unreadable}
use Rattle.file_batch.specs.InOrder.{texts_of, HasReplies}
use Rattle.file_batch.specs.Pieces.{HasCounted, frames_in, replies_in}
use Rattle.file_batch.specs.declared.decider.Decider.{Decider}
use Rattle.file_batch.specs.declared.piece.Piece.{Piece}
use Rattle.rtrb.specs.Ring.{SameProducer, SameConsumer, received}
use Rattle.rtrb.specs.declared.producer.Producer.{Producer}
use Rattle.rtrb.specs.declared.consumer.Consumer.{Consumer}
use Rattle.issuer_fold.proofs.FoldLaws.{rows_after-append, replies_to-append}
use Rattle.issuer_words.specs.Words.{ReplyBody, Rows, replies_to, rows_after}
use Rattle.file_laws.proofs.Lists.{each_more}

one_more : {A : Type 0} (part : Piece → List A) (pieces : List Piece) (piece : Piece) → flat_map part (pieces ++ piece ∷ []) ≡ flat_map part pieces ++ part piece
one_more {A = A} part pieces piece = flat_map-append part pieces (piece ∷ []) ∙ ap (λ (x : List A). flat_map part pieces ++ x) (append-nil (part piece))

pub frames_of_one_more : (pieces : List Piece) (piece : Piece) → frames_in (pieces ++ piece ∷ []) ≡ frames_in pieces ++ piece.frames.items
frames_of_one_more pieces piece = one_more (λ p. p.frames.items) pieces piece

pub replies_of_one_more : (pieces : List Piece) (piece : Piece) → replies_in (pieces ++ piece ∷ []) ≡ replies_in pieces ++ piece.replies.items
replies_of_one_more pieces piece = one_more (λ p. p.replies.items) pieces piece

pub texts_of_more : (some more : List ReplyBody) → texts_of (some ++ more) ≡ texts_of some ++ texts_of more
texts_of_more some more = flat_map-append (λ (reply : ReplyBody). framed (reply_text reply)) some more

-- the text of the replies that came back, with those of one more piece
pub told_one_more : (head out : List ℕ) (came : List Piece) (piece : Piece) → HasReplies head (replies_in came) out → AllByRecursion IsReplyBody piece.replies.items
    → HasReplies head (replies_in (came ++ piece ∷ [])) (out ++ texts_of piece.replies.items)
told_one_more head out came piece told bodies =
    let more : texts_of (replies_in (came ++ piece ∷ [])) ≡ texts_of (replies_in came) ++ texts_of piece.replies.items =
    ap texts_of (replies_of_one_more came piece) ∙ texts_of_more (replies_in came) piece.replies.items in (
      rw (told.0, more) (append_assoc head (texts_of (replies_in came)) (texts_of piece.replies.items)),
      subst (AllByRecursion IsReplyBody) (sym (replies_of_one_more came piece)) (each_more IsReplyBody (replies_in came) piece.replies.items told.1 bodies),
    )

-- the book after one more piece, from the book after those before it
pub book_of_one_more : (book now : Rows) (came : List Piece) (piece : Piece) → now ≡ rows_after book (frames_in came)
    → rows_after now piece.frames.items ≡ rows_after book (frames_in (came ++ piece ∷ []))
book_of_one_more book now came piece is =
    rw (is, frames_of_one_more came piece) (sym (rows_after-append book (frames_in came) piece.frames.items))

-- the replies to it
pub replies_to_one_more : (book now : Rows) (came : List Piece) (piece : Piece) → now ≡ rows_after book (frames_in came)
    → replies_to book (frames_in (came ++ piece ∷ [])) ≡ replies_to book (frames_in came) ++ replies_to now piece.frames.items
replies_to_one_more book now came piece is =
    rw (is, frames_of_one_more came piece) (replies_to-append book (frames_in came) piece.frames.items)

-- how many frames there are with it
pub count_of_one_more : (came : List Piece) (piece : Piece) (count : ℕ) → count ≡ length (frames_in came)
    → count + length piece.frames.items ≡ length (frames_in (came ++ piece ∷ []))
count_of_one_more came piece count is =
    rw (is, frames_of_one_more came piece) (sym (length-append (frames_in came) piece.frames.items))

-- how many of them are no message
pub unreadable_of_one_more : (came : List Piece) (piece : Piece) (count : ℕ) → count ≡ count_by is_unreadable (frames_in came)
    → count + count_by is_unreadable piece.frames.items ≡ count_by is_unreadable (frames_in (came ++ piece ∷ []))
unreadable_of_one_more came piece count is =
    rw (is, frames_of_one_more came piece) (sym (sum_by-append (λ frame. cond (is_unreadable frame) 1 0) (frames_in came) piece.frames.items))

-- no more of the bodies are no message than there are
pub within_count : (decider : Decider) → HasCounted decider → decider.unreadable ≤ decider.prefix.count
within_count decider has = rw (has.0, has.1) (count_by-le-length is_unreadable (frames_in (received decider.inbound)))

-- a piece that was ahead is the last of those that came
pub one_moved : (old new ahead rest : List Piece) (piece : Piece) (whole : List Piece) → new ≡ old ++ piece ∷ [] → ahead ≡ piece ∷ rest → old ++ ahead ≡ whole → new ++ rest ≡ whole
one_moved old new ahead rest piece whole came was all = rw came (append_assoc old (piece ∷ []) rest) ∙ ap (λ (x : List Piece). old ++ x) (sym was) ∙ all

-- where none is ahead any more, all came
pub all_moved : (came ahead whole : List Piece) → length ahead ≡ 0 → came ++ ahead ≡ whole → came ≡ whole
all_moved came ahead whole none all = sym (append-nil came) ∙ ap (λ (x : List Piece). came ++ x) (sym (nil_from_length ahead none)) ∙ all

-- a piece without replies adds nothing more
pub told_none : (head out : List ℕ) (came : List Piece) (piece : Piece) → piece.replies.items ≡ [] → HasReplies head (replies_in came) out
    → HasReplies head (replies_in (came ++ piece ∷ [])) out
told_none head out came piece none told =
    let same : replies_in (came ++ piece ∷ []) ≡ replies_in came = replies_of_one_more came piece ∙ ap (λ (x : List ReplyBody). replies_in came ++ x) none ∙ append-nil (replies_in came) in
    subst (λ (x : List ReplyBody). HasReplies head x out) (sym same) told

-- what is decided with one more piece, and handed back
pub decided_one_more : (book now after : Rows) (came arrived gone back : List Piece) (piece done : Piece)
    → arrived ≡ came ++ piece ∷ [] → back ≡ gone ++ done ∷ []
    → after ≡ rows_after now piece.frames.items → done.replies.items ≡ replies_to now piece.frames.items
    → now ≡ rows_after book (frames_in came) → replies_in gone ≡ replies_to book (frames_in came)
    → (after ≡ rows_after book (frames_in arrived)) × (replies_in back ≡ replies_to book (frames_in arrived))
decided_one_more book now after came arrived gone back piece done e f g r b s = (
  g ∙ book_of_one_more book now came piece b ∙ ap (λ (x : List Piece). rows_after book (frames_in x)) (sym e),
  ap replies_in f ∙ replies_of_one_more gone done ∙ rw (r, s) (sym (replies_to_one_more book now came piece b)) ∙ ap (λ (x : List Piece). replies_to book (frames_in x)) (sym e),
)

-- the text of the replies to what is decided, with those of one more piece
pub told_and_decided : (book now : Rows) (head out : List ℕ) (came : List Piece) (piece : Piece) → now ≡ rows_after book (frames_in came)
    → HasReplies head (replies_to book (frames_in came)) out → AllByRecursion IsReplyBody (replies_to now piece.frames.items)
    → HasReplies head (replies_to book (frames_in (came ++ piece ∷ []))) (out ++ texts_of (replies_to now piece.frames.items))
told_and_decided book now head out came piece is told bodies =
    let some = replies_to book (frames_in came) in
    let more = replies_to now piece.frames.items in
    let all : texts_of (replies_to book (frames_in (came ++ piece ∷ []))) ≡ texts_of some ++ texts_of more = ap texts_of (replies_to_one_more book now came piece is) ∙ texts_of_more some more in (
      rw (told.0, all) (append_assoc head (texts_of some) (texts_of more)),
      subst (AllByRecursion IsReplyBody) (sym (replies_to_one_more book now came piece is)) (each_more IsReplyBody some more told.1 bodies),
    )

-- one end of a ring through two steps
pub consumer_on : {T A P : Type 0} (a b c : Consumer T A P) → SameConsumer a b → SameConsumer b c → SameConsumer a c
consumer_on a b c p q = ((q.0.0 ∙ p.0.0, q.0.1 ∙ p.0.1, q.0.2 ∙ p.0.2, q.0.3 ∙ p.0.3), q.1 ∙ p.1)

pub producer_on : {T A P : Type 0} (a b c : Producer T A P) → SameProducer a b → SameProducer b c → SameProducer a c
producer_on a b c p q = ((q.0.0 ∙ p.0.0, q.0.1 ∙ p.0.1, q.0.2 ∙ p.0.2, q.0.3 ∙ p.0.3), q.1 ∙ p.1)
