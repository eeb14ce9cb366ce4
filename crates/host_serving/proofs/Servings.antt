-- Turns that are served one after another, and how it stops.
use Rattle.std.proofs.Common.{◌≡◌, ◌⊎◌, ◌+◌, ◌<◌, inl, inr, ℕ, length, take, get_or, List, [], ◌∷◌, ◌++◌, Result, refl, sym, ap, subst, ◌∙◌, append_assoc}
use Rattle.std.specs.List.{AllByRecursion}
use Rattle.std.proofs.lemmas.List.{append-nil, take_more}
use Rattle.std.proofs.lemmas.List.Concat.{flat_map-append}
use Rattle.issuer_words.specs.Words.{Frame, Rows, replies_to, rows_after}
use Rattle.issuer_fold.proofs.FoldLaws.{rows_after-append, replies_to-append, length-replies_to}
use Rattle.file_laws.specs.Frames.{AreFramesOf}
use Rattle.link_frames.specs.Link.{AreFrames, HasFault}
use Rattle.link_frames.specs.declared.link_fault.LinkFault.{LinkFault}
use Rattle.link_frames.specs.declared.link_fault.LinkFault.TheVariants as link
use Rattle.link_frames.specs.Incoming.{Incoming, IsIncoming, frames_of, bodies_of, answers_of, requests_behind, merged}
use Rattle.link_frames.specs.Replies.{AppendsPart}
use Rattle.link_frames.proofs.InOrder.{answers_more as given_more, bodies_more as decided_more, frames_more as came_more, in_order}
use Rattle.log_file.specs.declared.log_writer.LogWriter.{LogWriter}
use Rattle.log_file.specs.declared.synced.Synced.{Synced}
use Rattle.file_laws.specs.declared.log_fault.LogFault.{LogFault}
use Rattle.file_laws.specs.declared.log_fault.LogFault.TheVariants.{NoLog, Version, OtherBook, InUse, Broken, Failed, OutOfMemory as NoMemory}
use Rattle.host_serving.specs.Deciding.{Decides, Follows, answers_to}
use Rattle.host_serving.specs.Entering.{book_of, Appends, Grows, BreaksOff, MayEnter, Enters, StopsAnswering, StopsBefore, StopsDeciding, StopsEntering}
use Rattle.host_serving.specs.Entries.{all_bodies, AreMessagesOf, HasBody}
use Rattle.host_serving.specs.Serving.{BookAfter, AnsweredAfter, CameNext, FaultFits, StopsReading, LogBehind, Served, Stopped, EntersNext, StopsInEntry}
use Rattle.host_serving.specs.Tally.{counted, counted_one}
use Rattle.host_serving.specs.Turn.{IsTurn, entry_of}
use Rattle.host_serving.specs.declared.decider.Decider.{Decider}
use Rattle.host_serving.specs.declared.host.Host.{Host}
use Rattle.host_serving.specs.declared.tally.Tally.{Tally}
use Rattle.host_serving.specs.declared.host_fault.HostFault.{HostFault}
use Rattle.host_serving.specs.declared.host_fault.HostFault.TheVariants.{Link, Log, OutOfMemory}
use Rattle.host_serving.specs.declared.turn.Turn.{Turn}
use Rattle.host_serving.proofs.Appendings.{breaks_more, grows_more, grows_none, may_enter, may_enter_more}
use Rattle.host_serving.proofs.Takes.{frames_more, both_are, as_many}
use Rattle.host_serving.proofs.Turns.{bodies_entered, has_body, some_entry}
use Rattle.file_laws.proofs.Lists.{each_more}

abbrev Entries : Type 0
Entries = List (List (List ℕ))

bodies_more : (entries : Entries) (bodies : List (List ℕ)) → all_bodies (entries ++ bodies ∷ []) ≡ all_bodies entries ++ bodies
bodies_more entries bodies = flat_map-append (λ (x : List (List ℕ)). x) entries (bodies ∷ []) ∙ ap (λ (x : List (List ℕ)). all_bodies entries ++ x) (append-nil bodies)

-- as many replies as bodies came
as_many_replies : (book : Rows) (incoming : List Incoming) (messages : List Frame) → AreFramesOf (bodies_of incoming) messages → length (replies_to book messages) ≡ length (bodies_of incoming)
as_many_replies book incoming messages read = length-replies_to book messages ∙ as_many (bodies_of incoming) messages read

-- the answers to what came, and to what comes behind it
answers_more : (book : Rows) (some more : List Incoming) (messages others : List Frame) → AreFramesOf (bodies_of some) messages
    → answers_to book (some ++ more) (messages ++ others) ≡ answers_to book some messages ++ answers_to (rows_after book messages) more others
answers_more book some more messages others read =
    ap (answers_of (some ++ more)) (replies_to-append book messages others)
    ∙ given_more some more (replies_to book messages) (replies_to (rows_after book messages) others) (as_many_replies book some messages read)

-- what was answered before, and more
answered_more : (before mid after : List ℕ) (book other : Rows) (some more : List Incoming) (messages others : List Frame) → AreFramesOf (bodies_of some) messages → other ≡ rows_after book messages
    → mid ≡ before ++ answers_to book some messages → after ≡ mid ++ answers_to other more others → after ≡ before ++ answers_to book (some ++ more) (messages ++ others)
answered_more before mid after book other some more messages others read here so_far next =
    let had = answers_to book some messages in
    next ∙ ap (λ (x : List ℕ). x ++ answers_to other more others) so_far ∙ append_assoc before had (answers_to other more others)
    ∙ ap (λ (rows : Rows). before ++ (had ++ answers_to rows more others)) here ∙ ap (λ (x : List ℕ). before ++ x) (sym (answers_more book some more messages others read))

-- a part of what is answered next
part_more : (before mid after : List ℕ) (book other : Rows) (some more : List Incoming) (messages others : List Frame) → AreFramesOf (bodies_of some) messages → other ≡ rows_after book messages
    → mid ≡ before ++ answers_to book some messages → AppendsPart mid after (answers_to other more others) → AppendsPart before after (answers_to book (some ++ more) (messages ++ others))
part_more before mid after book other some more messages others read here so_far part =
    let had = answers_to book some messages in (
      had ++ part.0,
      part.1,
      part.2 ∙ ap (λ (x : List ℕ). x ++ part.0) so_far ∙ append_assoc before had part.0,
      answers_more book some more messages others read ∙ ap (λ (rows : Rows). had ++ answers_to rows more others) (sym here) ∙ ap (λ (x : List ℕ). had ++ x) part.3
          ∙ sym (append_assoc had part.0 part.1),
    )

-- all that was answered
pub whole : (before after text : List ℕ) → after ≡ before ++ text → AppendsPart before after text
whole before after text is = (text, [], is, sym (append-nil text))

-- where all was answered
all_answered : (fault : HostFault) (had has text : List ℕ) → has ≡ had ++ text → AnsweredAfter fault had has text
all_answered (Link link.Ended) had has text is = is
all_answered (Link link.Length) had has text is = is
all_answered (Link link.Unwritable) had has text is = whole had has text is
all_answered (Link link.Unreadable) had has text is = is
all_answered (Link link.OutOfMemory) had has text is = whole had has text is
all_answered (Log fault) had has text is = is
all_answered OutOfMemory had has text is = is

pub tallies_more : (tally : Tally) (some more : List Frame) → counted tally (some ++ more) ≡ counted (counted tally some) more
tallies_more tally [] more = refl
tallies_more tally (x ∷ some) more = tallies_more (counted_one tally x) some more

-- messages, and messages behind them
pub follows_more : (old mid new : Decider) (some more : List Frame) → Follows old mid some → Follows mid new more → Follows old new (some ++ more)
follows_more old mid new some more front back = record {
  book = back.book ∙ ap (λ (rows : Rows). rows_after rows more) front.book ∙ sym (rows_after-append old.prefix.book some more);
  tally = back.tally ∙ ap (λ (tally : Tally). counted tally more) front.tally ∙ sym (tallies_more old.tally some more);
}

-- one entry more is decided
pub replayed : (entries : Entries) (i : ℕ) (bodies : List (List ℕ)) (old mid new : Decider) → i < length entries → bodies ≡ get_or entries i bodies
    → ((messages : List Frame) × AreMessagesOf (take i entries) messages × Follows old mid messages) → Decides bodies mid new
    → (messages : List Frame) × AreMessagesOf (take (i + 1) entries) messages × Follows old new messages
replayed entries i bodies old mid new lt at so_far d =
    let more : take (i + 1) entries ≡ take i entries ++ bodies ∷ [] = take_more entries i bodies lt ∙ ap (λ (x : List (List ℕ)). take i entries ++ x ∷ []) (sym at) in
    let all : all_bodies (take (i + 1) entries) ≡ all_bodies (take i entries) ++ bodies = ap all_bodies more ∙ bodies_more (take i entries) bodies in (
      so_far.0 ++ d.messages,
      subst (λ (x : List (List ℕ)). AreFramesOf x (so_far.0 ++ d.messages)) (sym all) (both_are (all_bodies (take i entries)) bodies so_far.0 d.messages so_far.1 d.read),
      follows_more old mid new so_far.0 d.messages so_far.2 d.after,
    )

module _ {G : Type 0} (is_known : G → Type 0) (synced unsynced : G → List ℕ) where
  grows_to : (old mid new : LogWriter G) (some : Entries) → Grows is_known synced unsynced old mid some → Grows is_known synced unsynced mid new [] → Grows is_known synced unsynced old new some
  grows_to old mid new some front back =
      subst (λ (entries : Entries). Grows is_known synced unsynced old new entries) (append-nil some) (grows_more is_known synced unsynced old mid new some [] front back)

  breaks_to : (old mid new : LogWriter G) (some : Entries) (bodies : List (List ℕ)) → Grows is_known synced unsynced old mid some → BreaksOff is_known synced unsynced mid new [] bodies
      → BreaksOff is_known synced unsynced old new some bodies
  breaks_to old mid new some bodies front back =
      subst (λ (entries : Entries). BreaksOff is_known synced unsynced old new entries bodies) (append-nil some) (breaks_more is_known synced unsynced old mid new some [] bodies front back)

  may_enter_to : (old mid new : LogWriter G) (some : Entries) (bodies : List (List ℕ)) → Grows is_known synced unsynced old mid some → MayEnter is_known synced unsynced mid new [] bodies
      → MayEnter is_known synced unsynced old new some bodies
  may_enter_to old mid new some bodies front back =
      subst (λ (entries : Entries). MayEnter is_known synced unsynced old new entries bodies) (append-nil some) (may_enter_more is_known synced unsynced old mid new some [] bodies front back)

  -- no frame comes next
  none_next : (reads : Type 0) (left : List ℕ) → CameNext reads left []
  none_next reads left = record {
    incoming = [];
    rest = left;
    came = λ _. (tt, refl);
    are = tt;
    bodies = refl;
  }

  -- the frames of a turn come next
  came_next : (reads reads' : Type 0) (left rest : List ℕ) (incoming : List Incoming) → (reads → reads') → (reads' → AreFrames left (frames_of incoming) rest)
      → AllByRecursion IsIncoming incoming → CameNext reads left (bodies_of incoming)
  came_next reads reads' left rest incoming r came are = record {
    incoming = incoming;
    rest = rest;
    came = λ known. came (r known);
    are = are;
    bodies = refl;
  }

  pub served_none : (host : Host G) (reads : Type 0) (bytes : List ℕ) (puts : Type 0) (text : List ℕ) → Served is_known synced unsynced host host reads bytes bytes puts text text
  served_none host reads bytes puts text = record {
    incoming = [];
    entries = [];
    messages = [];
    came = λ _. (tt, refl);
    are = tt;
    logged = refl;
    each = tt;
    read = tt;
    log = grows_none is_known synced unsynced host.log;
    after = record { book = refl; tally = refl };
    answered = λ _. sym (append-nil text);
  }

  -- what one turn more comes to, whether or not it was answered whole
  record Further (old new : Host G) (reads : Type 0) (bytes left : List ℕ) (incoming more : List Incoming) (messages others : List Frame) (entries : Entries) : Type 0 where
    came : reads → AreFrames bytes (frames_of (incoming ++ more)) left
    are : AllByRecursion IsIncoming (incoming ++ more)
    logged : all_bodies (entries ++ entry_of (bodies_of more)) ≡ bodies_of (incoming ++ more)
    each : AllByRecursion HasBody (entries ++ entry_of (bodies_of more))
    read : AreMessagesOf (entries ++ entry_of (bodies_of more)) (messages ++ others)
    log : Grows is_known synced unsynced old.log new.log (entries ++ entry_of (bodies_of more))
    after : Follows old.decider new.decider (messages ++ others)

  further : (old mid new : Host G) (reads reads' : Type 0) (bytes left rest : List ℕ) (puts : Type 0) (before text : List ℕ) (more : List Incoming) (others : List Frame) → (reads → reads')
      → (s : Served is_known synced unsynced old mid reads bytes left puts before text) → (reads' → AreFrames left (frames_of more) rest) → AllByRecursion IsIncoming more
      → AreFramesOf (bodies_of more) others → Grows is_known synced unsynced mid.log new.log (entry_of (bodies_of more)) → Follows mid.decider new.decider others
      → Further old new reads bytes rest s.incoming more s.messages others s.entries
  further old mid new reads reads' bytes left rest puts before text more others r s came are read log after =
      let bodies = bodies_of more in
      let all : all_bodies (s.entries ++ entry_of bodies) ≡ all_bodies s.entries ++ bodies = bodies_entered s.entries bodies in
      record {
        came = λ known. subst (λ (x : List (List ℕ)). AreFrames bytes x rest) (sym (came_more s.incoming more)) (frames_more bytes left rest (frames_of s.incoming) (frames_of more) (s.came known) (came (r known)));
        are = each_more IsIncoming s.incoming more s.are are;
        logged = all ∙ ap (λ (x : List (List ℕ)). x ++ bodies) s.logged ∙ sym (decided_more s.incoming more);
        each = each_more HasBody s.entries (entry_of bodies) s.each (has_body bodies);
        read = subst (λ (x : List (List ℕ)). AreFramesOf x (s.messages ++ others)) (sym all) (both_are (all_bodies s.entries) bodies s.messages others s.read read);
        log = grows_more is_known synced unsynced old.log mid.log new.log s.entries (entry_of bodies) s.log log;
        after = follows_more old.decider mid.decider new.decider s.messages others s.after after;
      }

  -- the messages so far are those of the bodies that came
  read_as : (old mid : Host G) (reads : Type 0) (bytes left : List ℕ) (puts : Type 0) (before text : List ℕ) → (s : Served is_known synced unsynced old mid reads bytes left puts before text)
      → AreFramesOf (bodies_of s.incoming) s.messages
  read_as old mid reads bytes left puts before text s = subst (λ (x : List (List ℕ)). AreFramesOf x s.messages) s.logged s.read

  pub served_more : (old mid new : Host G) (reads reads' : Type 0) (bytes left left' : List ℕ) (puts puts' : Type 0) (before text after : List ℕ) → (reads → reads') → (puts → puts')
      → Served is_known synced unsynced old mid reads bytes left puts before text → EntersNext is_known synced unsynced mid new reads' left left' puts' text after
      → Served is_known synced unsynced old new reads bytes left' puts before after
  served_more old mid new reads reads' bytes left left' puts puts' before text after r p s e =
      let n = e.entered in
      let f = further old mid new reads reads' bytes left left' puts before text e.incoming n.messages r s e.came e.are n.read n.log n.after in
      record {
        incoming = s.incoming ++ e.incoming;
        entries = s.entries ++ entry_of (bodies_of e.incoming);
        messages = s.messages ++ n.messages;
        came = f.came;
        are = f.are;
        logged = f.logged;
        each = f.each;
        read = f.read;
        log = f.log;
        after = f.after;
        answered = λ known. answered_more before text after (book_of old) (book_of mid) s.incoming e.incoming s.messages n.messages (read_as old mid reads bytes left puts before text s) s.after.book
            (s.answered known) (n.answered (p known));
      }

  pub stopped_reading : (fault : HostFault) (old mid : Host G) (reads reads' : Type 0) (bytes left : List ℕ) (puts : Type 0) (before after : List ℕ) → (reads → reads')
      → Served is_known synced unsynced old mid reads bytes left puts before after → StopsReading fault reads' left → Stopped is_known synced unsynced fault old mid reads bytes puts before after
  stopped_reading (Link f) old mid reads reads' bytes left puts before after r s stops = record {
    incoming = s.incoming;
    entries = s.entries;
    messages = s.messages;
    left = left;
    came = s.came;
    are = s.are;
    logged = s.logged;
    each = s.each;
    read = s.read;
    log = s.log;
    after = s.after;
    answered = λ known. all_answered (Link f) before after (answers_to (book_of old) s.incoming s.messages) (s.answered known);
    fits = λ known. stops (r known);
  }
  stopped_reading (Log f) old mid reads reads' bytes left puts before after r s stops = absurd stops
  stopped_reading OutOfMemory old mid reads reads' bytes left puts before after r s stops = record {
    incoming = s.incoming;
    entries = s.entries;
    messages = s.messages;
    left = left;
    came = s.came;
    are = s.are;
    logged = s.logged;
    each = s.each;
    read = s.read;
    log = ([], none_next reads left, inl s.log);
    after = tt;
    answered = λ known. s.answered known;
    fits = tt;
  }

  -- the entry wasn't appended
  pub stops_appending : (fault : LogFault) (incoming : List Incoming) (turn : Turn) (old new : Host G) (puts : Type 0) (before after : List ℕ)
      → IsTurn incoming turn → Decides turn.bodies old.decider new.decider → (fault ≡ Failed → BreaksOff is_known synced unsynced old.log new.log [] turn.bodies)
      → (fault ≡ NoMemory → Grows is_known synced unsynced old.log new.log []) → (fault ≡ Failed) ⊎ (fault ≡ NoMemory) → after ≡ before
      → StopsEntering is_known synced unsynced (Log fault) incoming old new puts before after
  stops_appending fault incoming turn old new puts before after is d breaks none (inl failed) same =
      subst (λ (f : LogFault). StopsEntering is_known synced unsynced (Log f) incoming old new puts before after) (sym failed) record {
        messages = d.messages;
        read = subst (λ (x : List (List ℕ)). AreFramesOf x d.messages) is.bodies d.read;
        log = subst (λ (x : List (List ℕ)). BreaksOff is_known synced unsynced old.log new.log [] x) is.bodies (breaks failed);
        after = d.after;
        unanswered = λ _. same;
      }
  stops_appending fault incoming turn old new puts before after is d breaks none (inr memory) same =
      subst (λ (f : LogFault). StopsEntering is_known synced unsynced (Log f) incoming old new puts before after) (sym memory) record {
        log = none memory;
        unanswered = λ _. same;
      }

  -- the messages weren't decided
  pub stops_deciding : (incoming : List Incoming) (turn : Turn) (old new : Host G) (result : Result Synced LogFault) (puts : Type 0) (before after : List ℕ) → IsTurn incoming turn
      → Appends is_known synced unsynced old.log new.log turn.bodies result → after ≡ before → StopsDeciding is_known synced unsynced incoming old new puts before after
  stops_deciding incoming turn old new result puts before after is a same = record {
    log = subst (λ (x : List (List ℕ)). MayEnter is_known synced unsynced old.log new.log [] x) is.bodies (may_enter is_known synced unsynced old.log new.log turn.bodies result a);
    unanswered = λ _. same;
  }

  -- it stopped in an entry behind those that were served
  stopped_memory : (fault : HostFault) (old mid new : Host G) (reads : Type 0) (bytes left : List ℕ) (puts puts' : Type 0) (before text after : List ℕ) → (puts → puts')
      → ((entries : Entries) → LogBehind is_known synced unsynced fault old.log new.log entries reads left ≡ Grows is_known synced unsynced old.log new.log entries) → ((messages : List Frame) → BookAfter fault old.decider messages reads left new.decider) → FaultFits fault reads left
      → Served is_known synced unsynced old mid reads bytes left puts before text → StopsBefore is_known synced unsynced mid new puts' text after
      → Stopped is_known synced unsynced fault old new reads bytes puts before after
  stopped_memory fault old mid new reads bytes left puts puts' before text after p is_log is_book fits s stops = record {
    incoming = s.incoming;
    entries = s.entries;
    messages = s.messages;
    left = left;
    came = s.came;
    are = s.are;
    logged = s.logged;
    each = s.each;
    read = s.read;
    log = subst (λ (x : Type 0). x) (sym (is_log s.entries)) (grows_to old.log mid.log new.log s.entries s.log stops.log);
    after = is_book s.messages;
    answered = λ known. all_answered fault before after (answers_to (book_of old) s.incoming s.messages) (stops.unanswered (p known) ∙ s.answered known);
    fits = fits;
  }

  -- it stopped while a turn was answered
  stopped_answering : (f : LinkFault) (old mid new : Host G) (reads reads' : Type 0) (bytes left rest : List ℕ) (puts puts' : Type 0) (before text after : List ℕ) (incoming : List Incoming) → (reads → reads') → (puts → puts')
      → ((had has all : List ℕ) → AppendsPart had has all → AnsweredAfter (Link f) had has all) → HasFault rest f
      → Served is_known synced unsynced old mid reads bytes left puts before text → (reads' → AreFrames left (frames_of incoming) rest) → AllByRecursion IsIncoming incoming
      → StopsAnswering is_known synced unsynced incoming mid new puts' text after → Stopped is_known synced unsynced (Link f) old new reads bytes puts before after
  stopped_answering f old mid new reads reads' bytes left rest puts puts' before text after incoming r p partly fits s came are n =
      let b = further old mid new reads reads' bytes left rest puts before text incoming n.messages r s came are n.read n.log n.after in
      record {
        incoming = s.incoming ++ incoming;
        entries = s.entries ++ entry_of (bodies_of incoming);
        messages = s.messages ++ n.messages;
        left = rest;
        came = b.came;
        are = b.are;
        logged = b.logged;
        each = b.each;
        read = b.read;
        log = b.log;
        after = b.after;
        answered = λ known. partly before after (answers_to (book_of old) (s.incoming ++ incoming) (s.messages ++ n.messages))
            (part_more before text after (book_of old) (book_of mid) s.incoming incoming s.messages n.messages (read_as old mid reads bytes left puts before text s) s.after.book
            (s.answered known) (n.answered (p known)));
        fits = λ _. fits;
      }

  pub stopped_in_entry : (fault : HostFault) (old mid new : Host G) (reads reads' : Type 0) (bytes left : List ℕ) (puts puts' : Type 0) (before text after : List ℕ) → (reads → reads') → (puts → puts')
      → Served is_known synced unsynced old mid reads bytes left puts before text → StopsInEntry is_known synced unsynced fault mid new reads' left puts' text after
      → Stopped is_known synced unsynced fault old new reads bytes puts before after
  stopped_in_entry (Link link.Unwritable) old mid new reads reads' bytes left puts puts' before text after r p s e =
      stopped_answering link.Unwritable old mid new reads reads' bytes left e.left puts puts' before text after e.incoming r p (λ had has all part. part) tt s e.came e.are e.stops
  stopped_in_entry (Link link.OutOfMemory) old mid new reads reads' bytes left puts puts' before text after r p s e =
      stopped_answering link.OutOfMemory old mid new reads reads' bytes left e.left puts puts' before text after e.incoming r p (λ had has all part. part) tt s e.came e.are e.stops
  stopped_in_entry (Link link.Ended) old mid new reads reads' bytes left puts puts' before text after r p s e = absurd e.stops
  stopped_in_entry (Link link.Length) old mid new reads reads' bytes left puts puts' before text after r p s e = absurd e.stops
  stopped_in_entry (Link link.Unreadable) old mid new reads reads' bytes left puts puts' before text after r p s e = absurd e.stops
  stopped_in_entry (Log Failed) old mid new reads reads' bytes left puts puts' before text after r p s e = record {
    incoming = s.incoming;
    entries = s.entries;
    messages = s.messages;
    left = left;
    came = s.came;
    are = s.are;
    logged = s.logged;
    each = s.each;
    read = s.read;
    log = (
      bodies_of e.incoming,
      came_next reads reads' left e.left e.incoming r e.came e.are,
      breaks_to old.log mid.log new.log s.entries (bodies_of e.incoming) s.log e.stops.log,
    );
    after = (
      e.incoming,
      e.stops.messages,
      e.left,
      λ known. e.came (r known),
      e.are,
      e.stops.read,
      follows_more old.decider mid.decider new.decider s.messages e.stops.messages s.after e.stops.after,
    );
    answered = λ known. e.stops.unanswered (p known) ∙ s.answered known;
    fits = tt;
  }
  stopped_in_entry (Log NoLog) old mid new reads reads' bytes left puts puts' before text after r p s e = stopped_memory (Log NoLog) old mid new reads bytes left puts puts' before text after p (λ _. refl) (λ _. tt) tt s e.stops
  stopped_in_entry (Log Version) old mid new reads reads' bytes left puts puts' before text after r p s e = stopped_memory (Log Version) old mid new reads bytes left puts puts' before text after p (λ _. refl) (λ _. tt) tt s e.stops
  stopped_in_entry (Log OtherBook) old mid new reads reads' bytes left puts puts' before text after r p s e = stopped_memory (Log OtherBook) old mid new reads bytes left puts puts' before text after p (λ _. refl) (λ _. tt) tt s e.stops
  stopped_in_entry (Log InUse) old mid new reads reads' bytes left puts puts' before text after r p s e = stopped_memory (Log InUse) old mid new reads bytes left puts puts' before text after p (λ _. refl) (λ _. tt) tt s e.stops
  stopped_in_entry (Log (Broken k)) old mid new reads reads' bytes left puts puts' before text after r p s e = stopped_memory (Log (Broken k)) old mid new reads bytes left puts puts' before text after p (λ _. refl) (λ _. tt) tt s e.stops
  stopped_in_entry (Log NoMemory) old mid new reads reads' bytes left puts puts' before text after r p s e = stopped_memory (Log NoMemory) old mid new reads bytes left puts puts' before text after p (λ _. refl) (λ _. tt) tt s e.stops
  stopped_in_entry OutOfMemory old mid new reads reads' bytes left puts puts' before text after r p s e = record {
    incoming = s.incoming;
    entries = s.entries;
    messages = s.messages;
    left = left;
    came = s.came;
    are = s.are;
    logged = s.logged;
    each = s.each;
    read = s.read;
    log = (
      bodies_of e.incoming,
      came_next reads reads' left e.left e.incoming r e.came e.are,
      may_enter_to old.log mid.log new.log s.entries (bodies_of e.incoming) s.log e.stops.log,
    );
    after = tt;
    answered = λ known. e.stops.unanswered (p known) ∙ s.answered known;
    fits = tt;
  }

  -- it stopped behind those that were served: while frames were read, or in an entry
  pub stopped_next : (fault : HostFault) (old mid new : Host G) (reads reads' : Type 0) (bytes left : List ℕ) (puts puts' same : Type 0) (before text after : List ℕ) → (reads → reads') → (puts → puts')
      → (same → after ≡ text) → Served is_known synced unsynced old mid reads bytes left puts before text
      → ((new ≡ mid) × same × StopsReading fault reads' left) ⊎ StopsInEntry is_known synced unsynced fault mid new reads' left puts' text after
      → Stopped is_known synced unsynced fault old new reads bytes puts before after
  stopped_next fault old mid new reads reads' bytes left puts puts' same before text after r p is s (inl stops) =
      subst (λ (host : Host G). Stopped is_known synced unsynced fault old host reads bytes puts before after) (sym stops.0)
      (stopped_reading fault old mid reads reads' bytes left puts before after r (subst (λ (x : List ℕ). Served is_known synced unsynced old mid reads bytes left puts before x) (sym (is stops.1)) s) stops.2)
  stopped_next fault old mid new reads reads' bytes left puts puts' same before text after r p is s (inr stops) =
      stopped_in_entry fault old mid new reads reads' bytes left puts puts' before text after r p s stops

  pub stops_answering : (f : LinkFault) (incoming : List Incoming) (old new : Host G) (puts : Type 0) (before after : List ℕ)
      → StopsAnswering is_known synced unsynced incoming old new puts before after → (f ≡ link.Unwritable) ⊎ (f ≡ link.OutOfMemory) → StopsEntering is_known synced unsynced (Link f) incoming old new puts before after
  stops_answering f incoming old new puts before after stops (inl is) = subst (λ (x : LinkFault). StopsEntering is_known synced unsynced (Link x) incoming old new puts before after) (sym is) stops
  stops_answering f incoming old new puts before after stops (inr is) = subst (λ (x : LinkFault). StopsEntering is_known synced unsynced (Link x) incoming old new puts before after) (sym is) stops

  -- a turn in which no body came changes neither log nor book
  module _ (incoming : List Incoming) (turn : Turn) (old : Host G) (is : IsTurn incoming turn) (none : turn.bodies ≡ []) where
    no_body : bodies_of incoming ≡ []
    no_body = sym is.bodies ∙ none

    no_message : AreFramesOf (bodies_of incoming) []
    no_message = subst (λ (x : List (List ℕ)). AreFramesOf x []) (sym no_body) tt

    no_entry : Grows is_known synced unsynced old.log old.log (entry_of (bodies_of incoming))
    no_entry = subst (λ (x : List (List ℕ)). Grows is_known synced unsynced old.log old.log (entry_of x)) (sym no_body) (grows_none is_known synced unsynced old.log)

    alone : merged turn.requests.items [] ≡ answers_to (book_of old) incoming []
    alone = ap (λ x. merged x []) is.requests ∙ in_order incoming [] (ap (λ (x : List (List ℕ)). length x) (sym no_body))

    pub enters_alone : (puts : Type 0) (before after : List ℕ) → (puts → after ≡ before ++ merged turn.requests.items []) → Enters is_known synced unsynced incoming old old puts before after
    enters_alone puts before after wrote = record {
      messages = [];
      read = no_message;
      log = no_entry;
      after = record { book = refl; tally = refl };
      answered = λ known. wrote known ∙ ap (λ (x : List ℕ). before ++ x) alone;
    }

    pub stops_alone : (f : LinkFault) (puts : Type 0) (before after : List ℕ) → (puts → AppendsPart before after (merged turn.requests.items []))
        → (f ≡ link.Unwritable) ⊎ (f ≡ link.OutOfMemory) → StopsEntering is_known synced unsynced (Link f) incoming old old puts before after
    stops_alone f puts before after wrote kind = stops_answering f incoming old old puts before after record {
      messages = [];
      read = no_message;
      log = no_entry;
      after = record { book = refl; tally = refl };
      answered = λ known. subst (λ (x : List ℕ). AppendsPart before after x) alone (wrote known);
    } kind

  -- a turn in which bodies came
  module _ (incoming : List Incoming) (turn : Turn) (old new : Host G) (is : IsTurn incoming turn) (some : turn.bodies ≡ [] → ⊥) (d : Decides turn.bodies old.decider new.decider)
      (log : Grows is_known synced unsynced old.log new.log (turn.bodies ∷ [])) where
    read_here : AreFramesOf (bodies_of incoming) d.messages
    read_here = subst (λ (x : List (List ℕ)). AreFramesOf x d.messages) is.bodies d.read

    one_entry : Grows is_known synced unsynced old.log new.log (entry_of (bodies_of incoming))
    one_entry = subst (λ (x : Entries). Grows is_known synced unsynced old.log new.log x) (sym (some_entry turn.bodies some) ∙ ap entry_of is.bodies) log

    answers_here : merged turn.requests.items new.decider.prefix.replies.items ≡ answers_to (book_of old) incoming d.messages
    answers_here = ap (λ x. merged x new.decider.prefix.replies.items) is.requests ∙ ap (merged (requests_behind 0 incoming)) d.replies
        ∙ in_order incoming (replies_to (book_of old) d.messages) (as_many_replies (book_of old) incoming d.messages read_here)

    pub enters_whole : (puts : Type 0) (before after : List ℕ) → (puts → after ≡ before ++ merged turn.requests.items new.decider.prefix.replies.items)
        → Enters is_known synced unsynced incoming old new puts before after
    enters_whole puts before after wrote = record {
      messages = d.messages;
      read = read_here;
      log = one_entry;
      after = d.after;
      answered = λ known. wrote known ∙ ap (λ (x : List ℕ). before ++ x) answers_here;
    }

    pub stops_whole : (f : LinkFault) (puts : Type 0) (before after : List ℕ) → (puts → AppendsPart before after (merged turn.requests.items new.decider.prefix.replies.items))
        → (f ≡ link.Unwritable) ⊎ (f ≡ link.OutOfMemory) → StopsEntering is_known synced unsynced (Link f) incoming old new puts before after
    stops_whole f puts before after wrote kind = stops_answering f incoming old new puts before after record {
      messages = d.messages;
      read = read_here;
      log = one_entry;
      after = d.after;
      answered = λ known. subst (λ (x : List ℕ). AppendsPart before after x) answers_here (wrote known);
    } kind
