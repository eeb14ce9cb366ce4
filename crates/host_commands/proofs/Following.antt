-- One entry more, decided behind others.
use Rattle.std.proofs.Common.{◌≡◌, ℕ, List, [], ◌∷◌, ◌++◌, Result, Ok, Err, IfOk, IfErr, IsTrue, inl, refl, subst, sym, ap, ◌∙◌}
use Rattle.std.proofs.lemmas.Bool.{false≢true}
use Rattle.issuer_rows.specs.Fold.{Rows, rows_after}
use Rattle.book_laws.specs.Reading.{reading}
use Rattle.file_laws.specs.Frames.{AreFramesOf}
use Rattle.host_serving.specs.Deciding.{Decides}
use Rattle.host_serving.specs.declared.decider.Decider.{Decider}
use Rattle.host_serving.proofs.Servings.{follows_more}
use Rattle.host_serving.proofs.Takes.{both_are}
use Rattle.host_serving.specs.Entries.{all_bodies}
use Rattle.file_laws.specs.LogFault.{is_of_bytes}
use Rattle.file_laws.specs.LogReading.{IsReading}
use Rattle.file_laws.specs.declared.log_fault.LogFault.{LogFault}
use Rattle.host_serving.specs.declared.host.Host.{Host}
use Rattle.log_file.specs.declared.open_fault.OpenFault.{OpenFault}
use Rattle.log_file.specs.declared.open_fault.OpenFault.TheVariants.{InUse, Refused, OutOfMemory as NoMemory}
use Rattle.host_commands.specs.Again.{FollowsEntries, IsResumed}
use Rattle.host_commands.specs.Opening.{book_digest, GoesOn, IsOpened}
use Rattle.host_commands.specs.OpeningFault.{IsLogFault, IsOpeningFault, fault_of_open}
use Rattle.host_commands.specs.declared.opened.Opened.{Opened}
use Rattle.host_commands.specs.declared.opening_fault.OpeningFault.{OpeningFault}
use Rattle.host_commands.specs.declared.opening_fault.OpeningFault.TheVariants.{Unreadable, Book, Log, OutOfMemory}
use Rattle.file_laws.proofs.Lists.{bodies_more}

-- the messages of entries, and those of one more
pub messages_of_more : (entries : List (List (List ℕ))) (bodies : List (List ℕ)) (old middle new : Decider)
    → FollowsEntries entries old middle → Decides bodies middle new → FollowsEntries (entries ++ bodies ∷ []) old new
messages_of_more entries bodies old middle new before next = record {
  messages = before.messages ++ next.messages;
  are = subst (λ (all : List (List ℕ)). AreFramesOf all (before.messages ++ next.messages)) (sym (bodies_more entries bodies))
      (both_are (all_bodies entries) bodies before.messages next.messages before.are next.read);
  after = follows_more old middle new before.messages next.messages before.after next.after;
}

-- no entry has no message
pub messages_of_none : (decider : Decider) → FollowsEntries [] decider decider
messages_of_none decider = record { messages = []; are = tt; after = record { book = refl; tally = refl } }

-- a fault that isn't of the log's bytes says nothing of them
pub not_of_bytes : (known : Type 0) (digest bytes : List ℕ) (fault : LogFault) → ¬ IsTrue (is_of_bytes fault) → IsLogFault known digest bytes (Log fault)
not_of_bytes known digest bytes fault is_none = λ _ of. absurd (is_none of)

-- where more is known, it is the same fault
pub of_known : (known more : Type 0) (digest bytes others : List ℕ) (fault : OpeningFault) → (more → known × (bytes ≡ others))
    → IsLogFault known digest bytes fault → IsLogFault more digest others fault
of_known known more digest bytes others Unreadable knows is = absurd is
of_known known more digest bytes others (Book fault) knows is = absurd is
of_known known more digest bytes others (Log fault) knows is = λ all of. subst (λ (log : List ℕ). IsReading digest log (Err fault)) (knows all).1 (is (knows all).0 of)
of_known known more digest bytes others OutOfMemory knows is = tt

pub known_more : (known more : Type 0) (digest bytes : List ℕ) (fault : OpeningFault) → (more → known) → IsLogFault known digest bytes fault → IsLogFault more digest bytes fault
known_more known more digest bytes fault knows is = of_known known more digest bytes bytes fault (λ all. (knows all, refl)) is

module _ {G : Type 0} (is_known : G → Type 0) (synced unsynced : G → List ℕ) where
  -- the host that goes on with a log stands behind it
  stands : (book : Rows) (file : G) (decider : Decider) (host : Host G) → decider.prefix.book ≡ book
      → IsResumed is_known synced unsynced (book_digest book) file decider host → GoesOn is_known synced unsynced book (synced file ++ unsynced file) host
  stands book file decider host opening is = record {
    entries = is.entries;
    messages = is.decided.messages;
    held = inl (is.tail, is.is);
    stands = record {
      read = is.decided.are;
      log = is.log;
      book = is.decided.after.book ∙ ap (λ (rows : Rows). rows_after rows is.decided.messages) opening;
    };
  }

  pub goes_on : {E : Type 0} (book : Rows) (file : G) (decider : Decider) (result : Result (Opened G) E) → decider.prefix.book ≡ book
      → IfOk result (λ opened. IsResumed is_known synced unsynced (book_digest book) file decider opened.host)
      → IfOk result (λ opened. GoesOn is_known synced unsynced book (synced file ++ unsynced file) opened.host)
  goes_on book file decider (Ok opened) is resumed = stands book file decider opened.host is resumed
  goes_on book file decider (Err fault) is resumed = tt

  -- the host is opened whose log had these bytes in the file
  pub opened_on : {E : Type 0} (text log : List ℕ) (book : Rows) (file : G) (result : Result (Opened G) E) → reading text ≡ Ok book
      → is_known file × (synced file ++ unsynced file ≡ log)
      → (is_known file → IfOk result (λ opened. GoesOn is_known synced unsynced book (synced file ++ unsynced file) opened.host))
      → IfOk result (λ opened. IsOpened is_known synced unsynced text log opened.host)
  opened_on text log book file (Ok opened) read has goes = record {
    book = book;
    read = read;
    again = subst (λ (bytes : List ℕ). GoesOn is_known synced unsynced book bytes opened.host) has.1 (goes has.0);
  }
  opened_on text log book file (Err fault) read has goes = tt

-- a log that can't be opened is a fault of the log, which says nothing of its bytes
pub not_opened : (may_fail : Type 0) (text : List ℕ) (known : Type 0) (log : List ℕ) (book : Rows) (fault : OpenFault) → reading text ≡ Ok book
    → IsOpeningFault may_fail text known log (fault_of_open fault)
not_opened may_fail text known log book InUse read = (book, read, λ _ of. absurd (false≢true of))
not_opened may_fail text known log book Refused read = (book, read, λ _ of. absurd (false≢true of))
not_opened may_fail text known log book NoMemory read = (book, read, λ _ of. absurd (false≢true of))

-- the fault of a log is one of a host that isn't opened
of_log : (may_fail : Type 0) (text : List ℕ) (known : Type 0) (log : List ℕ) (book : Rows) (fault : OpeningFault) → reading text ≡ Ok book
    → IsLogFault known (book_digest book) log fault → IsOpeningFault may_fail text known log fault
of_log may_fail text known log book Unreadable read is = absurd is
of_log may_fail text known log book (Book fault) read is = absurd is
of_log may_fail text known log book (Log fault) read is = (book, read, is)
of_log may_fail text known log book OutOfMemory read is = tt

-- of a log whose bytes are known, those of the file
pub log_fault : {X : Type 0} (may_fail : Type 0) (text : List ℕ) (known : Type 0) (log : List ℕ) (book : Rows) (of_file : Type 0) (file : List ℕ) (result : Result X OpeningFault)
    → reading text ≡ Ok book → (known → of_file × (file ≡ log)) → IfErr result (IsLogFault of_file (book_digest book) file) → IfErr result (IsOpeningFault may_fail text known log)
log_fault may_fail text known log book of_file file (Ok opened) read has is = tt
log_fault may_fail text known log book of_file file (Err fault) read has is =
    of_log may_fail text known log book fault read (of_known of_file known (book_digest book) file log fault has is)
