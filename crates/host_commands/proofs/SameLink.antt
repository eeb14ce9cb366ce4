-- What serving a link that is read ahead comes to is what serving the link comes to.
use Rattle.std.proofs.Common.{◌≡◌, ℕ, List, subst}
use Rattle.issuer_rows.specs.declared.frame.Frame.{Frame}
use Rattle.link_frames.specs.Incoming.{frames_of}
use Rattle.link_frames.specs.Link.{AreFrames}
use Rattle.log_file.specs.declared.log_writer.LogWriter.{LogWriter}
use Rattle.file_laws.specs.declared.log_fault.LogFault.TheVariants.{NoLog, Version, OtherBook, InUse, Broken, Failed, OutOfMemory as NoMemory}
use Rattle.host_serving.proofs.Servings.{served_none, stopped_reading}
use Rattle.host_serving.specs.Serving.{BookAfter, CameNext, FaultFits, LogBehind, Served, Stopped}
use Rattle.host_serving.specs.declared.decider.Decider.{Decider}
use Rattle.host_serving.specs.declared.host.Host.{Host}
use Rattle.host_serving.specs.declared.host_fault.HostFault.{HostFault}
use Rattle.host_serving.specs.declared.host_fault.HostFault.TheVariants.{Link, Log, OutOfMemory}

-- the same book, where less is known of the link
book_for : (fault : HostFault) (old new : Decider) (messages : List Frame) (reads others : Type 0) (left : List ℕ) → (others → reads)
    → BookAfter fault old messages reads left new → BookAfter fault old messages others left new
book_for (Link f) old new messages reads others left r after = after
book_for (Log Failed) old new messages reads others left r after = (after.0, after.1, after.2, λ known. after.3 (r known), after.4, after.5, after.6)
book_for (Log NoLog) old new messages reads others left r after = tt
book_for (Log Version) old new messages reads others left r after = tt
book_for (Log OtherBook) old new messages reads others left r after = tt
book_for (Log InUse) old new messages reads others left r after = tt
book_for (Log (Broken k)) old new messages reads others left r after = tt
book_for (Log NoMemory) old new messages reads others left r after = tt
book_for OutOfMemory old new messages reads others left r after = tt

fits_for : (fault : HostFault) (reads others : Type 0) (left : List ℕ) → (others → reads) → FaultFits fault reads left → FaultFits fault others left
fits_for (Link f) reads others left r fits = λ known. fits (r known)
fits_for (Log f) reads others left r fits = tt
fits_for OutOfMemory reads others left r fits = tt

next_for : (reads others : Type 0) (left : List ℕ) (next : List (List ℕ)) → (others → reads) → CameNext reads left next → CameNext others left next
next_for reads others left next r c = record {
  incoming = c.incoming;
  rest = c.rest;
  came = λ known. c.came (r known);
  are = c.are;
  bodies = c.bodies;
}

-- over the file of a log
module _ {G : Type 0} (is_known : G → Type 0) (synced unsynced : G → List ℕ) where
  pub served_for : (old new : Host G) (reads others : Type 0) (bytes same left : List ℕ) (puts : Type 0) (had has : List ℕ) → (others → reads) → (others → bytes ≡ same)
      → Served is_known synced unsynced old new reads bytes left puts had has → Served is_known synced unsynced old new others same left puts had has
  served_for old new reads others bytes same left puts had has r is s = record {
    incoming = s.incoming;
    entries = s.entries;
    messages = s.messages;
    came = λ known. subst (λ (x : List ℕ). AreFrames x (frames_of s.incoming) left) (is known) (s.came (r known));
    are = s.are;
    logged = s.logged;
    each = s.each;
    read = s.read;
    log = s.log;
    after = s.after;
    answered = s.answered;
  }

  -- the same log, where less is known of the link
  behind_for : (fault : HostFault) (old new : LogWriter G) (entries : List (List (List ℕ))) (reads others : Type 0) (left : List ℕ) → (others → reads)
      → LogBehind is_known synced unsynced fault old new entries reads left → LogBehind is_known synced unsynced fault old new entries others left
  behind_for (Link f) old new entries reads others left r log = log
  behind_for (Log Failed) old new entries reads others left r log = (log.0, next_for reads others left log.0 r log.1, log.2)
  behind_for (Log NoLog) old new entries reads others left r log = log
  behind_for (Log Version) old new entries reads others left r log = log
  behind_for (Log OtherBook) old new entries reads others left r log = log
  behind_for (Log InUse) old new entries reads others left r log = log
  behind_for (Log (Broken k)) old new entries reads others left r log = log
  behind_for (Log NoMemory) old new entries reads others left r log = log
  behind_for OutOfMemory old new entries reads others left r log = (log.0, next_for reads others left log.0 r log.1, log.2)

  pub stopped_for : (fault : HostFault) (old new : Host G) (reads others : Type 0) (bytes same : List ℕ) (puts : Type 0) (had has : List ℕ) → (others → reads) → (others → bytes ≡ same)
      → Stopped is_known synced unsynced fault old new reads bytes puts had has → Stopped is_known synced unsynced fault old new others same puts had has
  stopped_for fault old new reads others bytes same puts had has r is s = record {
    incoming = s.incoming;
    entries = s.entries;
    messages = s.messages;
    left = s.left;
    came = λ known. subst (λ (x : List ℕ). AreFrames x (frames_of s.incoming) s.left) (is known) (s.came (r known));
    are = s.are;
    logged = s.logged;
    each = s.each;
    read = s.read;
    log = behind_for fault old.log new.log s.entries reads others s.left r s.log;
    after = book_for fault old.decider new.decider s.messages reads others s.left r s.after;
    answered = s.answered;
    fits = fits_for fault reads others s.left r s.fits;
  }

  -- it stopped before the first frame
  pub stopped_at_once : (host : Host G) (reads : Type 0) (bytes : List ℕ) (puts : Type 0) (text : List ℕ) → Stopped is_known synced unsynced OutOfMemory host host reads bytes puts text text
  stopped_at_once host reads bytes puts text =
      stopped_reading is_known synced unsynced OutOfMemory host host reads reads bytes bytes puts text text (λ known. known) (served_none is_known synced unsynced host reads bytes puts text) tt
