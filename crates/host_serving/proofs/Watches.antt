-- Entries that a watch is told of, one turn after another.
use Rattle.std.proofs.Common.{◌≡◌, ◌≤◌, ◌⊎◌, inl, inr, ℕ, length, List, [], ◌∷◌, ◌++◌, Result, Ok, Err, OnOk, IfErr, refl, sym, subst}
use Rattle.std.specs.List.{AllZip}
use Rattle.issuer_rows.specs.declared.frame.Frame.{Frame}
use Rattle.file_laws.specs.Frames.{AreFramesOf}
use Rattle.log_file.specs.declared.log_writer.LogWriter.{LogWriter}
use Rattle.file_laws.specs.declared.log_fault.LogFault.{LogFault}
use Rattle.file_laws.specs.declared.log_fault.LogFault.TheVariants.{NoLog, Version, OtherBook, InUse, Broken, Failed, OutOfMemory as NoMemory}
use Rattle.host_serving.specs.Entering.{BreaksOff, Grows}
use Rattle.host_serving.specs.Serving.{LogAfter}
use Rattle.host_serving.specs.Tally.{counted}
use Rattle.host_serving.specs.Watched.{HasAtMost, Hears, Watched, WatchedSoFar}
use Rattle.host_serving.specs.declared.host_fault.HostFault.{HostFault}
use Rattle.host_serving.specs.declared.host_fault.HostFault.TheVariants.{Link, Log, OutOfMemory}
use Rattle.host_serving.specs.declared.tally.Tally.{Tally}
use Rattle.host_serving.proofs.Appendings.{breaks_more, grows_more, grows_none, may_enter_more}
use Rattle.file_laws.proofs.Lists.{each_more}

abbrev Entries : Type 0
Entries = List (List (List ℕ))

zip_more : {A B : Type 0} (R : A → B → Type 0) (some more : List A) (these those : List B) → AllZip R some these → AllZip R more those → AllZip R (some ++ more) (these ++ those)
zip_more R [] more [] those front back = back
zip_more R [] more (y ∷ these) those front back = absurd front
zip_more R (x ∷ some) more [] those front back = absurd front
zip_more R (x ∷ some) more (y ∷ these) those front back = (front.0, zip_more R some more these those front.1 back)

hears_more : {N : Type 0} (hears : N → Tally → List Frame → N → Type 0) (had : N) (before : Tally) (some more : List (List Frame)) (mid : N) (between : Tally) (has : N) (after : Tally)
    → Hears hears had before some mid between → Hears hears mid between more has after → Hears hears had before (some ++ more) has after
hears_more hears had before [] more mid between has after front back =
    subst (λ n. Hears hears n before more has after) front.0 (subst (λ (tally : Tally). Hears hears mid tally more has after) front.1 back)
hears_more hears had before (messages ∷ some) more mid between has after front back =
    (front.0, front.1, hears_more hears front.0 (counted before messages) some more mid between has after front.2 back)

-- over a watch
module _ {N : Type 0} (most : ℕ) (hears : N → Tally → List Frame → N → Type 0) where
  -- nothing was told
  pub untold : (log : Entries → Type 0) (same : N) (before : Tally) → log [] → Watched log most hears same before same before
  untold log same before none = record {
    entries = [];
    messages = [];
    stand = none;
    few = tt;
    read = tt;
    told = (refl, refl);
  }

  -- one entry was told
  pub told_one : (log : Entries → Type 0) (had has : N) (before after : Tally) (bodies : List (List ℕ)) (messages : List Frame) → log (bodies ∷ []) → length bodies ≤ most
      → AreFramesOf bodies messages → hears had before messages has → after ≡ counted before messages → Watched log most hears had before has after
  told_one log had has before after bodies messages stands few are heard count = record {
    entries = bodies ∷ [];
    messages = messages ∷ [];
    stand = stands;
    few = (few, tt);
    read = (are, tt);
    told = (has, heard, (refl, count));
  }

  joined : (front back whole : Entries → Type 0) (had mid has : N) (before between after : Tally) → ((some more : Entries) → front some → back more → whole (some ++ more))
      → Watched front most hears had before mid between → Watched back most hears mid between has after → Watched whole most hears had before has after
  joined front back whole had mid has before between after both f b = record {
    entries = f.entries ++ b.entries;
    messages = f.messages ++ b.messages;
    stand = both f.entries b.entries f.stand b.stand;
    few = each_more (HasAtMost most) f.entries b.entries f.few b.few;
    read = zip_more AreFramesOf f.entries b.entries f.messages b.messages f.read b.read;
    told = hears_more hears had before f.messages b.messages mid between has after f.told b.told;
  }

  -- the same entries, of which less is known
  pub watched_as : (log other : Entries → Type 0) (had has : N) (before after : Tally) → ((entries : Entries) → log entries → other entries) → Watched log most hears had before has after
      → Watched other most hears had before has after
  watched_as log other had has before after less w = record {
    entries = w.entries;
    messages = w.messages;
    stand = less w.entries w.stand;
    few = w.few;
    read = w.read;
    told = w.told;
  }

  -- over the file of a log
  module _ {G : Type 0} (is_known : G → Type 0) (synced unsynced : G → List ℕ) where
    pub log_more : (fault : HostFault) (old mid new : LogWriter G) (some more : Entries) → Grows is_known synced unsynced old mid some → LogAfter is_known synced unsynced fault mid new more
        → LogAfter is_known synced unsynced fault old new (some ++ more)
    log_more (Link f) old mid new some more front back = grows_more is_known synced unsynced old mid new some more front back
    log_more (Log NoLog) old mid new some more front back = grows_more is_known synced unsynced old mid new some more front back
    log_more (Log Version) old mid new some more front back = grows_more is_known synced unsynced old mid new some more front back
    log_more (Log OtherBook) old mid new some more front back = grows_more is_known synced unsynced old mid new some more front back
    log_more (Log InUse) old mid new some more front back = grows_more is_known synced unsynced old mid new some more front back
    log_more (Log (Broken k)) old mid new some more front back = grows_more is_known synced unsynced old mid new some more front back
    log_more (Log Failed) old mid new some more front back = (back.0, breaks_more is_known synced unsynced old mid new some more back.0 front back.1)
    log_more (Log NoMemory) old mid new some more front back = grows_more is_known synced unsynced old mid new some more front back
    log_more OutOfMemory old mid new some more front back = (back.0, may_enter_more is_known synced unsynced old mid new some more back.0 front back.1)

    -- entries, and entries behind them
    pub watched_more : (old mid new : LogWriter G) (had text has : N) (before between after : Tally) → Watched (Grows is_known synced unsynced old mid) most hears had before text between
        → Watched (Grows is_known synced unsynced mid new) most hears text between has after → Watched (Grows is_known synced unsynced old new) most hears had before has after
    watched_more old mid new had text has before between after f b =
        joined (Grows is_known synced unsynced old mid) (Grows is_known synced unsynced mid new) (Grows is_known synced unsynced old new) had text has before between after
        (λ some more. grows_more is_known synced unsynced old mid new some more) f b

    -- entries, and those behind them up to a fault
    pub watched_before : (fault : HostFault) (old mid new : LogWriter G) (had text has : N) (before between : Tally) → Watched (Grows is_known synced unsynced old mid) most hears had before text between
        → WatchedSoFar (LogAfter is_known synced unsynced fault mid new) most hears text between has → WatchedSoFar (LogAfter is_known synced unsynced fault old new) most hears had before has
    watched_before fault old mid new had text has before between f b = (
      b.0,
      joined (Grows is_known synced unsynced old mid) (LogAfter is_known synced unsynced fault mid new) (LogAfter is_known synced unsynced fault old new) had text has before between b.0
          (λ some more. log_more fault old mid new some more) f b.1,
    )

    -- the entry couldn't be appended
    log_appending : (fault : LogFault) (old new : LogWriter G) (bodies : List (List ℕ)) → (fault ≡ Failed → BreaksOff is_known synced unsynced old new [] bodies)
        → (fault ≡ NoMemory → Grows is_known synced unsynced old new []) → (fault ≡ Failed) ⊎ (fault ≡ NoMemory) → LogAfter is_known synced unsynced (Log fault) old new []
    log_appending fault old new bodies breaks none (inl failed) =
        subst (λ (f : LogFault). LogAfter is_known synced unsynced (Log f) old new []) (sym failed) (bodies, breaks failed)
    log_appending fault old new bodies breaks none (inr memory) =
        subst (λ (f : LogFault). LogAfter is_known synced unsynced (Log f) old new []) (sym memory) (none memory)

    -- and nothing was told
    pub untold_appending : (fault : LogFault) (old new : LogWriter G) (same : N) (before : Tally) (bodies : List (List ℕ)) → (fault ≡ Failed → BreaksOff is_known synced unsynced old new [] bodies)
        → (fault ≡ NoMemory → Grows is_known synced unsynced old new []) → (fault ≡ Failed) ⊎ (fault ≡ NoMemory)
        → WatchedSoFar (LogAfter is_known synced unsynced (Log fault) old new) most hears same before same
    untold_appending fault old new same before bodies breaks none kind =
        (before, untold (LogAfter is_known synced unsynced (Log fault) old new) same before (log_appending fault old new bodies breaks none kind))

    -- a turn without bodies tells nothing
    pub untold_alone : {X : Type 0} (result : Result X HostFault) (log : LogWriter G) (same : N) (before : Tally) → OnOk result (Watched (Grows is_known synced unsynced log log) most hears same before same before)
    untold_alone (Ok x) log same before = untold (Grows is_known synced unsynced log log) same before (grows_none is_known synced unsynced log)
    untold_alone (Err e) log same before = tt

    -- one that stops tells nothing either
    pub untold_stopped : {X : Type 0} (result : Result X HostFault) (log : LogWriter G) (same : N) (before : Tally) → IfErr result (λ e. LogAfter is_known synced unsynced e log log [])
        → IfErr result (λ e. WatchedSoFar (LogAfter is_known synced unsynced e log log) most hears same before same)
    untold_stopped (Ok x) log same before stays = tt
    untold_stopped (Err e) log same before stays = (before, untold (LogAfter is_known synced unsynced e log log) same before stays)
