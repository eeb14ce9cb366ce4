-- What appending an entry means for the log.
use Rattle.std.proofs.Common.{◌≡◌, ◌⊎◌, inl, inr, ℕ, List, [], ◌∷◌, ◌++◌, Result, Ok, Err, IfOk, IfErr, OnOk, sym, ap, subst, ◌∙◌, append_assoc}
use Rattle.std.proofs.lemmas.List.{append-nil}
use Rattle.log_file.specs.Writes.{HasLog, IsCutOff}
use Rattle.log_file.specs.declared.log_writer.LogWriter.{LogWriter}
use Rattle.log_file.specs.declared.synced.Synced.{Synced}
use Rattle.file_laws.specs.LogReading.{AreEntries}
use Rattle.file_laws.specs.declared.log_fault.LogFault.{LogFault}
use Rattle.file_laws.specs.declared.log_fault.LogFault.TheVariants.{Failed, OutOfMemory as NoMemory}
use Rattle.host_serving.specs.Entering.{Appends, BreaksOff, Grows, MayEnter}

abbrev Entries : Type 0
Entries = List (List (List ℕ))

-- what holds of a call that succeeded
pub on_ok : {X E P : Type 0} (result : Result X E) {x : X} → OnOk result P → result ≡ Ok x → P
on_ok {P = P} result holds is = subst (λ r. OnOk r P) is holds

module _ {G : Type 0} (is_known : G → Type 0) (synced unsynced : G → List ℕ) where
  pub grows_none : (log : LogWriter G) → Grows is_known synced unsynced log log []
  grows_none log digest had has = subst (λ (entries : Entries). HasLog is_known synced unsynced digest entries log) (sym (append-nil had)) has

  -- entries, and entries behind them
  pub grows_more : (old mid new : LogWriter G) (some more : Entries) → Grows is_known synced unsynced old mid some → Grows is_known synced unsynced mid new more → Grows is_known synced unsynced old new (some ++ more)
  grows_more old mid new some more front back digest had has =
      subst (λ (entries : Entries). HasLog is_known synced unsynced digest entries new) (append_assoc had some more) (back digest (had ++ some) (front digest had has))

  pub breaks_more : (old mid new : LogWriter G) (some more : Entries) (bodies : List (List ℕ)) → Grows is_known synced unsynced old mid some → BreaksOff is_known synced unsynced mid new more bodies
      → BreaksOff is_known synced unsynced old new (some ++ more) bodies
  breaks_more old mid new some more bodies front back digest had has =
      subst (λ (entries : Entries). IsCutOff is_known synced unsynced digest entries bodies new.file) (append_assoc had some more) (back digest (had ++ some) (front digest had has))

  pub may_enter_more : (old mid new : LogWriter G) (some more : Entries) (bodies : List (List ℕ)) → Grows is_known synced unsynced old mid some → MayEnter is_known synced unsynced mid new more bodies
      → MayEnter is_known synced unsynced old new (some ++ more) bodies
  may_enter_more old mid new some more bodies front (inl none) = inl (grows_more old mid new some more front none)
  may_enter_more old mid new some more bodies front (inr (inl whole)) =
      inr (inl (subst (λ (entries : Entries). Grows is_known synced unsynced old new entries) (sym (append_assoc some more (bodies ∷ []))) (grows_more old mid new some (more ++ bodies ∷ []) front whole)))
  may_enter_more old mid new some more bodies front (inr (inr part)) = inr (inr (breaks_more old mid new some more bodies front part))

  -- nothing was written
  same_log : (old new : LogWriter G) → new.file ≡ old.file → new.digest ≡ old.digest → new.entries ≡ old.entries → Grows is_known synced unsynced old new []
  same_log old new file digest count book had has = record {
    are = subst (λ (x : Entries). AreEntries x) (sym (append-nil had)) has.are;
    known = subst is_known (sym file) has.known;
    text = rw (append-nil had) (ap synced file ∙ has.text);
    nothing = ap unsynced file ∙ has.nothing;
    digest = rw (append-nil had) (digest ∙ has.digest);
    count = rw (append-nil had) (count ∙ has.count);
  }

  module _ (old new : LogWriter G) (bodies : List (List ℕ)) where
    -- what `append` says of the log
    pub appends : (number : ℕ) (result : Result Synced LogFault) → IfOk result (λ entry. (entry.bodies.now ≡ bodies) × (entry.number ≡ number))
        → ((digest : List ℕ) (had : Entries) → HasLog is_known synced unsynced digest had old → OnOk result (HasLog is_known synced unsynced digest (had ++ bodies ∷ []) new))
        → ((digest : List ℕ) (had : Entries) → HasLog is_known synced unsynced digest had old → IfErr result (λ e. IsCutOff is_known synced unsynced digest had bodies new.file))
        → (result ≡ Err NoMemory → (new.file ≡ old.file) × (new.digest ≡ old.digest) × (new.entries ≡ old.entries) × (new.has_failed ≡ old.has_failed))
        → IfErr result (λ e. (e ≡ Failed) ⊎ (e ≡ NoMemory)) → Appends is_known synced unsynced old new bodies result
    appends number (Ok entry) of grows cut memory kind = record {
      of = of.0;
      grows = grows;
      fault = tt;
      breaks_off = tt;
      same = tt;
    }
    appends number (Err e) of grows cut memory kind = record {
      of = tt;
      grows = tt;
      fault = kind;
      breaks_off = λ _. λ digest had has. subst (λ (x : Entries). IsCutOff is_known synced unsynced digest x bodies new.file) (sym (append-nil had)) (cut digest had has);
      same = λ none. let stays = memory (ap (λ (x : LogFault). Err x) none) in same_log old new stays.0 stays.1 stays.2;
    }

    -- an entry that can't be appended
    refused : (e : LogFault) → (e ≡ Failed → BreaksOff is_known synced unsynced old new [] bodies) → (e ≡ NoMemory → Grows is_known synced unsynced old new [])
        → (e ≡ Failed) ⊎ (e ≡ NoMemory) → MayEnter is_known synced unsynced old new [] bodies
    refused e breaks same (inl failed) = inr (inr (breaks failed))
    refused e breaks same (inr none) = inl (same none)

    -- the entry may stand in the log
    pub may_enter : (result : Result Synced LogFault) → Appends is_known synced unsynced old new bodies result → MayEnter is_known synced unsynced old new [] bodies
    may_enter (Ok entry) a = inr (inl a.grows)
    may_enter (Err e) a = refused e a.breaks_off a.same a.fault

    -- an entry that was appended
    pub entered : (result : Result Synced LogFault) (entry : Synced) → Appends is_known synced unsynced old new bodies result → result ≡ Ok entry
        → (entry.bodies.now ≡ bodies) × Grows is_known synced unsynced old new (bodies ∷ [])
    entered result entry a is =
        let known : Appends is_known synced unsynced old new bodies (Ok entry) = subst (λ (r : Result Synced LogFault). Appends is_known synced unsynced old new bodies r) is a in
        (known.of, known.grows)

    -- one that wasn't
    pub not_entered : (result : Result Synced LogFault) (e : LogFault) → Appends is_known synced unsynced old new bodies result → result ≡ Err e
        → (e ≡ Failed → BreaksOff is_known synced unsynced old new [] bodies) × (e ≡ NoMemory → Grows is_known synced unsynced old new []) × ((e ≡ Failed) ⊎ (e ≡ NoMemory))
    not_entered result e a is =
        let known : Appends is_known synced unsynced old new bodies (Err e) = subst (λ (r : Result Synced LogFault). Appends is_known synced unsynced old new bodies r) is a in
        (known.breaks_off, known.same, known.fault)
