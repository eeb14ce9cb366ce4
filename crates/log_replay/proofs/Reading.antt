-- A log that is read entry by entry, and its size.
use Rattle.std.proofs.Common.{inl, inr, ◌≡◌, ℕ, ◌≤◌, List, [], ◌∷◌, ◌++◌, length, Result, Ok, Err, refl, ap, subst, ◌∙◌, arith}
use Rattle.std.proofs.lemmas.List.{length-append}
use Rattle.std.proofs.lemmas.List.Concat.{flat_map-append}
use Rattle.issuer_rows.specs.declared.frame.Frame.{Frame}
use Rattle.file_laws.specs.Frames.{AreFramesOf}
use Rattle.file_laws.specs.LogReading.{IsLogOf, IsReading, Stands}
use Rattle.file_laws.specs.Texts.{last_digest}
use Rattle.file_laws.specs.declared.log_fault.LogFault.{LogFault}
use Rattle.file_laws.specs.declared.log_fault.LogFault.TheVariants.{NoLog, Version, OtherBook, InUse, Broken, Failed, OutOfMemory}
use Rattle.file_laws.specs.LogFault.{is_of_bytes}
use Rattle.log_replay.specs.Faults.{IsMeasuringFault, IsReplayFault}
use Rattle.log_replay.specs.ReplayFault.{fault_of_reading}
use Rattle.log_replay.specs.Writing.{IsWritingFault}
use Rattle.log_replay.specs.declared.replay_fault.ReplayFault.{ReplayFault}
use Rattle.log_replay.specs.declared.replay_fault.ReplayFault.TheVariants as replay
use Rattle.std.specs.Prelude.{IsTrue}
use Rattle.file_laws.proofs.Readings.{one_reading, read_first}
use Rattle.file_laws.proofs.LogSteps.{torn_no_entry}
use Rattle.log_replay.specs.Logged.{IsLogOfSize, all_bodies}

abbrev pub Read : Type 0
Read = List (List (List ℕ)) × List ℕ

-- the entries that were read
abbrev pub entries_of : Result Read LogFault → List (List (List ℕ))
entries_of (Ok read) = read.0
entries_of (Err fault) = []

-- frames of bodies, and of those behind them
pub both_are : (bodies more : List (List ℕ)) (frames others : List Frame) → AreFramesOf bodies frames → AreFramesOf more others → AreFramesOf (bodies ++ more) (frames ++ others)
both_are [] more [] others here there = there
both_are [] more (x ∷ frames) others here there = absurd here
both_are (b ∷ bodies) more [] others here there = absurd here
both_are (b ∷ bodies) more (x ∷ frames) others here there = (here.0, both_are bodies more frames others here.1 there)

-- a log has one size
pub one_size : (digest bytes : List ℕ) (entries : List (List (List ℕ))) (tail : List ℕ) (count torn : ℕ) → length digest ≡ 32 → IsLogOf digest bytes entries tail
    → IsLogOfSize digest bytes count torn → count ≡ length (all_bodies entries)
one_size digest bytes entries tail count torn width is size =
    let same : Path (Result Read LogFault) (Ok (size.entries, size.tail)) (Ok (entries, tail)) = one_reading digest bytes (Ok (size.entries, size.tail)) (Ok (entries, tail)) width size.is is in
    size.bodies ∙ ap (λ (read : Result Read LogFault). length (all_bodies (entries_of read))) same

-- of a log, some first entries have no more bodies than all
pub no_more : (digest bytes : List ℕ) (entries : List (List (List ℕ))) (left : List ℕ) (count torn : ℕ) → Stands digest bytes entries left
    → IsLogOfSize digest bytes count torn → length (all_bodies entries) ≤ count
no_more digest bytes entries left count torn stands size =
    let there = subst (λ (b : List ℕ). Stands digest b size.entries size.tail) stands.is size.is.stands in
    let more = read_first digest left entries size.entries size.tail stands.are there (torn_no_entry (last_digest digest size.entries) size.tail size.is.torn) in
    let all : all_bodies size.entries ≡ all_bodies entries ++ all_bodies more.0 = ap all_bodies more.1 ∙ flat_map-append (λ (entry : List (List ℕ)). entry) entries more.0 in
    omega (arith, size.bodies, ap length all, length-append (all_bodies entries) (all_bodies more.0))

-- a log that isn't read
pub not_measured : (known may_fail : Type 0) (digest bytes : List ℕ) (e : LogFault) → (e ≡ Failed → may_fail) → (IsTrue (is_of_bytes e) → known → IsReading digest bytes (Err e))
    → IsMeasuringFault known may_fail digest bytes (fault_of_reading e)
not_measured known may_fail digest bytes NoLog failed fault = fault refl
not_measured known may_fail digest bytes Version failed fault = fault refl
not_measured known may_fail digest bytes OtherBook failed fault = fault refl
not_measured known may_fail digest bytes (Broken number) failed fault = fault refl
not_measured known may_fail digest bytes InUse failed fault = tt
not_measured known may_fail digest bytes Failed failed fault = failed refl
not_measured known may_fail digest bytes OutOfMemory failed fault = tt

-- the same of one that is decided again
pub not_replayed : (known may_fail : Type 0) (digest bytes : List ℕ) (other may_not_write : Type 0) (e : LogFault) → (e ≡ Failed → may_fail)
    → (IsTrue (is_of_bytes e) → known → IsReading digest bytes (Err e)) → IsReplayFault known may_fail digest bytes other may_not_write (fault_of_reading e)
not_replayed known may_fail digest bytes other may_not_write NoLog failed fault = fault refl
not_replayed known may_fail digest bytes other may_not_write Version failed fault = fault refl
not_replayed known may_fail digest bytes other may_not_write OtherBook failed fault = fault refl
not_replayed known may_fail digest bytes other may_not_write (Broken number) failed fault = fault refl
not_replayed known may_fail digest bytes other may_not_write InUse failed fault = tt
not_replayed known may_fail digest bytes other may_not_write Failed failed fault = inl (failed refl)
not_replayed known may_fail digest bytes other may_not_write OutOfMemory failed fault = tt

-- replies that aren't written are a fault of a replay
pub not_written : (known may_fail : Type 0) (digest bytes : List ℕ) (other may_not_write may : Type 0) (e : ReplayFault) → (may → may_not_write) → IsWritingFault may e
    → IsReplayFault known may_fail digest bytes other may_not_write e
not_written known may_fail digest bytes other may_not_write may (replay.Log fault) more is = absurd is
not_written known may_fail digest bytes other may_not_write may replay.TooMany more is = absurd is
not_written known may_fail digest bytes other may_not_write may replay.Unwritable more is = more is
not_written known may_fail digest bytes other may_not_write may replay.OutOfMemory more is = tt

-- with more known, and as may fail, it is the same fault
pub replay_fault_more : (known more may_fail may : Type 0) (digest bytes : List ℕ) (other others may_not_write may_write : Type 0) (e : ReplayFault) → (more → known) → (may_fail → may)
    → (other → others) → (may_not_write → may_write) → IsReplayFault known may_fail digest bytes other may_not_write e → IsReplayFault more may digest bytes others may_write e
replay_fault_more known more may_fail may digest bytes other others may_not_write may_write (replay.Log Failed) k m o w (inl f) = inl (m f)
replay_fault_more known more may_fail may digest bytes other others may_not_write may_write (replay.Log Failed) k m o w (inr f) = inr (o f)
replay_fault_more known more may_fail may digest bytes other others may_not_write may_write (replay.Log NoLog) k m o w is = λ all. is (k all)
replay_fault_more known more may_fail may digest bytes other others may_not_write may_write (replay.Log Version) k m o w is = λ all. is (k all)
replay_fault_more known more may_fail may digest bytes other others may_not_write may_write (replay.Log OtherBook) k m o w is = λ all. is (k all)
replay_fault_more known more may_fail may digest bytes other others may_not_write may_write (replay.Log (Broken n)) k m o w is = λ all. is (k all)
replay_fault_more known more may_fail may digest bytes other others may_not_write may_write (replay.Log InUse) k m o w is = absurd is
replay_fault_more known more may_fail may digest bytes other others may_not_write may_write (replay.Log OutOfMemory) k m o w is = tt
replay_fault_more known more may_fail may digest bytes other others may_not_write may_write replay.TooMany k m o w is = absurd is
replay_fault_more known more may_fail may digest bytes other others may_not_write may_write replay.Unwritable k m o w is = w is
replay_fault_more known more may_fail may digest bytes other others may_not_write may_write replay.OutOfMemory k m o w is = tt
