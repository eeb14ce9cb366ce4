-- What is handed over of a link that is read ahead.
use Rattle.std.specs.Prelude.{◌≡◌, ◌⊎◌, ◌-◌, ◌^◌, ◌<◌, ⊤, ℕ, List, [], ◌++◌, length, true, false, Option, Some, None}
use Rattle.rtrb.specs.Ring.{sent, received}
use Rattle.file_devices.specs.Appending.{Begins}
use Rattle.link_frames.specs.declared.ahead.Ahead.{Ahead}
use Rattle.link_frames.specs.declared.last.Last.{Last}
use Rattle.link_frames.specs.declared.reading.Reading.{Reading}

-- how far a count goes
abbrev pub most : ℕ
most = 2 ^ 64 - 1

-- over a source
module _ {S : Type 0} (is_known : S → Type 0) (remaining : S → List ℕ) (may_fail : S → Type 0) where
  -- Behind the source lies this front of the bytes of a link, where they are known, and the rest is still to come. A call of it fails only
  -- where one of the link's may.
  pub record IsBehind (reads : Type 0) (all : List ℕ) (fails : Type 0) (front : List ℕ) (source : S) : Type 0 where
    pub known : reads → is_known source
    pub bytes : reads → all ≡ front ++ remaining source
    pub may : may_fail source → fails

-- what a source said: that the link ended, behind so many bytes; or that a call failed, as it may
pub record IsLast (reads : Type 0) (all : List ℕ) (fails : Type 0) (last : Last) : Type 0 where
  pub ended : last.has_failed ≡ false → last.count < most → reads → length all ≡ last.count
  pub failed : last.has_failed ≡ true → fails

-- where it was said that the link ended, it has so many bytes
abbrev pub FitsEnd : List ℕ → Option Last → Type 0
FitsEnd all (Some last) = last.has_failed ≡ false → last.count < most → length all ≡ last.count
FitsEnd all None = ⊤

-- a call may fail, or it was said that one did
abbrev pub MayFail : Type 0 → Option Last → Type 0
MayFail fails (Some last) = fails ⊎ (last.has_failed ≡ true)
MayFail fails None = fails

-- the bytes of the link are known, and those that were taken are a beginning of them
pub record IsReadAhead (reads : Type 0) (all taken : List ℕ) (last : Option Last) : Type 0 where
  pub known : reads
  pub beginning : Begins taken all
  pub end : FitsEnd all last

-- nothing was taken of the link yet
pub record IsFresh {R L : Type 0} (ahead : Ahead R L) : Type 0 where
  pub none : received ahead.inbound ≡ []
  pub last : ahead.last ≡ None
  pub failed : ahead.has_failed ≡ false

-- nothing was read of it yet
pub record HasReadNone {L : Type 0} (reading : Reading L) : Type 0 where
  pub none : sent reading.outbound ≡ []
  pub count : reading.count ≡ 0
