-- Faults of links: their numbers, and which calls have failed after one.
use Rattle.std.specs.Prelude.{◌≡◌, ℕ, Bool, true, false, Result, Ok, Err, IfErr}
use Rattle.link_frames.specs.declared.link_fault.LinkFault.{LinkFault}
use Rattle.link_frames.specs.declared.link_fault.LinkFault.TheVariants.{Ended, Length, Unwritable, Unreadable, OutOfMemory}

-- which fault it is, from 1 to 5
abbrev pub number_of_fault : LinkFault → ℕ
number_of_fault Ended = 1
number_of_fault Length = 2
number_of_fault Unwritable = 3
number_of_fault Unreadable = 4
number_of_fault OutOfMemory = 5

-- a fault that a link's bytes alone determine
abbrev pub is_of_bytes : LinkFault → Bool
is_of_bytes Ended = true
is_of_bytes Length = true
is_of_bytes _ = false

-- whether a call that reads has failed after a fault: it has where the link can't be read, and else as before
abbrev pub unread_at : LinkFault → Bool → Bool
unread_at Unreadable failed = true
unread_at _ failed = failed

-- the same of a result
abbrev pub unread_after : {X : Type 0} → Result X LinkFault → Bool → Bool
unread_after (Ok x) failed = failed
unread_after (Err e) failed = unread_at e failed

-- whether a call that writes has failed after a fault
abbrev pub unwritten_at : LinkFault → Bool → Bool
unwritten_at Unwritable failed = true
unwritten_at _ failed = failed

-- the same of a result
abbrev pub unwritten_after : {X : Type 0} → Result X LinkFault → Bool → Bool
unwritten_after (Ok x) failed = failed
unwritten_after (Err e) failed = unwritten_at e failed

-- over a source
module _ {S : Type 0} (is_known : S → Type 0) (has_failed : S → Bool) (may_fail : S → Type 0) where
  -- it returns that the link can't be read exactly where a call of the source failed, and only of one whose calls may fail; and what was
  -- known of the source is known still
  pub record Reads {X : Type 0} (old new : S) (result : Result X LinkFault) : Type 0 where
    pub failed : has_failed new ≡ unread_after result (has_failed old)
    pub fault : IfErr result (λ e. e ≡ Unreadable → may_fail old)
    pub may : may_fail new → may_fail old
    pub known : is_known old → is_known new

  -- no call of the source failed
  abbrev pub KeepsSource : S → S → Type 0
  KeepsSource old new = Reads {X = Unit {0}} old new (Ok tt)

-- over a sink
module _ {S : Type 0} (is_known : S → Type 0) (has_failed : S → Bool) (may_fail : S → Type 0) where
  -- it returns that a reply can't be written exactly where a call of the sink failed, and only of one whose calls may fail; and what was
  -- known of the sink is known still
  pub record Writes {X : Type 0} (old new : S) (result : Result X LinkFault) : Type 0 where
    pub failed : has_failed new ≡ unwritten_after result (has_failed old)
    pub fault : IfErr result (λ e. e ≡ Unwritable → may_fail old)
    pub may : may_fail new → may_fail old
    pub known : is_known old → is_known new

  -- no call of the sink failed
  abbrev pub KeepsSink : S → S → Type 0
  KeepsSink old new = Writes {X = Unit {0}} old new (Ok tt)
