use Rattle.std.proofs.Common.{inl, inr}
use Rattle.app_messages.proofs.showing.show_file.Goals as goal

pub returns-in-Ok-clause-lines : goal.returns-in-Ok-clause-lines
returns-in-Ok-clause-lines g c = record {
  there = c.in_ok-bytes.ensures.there;
  lines = λ bytes h. rw (← c.in_ok-bytes.ensures.read bytes h, ← c.deref.ensures.value) c.in-Ok.ensures.lines;
}

pub returns : goal.returns
returns g c = record {
  lines = tt;
  fault = elim c.fault_of_showing.ensures [
    | inl memory ↦ rw memory.1 tt
    | inr other ↦
        let told = c.in-Err.ensures.fault other.0 in
        rw other.1 (told.0, λ bytes h. rw (← c.in_ok-bytes.ensures.read bytes h, ← c.deref.ensures.value) told.1)
  ];
}
