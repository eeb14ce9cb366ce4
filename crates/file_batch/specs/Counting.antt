-- How many bodies a batch has, and how many of them are no message.
use Rattle.std.specs.Prelude.{◌≡◌, ⊤, ◌+◌, Bool, true, false, List, length, count_by}
use Rattle.issuer_rows.specs.declared.frame.Frame.{Frame}
use Rattle.issuer_rows.specs.declared.frame.Frame.TheVariants.{Good, Bad}
use Rattle.file_batch.specs.declared.body_count.BodyCount.{BodyCount}
use Rattle.file_batch.specs.declared.strictness.Strictness.{Strictness}
use Rattle.file_batch.specs.declared.strictness.Strictness.TheVariants.{Lenient, Strict}

-- the body is no message
abbrev pub is_unreadable : Frame → Bool
is_unreadable (Good message) = false
is_unreadable (Bad fault) = true

-- so many bodies, of which so many are no message
abbrev pub count_of : List Frame → BodyCount
count_of frames = record { bodies = length frames; unreadable = count_by is_unreadable frames }

-- both together
abbrev pub plus : BodyCount → BodyCount → BodyCount
plus some more = record { bodies = some.bodies + more.bodies; unreadable = some.unreadable + more.unreadable }

-- a batch of so many bodies is decided: where it is strict, none of them is unreadable
abbrev pub Admits : Strictness → BodyCount → Type 0
Admits Lenient count = ⊤
Admits Strict count = count.unreadable ≡ 0
