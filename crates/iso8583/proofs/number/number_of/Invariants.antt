use Rattle.std.proofs.Common.{◌≡◌, ◌<◌, ◌^◌, take}
use Rattle.iso8583.specs.Number.{number_of}
use Rattle.iso8583.proofs.number.number_of.Given as goal

-- the number of the digits so far
abbrev pub invariant-loop-c : goal.invariant-loop-c
invariant-loop-c l = (l.n ≡ number_of (take l.c-index l.text)) × (l.n < 10 ^ l.c-index)
