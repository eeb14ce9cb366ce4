-- Rows that a decision needs, and those that it has read so far.
use Rattle.std.specs.Prelude.{◌≡◌, take, length}
use Rattle.issuer_words.specs.Words.{Agrees, Frame, Lookup, Reads, decision, keys_read}

-- on all rows that agree with the reads, those that were read are the first of the rows that are needed, in their order
abbrev pub ReadsNeeds : Frame → Reads → Type 0
ReadsNeeds frame reads = (look : Lookup) → Agrees reads look → keys_read reads ≡ take (length reads) (decision look frame).needs

-- on all rows that agree with the reads, those that were read are all the rows that are needed, in their order
abbrev pub ReadsAllNeeds : Frame → Reads → Type 0
ReadsAllNeeds frame reads = (look : Lookup) → Agrees reads look → keys_read reads ≡ (decision look frame).needs
