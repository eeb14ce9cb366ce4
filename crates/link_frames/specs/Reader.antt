-- What a reader of a link has.
use Rattle.std.specs.Prelude.{ℕ, List, ◌++◌, slice_range}
use Rattle.link_frames.specs.declared.reader.LinkReader.{LinkReader}

-- the frames that it gave last
abbrev pub given : LinkReader → List ℕ
given reader = slice_range reader.buffer.items reader.start reader.given

-- the bytes that have come and were not given yet
abbrev pub kept : LinkReader → List ℕ
kept reader = slice_range reader.buffer.items reader.given reader.end

-- the bytes that are still to be given: those kept, and what is left in its source
abbrev pub ahead : LinkReader → List ℕ → List ℕ
ahead reader left = kept reader ++ left
