-- A book that is seen through the rows that were written since.
use Rattle.std.specs.Prelude.{List, [], ◌∷◌, Option, Some, None}
use Rattle.std.specs.FinMap as map
use Rattle.issuer_words.specs.Words.{Frame, RowVal, Rows, overlay, rows_after_one, writes_of}

-- a row that was written, else the one below
abbrev pub first_of : Option RowVal → Option RowVal → Option RowVal
first_of (Some row) below = Some row
first_of None below = below

-- the rows of a book with those written over them that another has
abbrev pub joined : Rows → Rows → Rows
joined below written = overlay below (map.entries written)

-- the same of several, one after another
abbrev pub joined_all : Rows → List Rows → Rows
joined_all below [] = below
joined_all below (written ∷ more) = joined_all (joined below written) more

-- the rows that bodies write, decided one after another, with those that were written before
abbrev pub rows_written : Rows → Rows → List Frame → Rows
rows_written written rows [] = written
rows_written written rows (frame ∷ frames) = rows_written (overlay written (writes_of rows frame)) (rows_after_one rows frame) frames

-- the rows that a part writes, decided alone
abbrev pub rows_of_part : Rows → List Frame → Rows
rows_of_part opening frames = rows_written map.empty opening frames
