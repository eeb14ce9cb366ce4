-- A file's messages or replies as lines: for people, or of JSON.
use Rattle.std.specs.Prelude.{ℕ, ◌+◌, List, [], ◌∷◌, ◌++◌, Option, Some, codes, decimal}
use Rattle.issuer_words.specs.Words.{Frame, ReplyBody}
use Rattle.app_words.specs.declared.form.Form.{Form}
use Rattle.app_words.specs.declared.form.Form.TheVariants as form
use Rattle.file_listing.specs.Lines as people
use Rattle.message_text.specs.Lines as json
use Rattle.message_text.specs.declared.place.Place.{Place}

-- a place of a file that has no blocks, or of this block
abbrev pub place_in : Option ℕ → ℕ → Place
place_in block index = record { block = block; index = index }

-- the line of the body at this place, with its end
abbrev pub frame_line : Form → Option ℕ → ℕ → Frame → List ℕ
frame_line form.Lines block index frame = people.frame_line index frame ++ 10 ∷ []
frame_line (form.Json cards) block index frame = json.frame_line (place_in block index) cards frame

-- the same of a reply
abbrev pub reply_line : Form → Option ℕ → ℕ → ReplyBody → List ℕ
reply_line form.Lines block index reply = people.reply_line index reply ++ 10 ∷ []
reply_line (form.Json cards) block index reply = json.reply_line (place_in block index) cards reply

-- the lines of bodies, of which the first has this place
abbrev pub frame_lines : Form → Option ℕ → ℕ → List Frame → List ℕ
frame_lines told block index [] = []
frame_lines told block index (f ∷ fs) = frame_line told block index f ++ frame_lines told block (index + 1) fs

-- the same of replies
abbrev pub reply_lines : Form → Option ℕ → ℕ → List ReplyBody → List ℕ
reply_lines told block index [] = []
reply_lines told block index (r ∷ rs) = reply_line told block index r ++ reply_lines told block (index + 1) rs

-- a line with its number ahead of a block, for people; each line of JSON has that number
abbrev pub block_head : Form → ℕ → List ℕ
block_head form.Lines number = codes "block " ++ decimal number ++ 10 ∷ []
block_head (form.Json cards) number = []

-- the lines of blocks, of which the first has this number; bodies are counted from 0 in each
abbrev pub block_lines : Form → ℕ → List (List Frame) → List ℕ
block_lines told number [] = []
block_lines told number (block ∷ blocks) = block_head told number ++ frame_lines told (Some number) 0 block ++ block_lines told (number + 1) blocks

-- the same of blocks of replies
abbrev pub reply_block_lines : Form → ℕ → List (List ReplyBody) → List ℕ
reply_block_lines told number [] = []
reply_block_lines told number (block ∷ blocks) = block_head told number ++ reply_lines told (Some number) 0 block ++ reply_block_lines told (number + 1) blocks
