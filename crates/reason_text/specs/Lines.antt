-- Why a body is decided so, as lines. Each ends at a line feed, 10.
use Rattle.std.specs.Prelude.{ℕ, List, ◌++◌, Option, codes, decimal}
use Rattle.std.specs.List.{flat_map}
use Rattle.issuer_words.specs.Words.{Reads, RowKey, RowVal, Writes}
use Rattle.issuer_reasons.specs.declared.explanation.Explanation.{Explanation}
use Rattle.reason_text.specs.Rules.{rule_words}
use Rattle.reason_text.specs.Words.{found_words, frame_words, key_words, reply_words, row_words}

-- a row that was read
abbrev pub read_line : RowKey × Option RowVal → List ℕ
read_line read = codes "read     " ++ key_words read.0 ++ codes ": " ++ found_words read.1 ++ codes "\n"

-- a row that is written
abbrev pub written_line : RowKey × RowVal → List ℕ
written_line write = codes "wrote    " ++ key_words write.0 ++ codes ": " ++ row_words write.1 ++ codes "\n"

-- the rows, in their order
abbrev pub read_lines : Reads → List ℕ
read_lines reads = flat_map read_line reads

abbrev pub written_lines : Writes → List ℕ
written_lines writes = flat_map written_line writes

-- the message of this number of its batch, and its rule
abbrev pub head_lines : ℕ → Explanation → List ℕ
head_lines index e =
    codes "message  " ++ decimal index ++ codes ": " ++ frame_words e.execution.frame ++ codes "\nrule     " ++ rule_words e.rule ++ codes "\n"

-- the reply
abbrev pub reply_line : Explanation → List ℕ
reply_line e = codes "reply    " ++ reply_words e.execution.reply ++ codes "\n"

-- all of it: the message, its rule, the rows that were read, those that are written, and the reply
abbrev pub lines_of : ℕ → Explanation → List ℕ
lines_of index e = head_lines index e ++ (read_lines e.execution.reads ++ (written_lines e.execution.writes ++ reply_line e))
