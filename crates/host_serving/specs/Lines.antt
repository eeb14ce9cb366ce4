-- What a live host tells of an entry, as lines.
use Rattle.std.specs.Prelude.{ℕ, ◌/◌, nat_lt, if◌then◌else◌, Bool, List, [], ◌∷◌, ◌++◌, Option, Some, None, codes, decimal}
use Rattle.issuer_words.specs.Words.{CodecFault, Frame, fault_body}
use Rattle.issuer_rows.specs.declared.frame.Frame.TheVariants.{Good, Bad}
use Rattle.host_serving.specs.Tally.{counted, counted_one}
use Rattle.host_serving.specs.declared.tally.Tally.{Tally}

-- the number of a body, and the fault that makes it no message
abbrev pub unreadable_line : ℕ → CodecFault → List ℕ
unreadable_line number fault = codes "unreadable " ++ decimal number ++ codes " " ++ fault_body fault ++ codes "\n"

-- the same, where it is no message
abbrev pub unreadable_line_of : ℕ → Frame → List ℕ
unreadable_line_of number (Good message) = []
unreadable_line_of number (Bad fault) = unreadable_line number fault

-- A line for each body that is no message, in order. Bodies are numbered from 0 on, as they came: so many came before these.
abbrev pub unreadable_lines : Tally → List Frame → List ℕ
unreadable_lines before [] = []
unreadable_lines before (frame ∷ frames) = unreadable_line_of before.bodies frame ++ unreadable_lines (counted_one before frame) frames

-- how many bodies came, how many of them are no message, and how many entries the log has
abbrev pub stats_line : Tally → ℕ → List ℕ
stats_line tally entries = codes "decided " ++ decimal tally.bodies ++ codes ", " ++ decimal tally.unreadable ++ codes " unreadable, " ++ decimal entries ++ codes " entries\n"

-- a multiple of so many bodies was reached
abbrev pub is_due : ℕ → ℕ → ℕ → Bool
is_due every before after = nat_lt (before / every) (after / every)

-- the line, where one is asked for after so many bodies and is due
abbrev pub stats_lines : Option ℕ → Tally → Tally → ℕ → List ℕ
stats_lines None before after entries = []
stats_lines (Some every) before after entries = if is_due every before.bodies after.bodies then stats_line after entries else []

-- what is told of an entry of these messages: so much was counted before them, and the log has so many entries with it
abbrev pub entry_lines : Option ℕ → Tally → List Frame → ℕ → List ℕ
entry_lines stats before messages entries = unreadable_lines before messages ++ stats_lines stats before (counted before messages) entries
