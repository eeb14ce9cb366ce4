-- Why a body is decided so, as a line of JSON.
use Rattle.std.specs.Prelude.{ℕ, List, [], ◌∷◌, ◌++◌, Option, map, codes}
use Rattle.iso_shown.specs.declared.card_numbers.CardNumbers.{CardNumbers}
use Rattle.issuer_words.specs.Words.{Frame, Reads, ReplyBody, RowKey, RowVal, Writes}
use Rattle.issuer_laws.specs.declared.decision_rule.DecisionRule.{DecisionRule}
use Rattle.issuer_reasons.specs.declared.explanation.Explanation.{Explanation}
use Rattle.reason_text.specs.Rules.{rule_name, rule_sentence}
use Rattle.serde_json.specs.Data.{Data, array, object, string, Items, no_items, item}
use Rattle.serde_json.specs.Written.{compact_text}
use Rattle.book_laws.specs.Text.{members, numeral}
use Rattle.message_text.specs.Lines.{Member, frame_members, reply_members}
use Rattle.reason_json.specs.Rows.{found_data, row_data}

-- the items of an array
abbrev pub items : List Data → Items
items [] = no_items
items (d ∷ ds) = item d (items ds)

-- a row that was read, as it was found
abbrev pub read_data : CardNumbers → RowKey × Option RowVal → Data
read_data cards read = found_data cards read.0 read.1

-- a row that is written
abbrev pub written_data : CardNumbers → RowKey × RowVal → Data
written_data cards write = row_data cards write.0 write.1

-- the place; the message, or its fault; and the rule, by name and sentence
abbrev pub head_members : CardNumbers → ℕ → Frame → DecisionRule → List Member
head_members cards index frame rule =
    (codes "index", numeral index)
    ∷ (codes "message", object (members (frame_members cards frame)))
    ∷ (codes "rule", string (rule_name rule))
    ∷ (codes "reason", string (rule_sentence rule))
    ∷ []

-- the rows that were read and those that are written, each in their order
abbrev pub row_members : CardNumbers → Reads → Writes → List Member
row_members cards reads writes =
    (codes "read", array (items (map (read_data cards) reads))) ∷ (codes "wrote", array (items (map (written_data cards) writes))) ∷ []

-- the reply
abbrev pub reply_member : CardNumbers → ReplyBody → List Member
reply_member cards reply = (codes "reply", object (members (reply_members cards reply))) ∷ []

-- all of it
abbrev pub why_members : CardNumbers → ℕ → Explanation → List Member
why_members cards index e =
    head_members cards index e.execution.frame e.rule
    ++ (row_members cards e.execution.reads e.execution.writes ++ reply_member cards e.execution.reply)

-- as a line: JSON without spaces, and a line feed
abbrev pub why_line : CardNumbers → ℕ → Explanation → List ℕ
why_line cards index e = compact_text (object (members (why_members cards index e))) ++ codes "\n"
