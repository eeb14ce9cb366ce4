-- How a day went, as lines: what a total is of, its name, and how often or how much. Each ends at a line feed, 10.
use Rattle.std.specs.Prelude.{ℕ, List, ◌++◌, codes, decimal, string_bytes}
use Rattle.std.specs.List.{flat_map}
use Rattle.day_totals.specs.declared.day_totals.DayTotals.{DayTotals}
use Rattle.day_totals.specs.declared.day_totals.MoneyTotals.{MoneyTotals}
use Rattle.day_totals.specs.declared.day_totals.RequestTotals.{RequestTotals}
use Rattle.day_totals.specs.declared.total.Total.{Total}
use Rattle.day_totals.specs.Meaning.{meaning_of}

-- a total
abbrev pub line : List ℕ → Total → List ℕ
line label t = label ++ string_bytes t.name ++ codes ": " ++ decimal t.sum ++ codes "\n"

-- a total of an action code, with its meaning
abbrev pub action_line : Total → List ℕ
action_line t = codes "replies   " ++ string_bytes t.name ++ codes ": " ++ decimal t.sum ++ codes ", " ++ meaning_of (string_bytes t.name) ++ codes "\n"

abbrev pub lines : List ℕ → List Total → List ℕ
lines label totals = flat_map (line label) totals

abbrev pub action_lines : List Total → List ℕ
action_lines totals = flat_map action_line totals

-- bodies by type, and repeats by type
abbrev pub type_lines : DayTotals → List ℕ
type_lines day = lines (codes "bodies    ") day.types.items ++ lines (codes "repeats   ") day.repeats.items

-- sums of money by currency
abbrev pub money_lines : MoneyTotals → List ℕ
money_lines money = lines (codes "approved  ") money.approved.items ++ (lines (codes "declined  ") money.declined.items ++ lines (codes "reversed  ") money.reversed.items)

-- requests by hour, terminal and card
abbrev pub request_lines : RequestTotals → List ℕ
request_lines requests = lines (codes "hour      ") requests.hours.items ++ (lines (codes "terminal  ") requests.terminals.items ++ lines (codes "card      ") requests.cards.items)

-- all of it
abbrev pub lines_of : DayTotals → List ℕ
lines_of day = type_lines day ++ (action_lines day.actions.items ++ (money_lines day.money ++ request_lines day.requests))
