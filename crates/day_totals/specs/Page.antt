-- How a day went, as a page of HTML. Each text from outside, the name of a total, stands there escaped.
use Rattle.std.specs.Prelude.{ℕ, ◌*◌, ◌/◌, ◌==◌, min, max, if◌then◌else◌, List, ◌++◌, codes, decimal, fold, string_bytes}
use Rattle.std.specs.List.{flat_map}
use Rattle.day_totals.specs.declared.day_totals.DayTotals.{DayTotals}
use Rattle.day_totals.specs.declared.day_totals.MoneyTotals.{MoneyTotals}
use Rattle.day_totals.specs.declared.day_totals.RequestTotals.{RequestTotals}
use Rattle.day_totals.specs.declared.total.Total.{Total}
use Rattle.day_totals.specs.Meaning.{meaning_of}
use Rattle.day_totals.specs.Escaped.{escaped}

-- the greatest of totals, or 0
abbrev pub most_of : List Total → ℕ
most_of totals = fold (λ most t. max most t.sum) 0 totals

-- how wide the bar of a total is, of 300, where the greatest has 300
abbrev pub bar_width : ℕ → ℕ → ℕ
bar_width most sum = if most == 0 then 0 else min (sum * 300 / most) 300

-- ---- cells

abbrev pub text_cell : List ℕ → List ℕ
text_cell text = codes "<td>" ++ (escaped text ++ codes "</td>")

abbrev pub number_cell : ℕ → List ℕ
number_cell number = codes "<td class=\"number\">" ++ decimal number ++ codes "</td>"

abbrev pub bar_cell : ℕ → List ℕ
bar_cell width = codes "<td><svg width=\"300\" height=\"12\" aria-hidden=\"true\"><rect width=\"" ++ decimal width ++ codes "\" height=\"12\"/></svg></td>"

-- ---- rows

abbrev pub row : Total → List ℕ
row t = codes "<tr>" ++ (text_cell (string_bytes t.name) ++ (number_cell t.sum ++ codes "</tr>\n"))

abbrev pub bar_row : ℕ → Total → List ℕ
bar_row most t = codes "<tr>" ++ (text_cell (string_bytes t.name) ++ (number_cell t.sum ++ (bar_cell (bar_width most t.sum) ++ codes "</tr>\n")))

abbrev pub action_row : ℕ → Total → List ℕ
action_row most t =
    codes "<tr>" ++ (text_cell (string_bytes t.name) ++ (number_cell t.sum ++ (bar_cell (bar_width most t.sum) ++ (text_cell (meaning_of (string_bytes t.name)) ++ codes "</tr>\n"))))

abbrev pub rows : List Total → List ℕ
rows totals = flat_map row totals

abbrev pub bar_rows : List Total → List ℕ
bar_rows totals = flat_map (bar_row (most_of totals)) totals

abbrev pub action_rows : List Total → List ℕ
action_rows totals = flat_map (action_row (most_of totals)) totals

-- ---- sections

-- what stands before the sections, and behind them
abbrev pub page_head : List ℕ
page_head = codes "<!DOCTYPE html>\n<html lang=\"en\">\n<head>\n<meta charset=\"utf-8\">\n<meta name=\"viewport\" content=\"width=device-width\">\n<title>Day report</title>\n<style>\n:root { color-scheme: light dark; }\nbody { font: 16px/1.4 sans-serif; margin: 2em auto; max-width: 60em; padding: 0 1em; }\nh2 { font-size: 1em; margin: 1.5em 0 0.5em; }\ntd { padding: 0 1em 0 0; }\n.number { text-align: right; font-variant-numeric: tabular-nums; }\nrect { fill: currentColor; opacity: 0.6; }\nsection { break-inside: avoid; }\n</style>\n</head>\n<body>\n<h1>Day report</h1>\n"

abbrev pub page_foot : List ℕ
page_foot = codes "<p>Amounts are in minor units. From approved requests on, messages that are marked as repeats are left out.</p>\n</body>\n</html>\n"

abbrev pub section_head : List ℕ → List ℕ
section_head title = codes "<section>\n<h2>" ++ title ++ codes "</h2>\n<table>\n"

abbrev pub section : List ℕ → List ℕ → List ℕ
section title body = section_head title ++ (body ++ codes "</table>\n</section>\n")

-- bodies by type, repeats by type, and replies by action code
abbrev pub message_sections : DayTotals → List ℕ
message_sections day =
    section (codes "Bodies by message type") (bar_rows day.types.items)
    ++ (section (codes "Repeats by message type") (bar_rows day.repeats.items)
    ++ section (codes "Replies by action code") (action_rows day.actions.items))

-- sums of money by currency
abbrev pub money_sections : MoneyTotals → List ℕ
money_sections money =
    section (codes "Amounts of approved requests by currency") (rows money.approved.items)
    ++ (section (codes "Amounts of declined requests by currency") (rows money.declined.items)
    ++ section (codes "Amounts given back by reversals, by currency") (rows money.reversed.items))

-- requests by hour, terminal and card
abbrev pub request_sections : RequestTotals → List ℕ
request_sections requests =
    section (codes "Approved requests by hour") (bar_rows requests.hours.items)
    ++ (section (codes "Declined requests by terminal: the ten most") (rows requests.terminals.items)
    ++ section (codes "Declined requests by card: the ten most") (rows requests.cards.items))

-- all of it
abbrev pub page_of : DayTotals → List ℕ
page_of day = page_head ++ (message_sections day ++ (money_sections day.money ++ (request_sections day.requests ++ page_foot)))
