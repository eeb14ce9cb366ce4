-- How a day went: what is counted and summed over the bodies of a batch and the replies to them.
use Rattle.std.specs.Prelude.{◌≡◌, ℕ, ◌-◌, Bool, true, false, ◌==◌, if◌then◌else◌, List, map, take, drop, sum_by, Option, Some, None, codes, is_some, unwrap_or, option_map, String, string_bytes}
use Rattle.std.specs.BTreeMap.{get_by_text, BTreeMap}
use Rattle.std.specs.Cmp.Lexicographic.{slice_cmp}
use Rattle.std.specs.List.{list_any}
use Rattle.std.specs.List.Sorted.{IsPermutation, IsSortedBy, IsStrictlySortedBy}
use Rattle.std.specs.Map.{keys_of, lookup}
use Rattle.std.specs.Ordering.{is_lt, nat_cmp, ordering_then}
use Rattle.std.specs.declared.cmp.Ordering.{Ordering}
use Rattle.std.specs.Str.{bytes_eq}
use Rattle.issuer_words.specs.Words.{Frame, Message, ReplyBody, Reversal, ReversalScope, Transaction, fixed_digits}
use Rattle.iso8583.specs.declared.answer.Answer.{Answer}
use Rattle.iso8583.specs.declared.answer.Answer.TheVariants as answer
use Rattle.iso8583.specs.declared.message.Message.TheVariants as message
use Rattle.iso8583.specs.declared.reversal_scope.ReversalScope.TheVariants.{Full, Partial}
use Rattle.iso8583.specs.declared.verdict.Verdict.TheVariants as verdict
use Rattle.iso_shown.specs.Masked.{masked}
use Rattle.issuer_rows.specs.declared.frame.Frame.TheVariants.{Good, Bad}
use Rattle.issuer_rows.specs.declared.reply_body.ReplyBody.TheVariants.{Reply, Fault}
use Rattle.day_totals.specs.declared.exchange.Exchange.{Exchange}
use Rattle.day_totals.specs.declared.figure.Figure.{Figure}
use Rattle.day_totals.specs.declared.figure.Figure.TheVariants as figure
use Rattle.day_totals.specs.declared.total.Total.{Total}

-- ---- messages

-- a message's type
abbrev pub type_of : Message → List ℕ
type_of (message.Request r) = if r.repeat then codes "1101" else codes "1100"
type_of (message.Advice a) = if a.repeat then codes "1121" else codes "1120"
type_of (message.Reversal v) = if v.repeat then codes "1421" else codes "1420"

-- whether a message is marked as a repeat
abbrev pub is_repeat : Message → Bool
is_repeat (message.Request r) = r.repeat
is_repeat (message.Advice a) = a.repeat
is_repeat (message.Reversal v) = v.repeat

-- the action code of an answer, element 39
abbrev pub action_of : Answer → ℕ
action_of (answer.Request (verdict.Approved code) account) = 0
action_of (answer.Request (verdict.Declined action) account) = action
action_of (answer.Advice action account) = action
action_of (answer.Reversal action) = action

-- what a reversal takes back: all of the amount, or of the original's amount what is over the amount that stays
abbrev pub taken_back : ReversalScope → ℕ → ℕ
taken_back Full amount = amount
taken_back (Partial original) stays = original - stays

-- the hour of a local time YYMMDDhhmmss
abbrev pub hour_of : List ℕ → List ℕ
hour_of stamp = take 2 (drop 6 stamp)

-- ---- exchanges

-- an answer approves a request
abbrev pub is_approval : Answer → Bool
is_approval (answer.Request (verdict.Approved code) account) = true
is_approval _ = false

-- an answer declines a request
abbrev pub is_decline : Answer → Bool
is_decline (answer.Request (verdict.Declined action) account) = true
is_decline _ = false

-- an answer says that a reversal is done: action code 400
abbrev pub is_reversed : Answer → Bool
is_reversed (answer.Reversal action) = action == 400
is_reversed _ = false

-- the reply is one whose answer is such
abbrev pub has_answer : (Answer → Bool) → ReplyBody → Bool
has_answer is_such (Reply reply) = is_such reply.answer
has_answer is_such (Fault fault) = false

-- the request that the body is, unless it is marked as a repeat
abbrev pub request_in : Frame → Option Transaction
request_in (Good (message.Request r)) = if r.repeat then None else Some r.transaction
request_in _ = None

-- the reversal that the body is, unless it is marked as a repeat
abbrev pub reversal_in : Frame → Option Reversal
reversal_in (Good (message.Reversal v)) = if v.repeat then None else Some v
reversal_in _ = None

-- the request of an exchange that was answered so
abbrev pub request_answered : (Answer → Bool) → Exchange → Option Transaction
request_answered is_such e = if has_answer is_such e.reply then request_in e.frame else None

-- the reversal of an exchange that was done
abbrev pub reversal_done : Exchange → Option Reversal
reversal_done e = if has_answer is_reversed e.reply then reversal_in e.frame else None

-- ---- what an exchange adds, under which name

-- once
abbrev pub once : List ℕ → List ℕ × ℕ
once name = (name, 1)

-- its amount, under its currency
abbrev pub money : Transaction → List ℕ × ℕ
money t = (t.currency.0, t.amount)

-- what it takes back, under its currency
abbrev pub money_back : Reversal → List ℕ × ℕ
money_back v = (v.transaction.currency.0, taken_back v.scope v.transaction.amount)

-- a body, under its type
abbrev pub type_entry : Frame → List ℕ × ℕ
type_entry (Good m) = once (type_of m)
type_entry (Bad fault) = once (codes "no message")

-- a repeat, under its type
abbrev pub repeat_entry : Frame → Option (List ℕ × ℕ)
repeat_entry (Good m) = if is_repeat m then Some (once (type_of m)) else None
repeat_entry (Bad fault) = None

-- a reply, under its action code
abbrev pub action_entry : ReplyBody → Option (List ℕ × ℕ)
action_entry (Reply reply) = Some (once (fixed_digits 3 (action_of reply.answer)))
action_entry (Fault fault) = None

-- what an exchange adds to a figure, if anything
abbrev pub entry : Figure → Exchange → Option (List ℕ × ℕ)
entry figure.Types e = Some (type_entry e.frame)
entry figure.Repeats e = repeat_entry e.frame
entry figure.Actions e = action_entry e.reply
entry figure.Approved e = option_map money (request_answered is_approval e)
entry figure.Declined e = option_map money (request_answered is_decline e)
entry figure.Reversed e = option_map money_back (reversal_done e)
entry figure.Hours e = option_map (λ t. once (hour_of t.stamp)) (request_answered is_approval e)
entry figure.Terminals e = option_map (λ t. once t.terminal.0) (request_answered is_decline e)
entry figure.Cards e = option_map (λ t. once (masked t.pan.0)) (request_answered is_decline e)

-- ---- totals

-- whether something is added under this name
abbrev pub is_under : List ℕ → Option (List ℕ × ℕ) → Bool
is_under name None = false
is_under name (Some added) = bytes_eq name added.0

-- how much is added under this name
abbrev pub under : List ℕ → Option (List ℕ × ℕ) → ℕ
under name None = 0
under name (Some added) = if bytes_eq name added.0 then added.1 else 0

-- a figure's total under a name over a day
abbrev pub total : Figure → List Exchange → List ℕ → ℕ
total f day name = sum_by (λ e. under name (entry f e)) day

-- whether anything of a day is under a name
abbrev pub is_named : Figure → List Exchange → List ℕ → Bool
is_named f day name = list_any (λ e. is_under name (entry f e)) day

-- totals as pairs of a name and a sum
abbrev pub shown : List Total → List (List ℕ × ℕ)
shown totals = map (λ t. (string_bytes t.name, t.sum)) totals

-- The totals of a figure over a day: the names are those under which something is counted, in their order, each once, and each has the
-- sum of what is.
pub record AreTotals (f : Figure) (day : List Exchange) (totals : List (List ℕ × ℕ)) : Type 0 where
  pub sums : (name : List ℕ) → unwrap_or (lookup (bytes_eq name) totals) 0 ≡ total f day name
  pub names : (name : List ℕ) → is_some (lookup (bytes_eq name) totals) ≡ is_named f day name
  pub order : IsStrictlySortedBy (slice_cmp nat_cmp) (keys_of totals)

-- the same of a map
pub record AreTallied {Y : Type 0} (f : Figure) (day : List Exchange) (tally : BTreeMap (String Y) ℕ) : Type 0 where
  pub sums : (name : List ℕ) → unwrap_or (get_by_text tally name) 0 ≡ total f day name
  pub names : (name : List ℕ) → is_some (get_by_text tally name) ≡ is_named f day name

-- ---- the greatest totals

-- the greater total comes first, and of equal ones the one whose name comes first
abbrev pub rank : List ℕ × ℕ → List ℕ × ℕ → Ordering
rank t u = ordering_then (nat_cmp u.1 t.1) (slice_cmp nat_cmp t.0 u.0)

-- the ten greatest of these totals, or all where there are no more, in the order of their rank
pub record AreGreatest (totals greatest : List (List ℕ × ℕ)) : Type 0 where
  pub ranked : List (List ℕ × ℕ)
  pub same : IsPermutation totals ranked
  pub order : IsSortedBy (λ t u. is_lt (rank t u)) ranked
  pub front : greatest ≡ take 10 ranked

-- the same of the totals of a figure over a day
abbrev pub AreGreatestOf : Figure → List Exchange → List (List ℕ × ℕ) → Type 0
AreGreatestOf f day greatest = (totals : List (List ℕ × ℕ)) × AreTotals f day totals × AreGreatest totals greatest
