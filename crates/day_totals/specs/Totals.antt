-- All totals of a day.
use Rattle.std.specs.Prelude.{◌≡◌, List, map}
use Rattle.issuer_words.specs.Words.{Frame, ReplyBody}
use Rattle.day_totals.specs.Day.{AreGreatestOf, AreTotals, shown}
use Rattle.day_totals.specs.declared.day_totals.DayTotals.{DayTotals}
use Rattle.day_totals.specs.declared.day_totals.MoneyTotals.{MoneyTotals}
use Rattle.day_totals.specs.declared.day_totals.RequestTotals.{RequestTotals}
use Rattle.day_totals.specs.declared.exchange.Exchange.{Exchange}
use Rattle.day_totals.specs.declared.figure.Figure.TheVariants as figure

-- the day has each body of the batch, with its reply
pub record IsDayOf (frames : List Frame) (replies : List ReplyBody) (day : List Exchange) : Type 0 where
  pub bodies : map (λ e. e.frame) day ≡ frames
  pub answers : map (λ e. e.reply) day ≡ replies

pub record AreMoneyTotals (day : List Exchange) (t : MoneyTotals) : Type 0 where
  pub approved : AreTotals figure.Approved day (shown t.approved.items)
  pub declined : AreTotals figure.Declined day (shown t.declined.items)
  pub reversed : AreTotals figure.Reversed day (shown t.reversed.items)

-- of terminals and cards the ten most
pub record AreRequestTotals (day : List Exchange) (t : RequestTotals) : Type 0 where
  pub hours : AreTotals figure.Hours day (shown t.hours.items)
  pub terminals : AreGreatestOf figure.Terminals day (shown t.terminals.items)
  pub cards : AreGreatestOf figure.Cards day (shown t.cards.items)

pub record AreDayTotals (day : List Exchange) (t : DayTotals) : Type 0 where
  pub types : AreTotals figure.Types day (shown t.types.items)
  pub repeats : AreTotals figure.Repeats day (shown t.repeats.items)
  pub actions : AreTotals figure.Actions day (shown t.actions.items)
  pub money : AreMoneyTotals day t.money
  pub requests : AreRequestTotals day t.requests
