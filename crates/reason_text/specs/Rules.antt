-- Decision rules in words: the name of each, and one sentence.
use Rattle.std.specs.Prelude.{ℕ, Bool, true, false, List, ◌++◌, codes}
use Rattle.issuer_laws.specs.declared.decision_rule.DecisionRule.{DecisionRule}

-- the name
abbrev pub rule_name : DecisionRule → List ℕ
rule_name DecisionRule.NoMessage = codes "NoMessage"
rule_name DecisionRule.ReversedAhead = codes "ReversedAhead"
rule_name DecisionRule.MarkOfAnother = codes "MarkOfAnother"
rule_name DecisionRule.Repeat = codes "Repeat"
rule_name DecisionRule.Duplicate = codes "Duplicate"
rule_name DecisionRule.NotPermitted = codes "NotPermitted"
rule_name DecisionRule.NoAmount = codes "NoAmount"
rule_name DecisionRule.WrongCardNumber = codes "WrongCardNumber"
rule_name DecisionRule.NotApproved = codes "NotApproved"
rule_name DecisionRule.NoCard = codes "NoCard"
rule_name DecisionRule.CardBlocked = codes "CardBlocked"
rule_name DecisionRule.CardLost = codes "CardLost"
rule_name DecisionRule.CardStolen = codes "CardStolen"
rule_name DecisionRule.CardExpired = codes "CardExpired"
rule_name DecisionRule.NotOfCard = codes "NotOfCard"
rule_name DecisionRule.NoAccount = codes "NoAccount"
rule_name DecisionRule.OtherCurrency = codes "OtherCurrency"
rule_name DecisionRule.TooManyApprovals = codes "TooManyApprovals"
rule_name DecisionRule.TooMuchMoney = codes "TooMuchMoney"
rule_name DecisionRule.ApprovalsExhausted = codes "ApprovalsExhausted"
rule_name DecisionRule.BudgetRefuses = codes "BudgetRefuses"
rule_name DecisionRule.BudgetPays = codes "BudgetPays"
rule_name DecisionRule.NotSufficientFunds = codes "NotSufficientFunds"
rule_name DecisionRule.AccountPays = codes "AccountPays"
rule_name DecisionRule.NoOriginal = codes "NoOriginal"
rule_name DecisionRule.MarkedBefore = codes "MarkedBefore"
rule_name DecisionRule.OtherOriginal = codes "OtherOriginal"
rule_name DecisionRule.ReversalRepeat = codes "ReversalRepeat"
rule_name DecisionRule.ReversedBefore = codes "ReversedBefore"
rule_name DecisionRule.NotPosted = codes "NotPosted"
rule_name DecisionRule.WrongPart = codes "WrongPart"
rule_name DecisionRule.NoPayer = codes "NoPayer"
rule_name DecisionRule.NoDay = codes "NoDay"
rule_name DecisionRule.BalanceTooGreat = codes "BalanceTooGreat"
rule_name DecisionRule.DayTooShort = codes "DayTooShort"
rule_name DecisionRule.GivenBack = codes "GivenBack"

-- the sentence
abbrev pub rule_sentence : DecisionRule → List ℕ
rule_sentence DecisionRule.NoMessage = codes "the body is no message"
rule_sentence DecisionRule.ReversedAhead = codes "a reversal of this message came ahead of it"
rule_sentence DecisionRule.MarkOfAnother = codes "the reversal of another message stands at its identity"
rule_sentence DecisionRule.Repeat = codes "it repeats the message that is kept, whose answer it gets"
rule_sentence DecisionRule.Duplicate = codes "another message of its identity is kept"
rule_sentence DecisionRule.NotPermitted = codes "it is neither a purchase nor a withdrawal"
rule_sentence DecisionRule.NoAmount = codes "the amount is 0"
rule_sentence DecisionRule.WrongCardNumber = codes "the card number fails the Luhn test"
rule_sentence DecisionRule.NotApproved = codes "the acquirer didn't approve"
rule_sentence DecisionRule.NoCard = codes "there is no record of the card"
rule_sentence DecisionRule.CardBlocked = codes "the card is blocked"
rule_sentence DecisionRule.CardLost = codes "the card is lost"
rule_sentence DecisionRule.CardStolen = codes "the card is stolen"
rule_sentence DecisionRule.CardExpired = codes "the card's last month is over"
rule_sentence DecisionRule.NotOfCard = codes "the account that is named is not the card's"
rule_sentence DecisionRule.NoAccount = codes "there is no record of the account"
rule_sentence DecisionRule.OtherCurrency = codes "the account is in another currency"
rule_sentence DecisionRule.TooManyApprovals = codes "one approval too many on that day"
rule_sentence DecisionRule.TooMuchMoney = codes "too much money on that day"
rule_sentence DecisionRule.ApprovalsExhausted = codes "the card's approvals are at their greatest"
rule_sentence DecisionRule.BudgetRefuses = codes "the budget stands in, and can't pay"
rule_sentence DecisionRule.BudgetPays = codes "the budget stands in, and pays"
rule_sentence DecisionRule.NotSufficientFunds = codes "less is available than the amount"
rule_sentence DecisionRule.AccountPays = codes "the account pays"
rule_sentence DecisionRule.NoOriginal = codes "nothing stands at the identity of the original"
rule_sentence DecisionRule.MarkedBefore = codes "a mark stands at the identity of the original"
rule_sentence DecisionRule.OtherOriginal = codes "the original is of another card or kind"
rule_sentence DecisionRule.ReversalRepeat = codes "it repeats the reversal that the original has"
rule_sentence DecisionRule.ReversedBefore = codes "the original has another reversal"
rule_sentence DecisionRule.NotPosted = codes "the original wasn't posted"
rule_sentence DecisionRule.WrongPart = codes "the part isn't one of the original's amount"
rule_sentence DecisionRule.NoPayer = codes "there is no record of what paid"
rule_sentence DecisionRule.NoDay = codes "there is no record of the original's day"
rule_sentence DecisionRule.BalanceTooGreat = codes "what paid would have more than it may"
rule_sentence DecisionRule.DayTooShort = codes "the original's day has less than is given back"
rule_sentence DecisionRule.GivenBack = codes "the money goes back"

-- a rule of reversals alone
abbrev pub is_of_reversals : DecisionRule → Bool
is_of_reversals DecisionRule.NoOriginal = true
is_of_reversals DecisionRule.MarkedBefore = true
is_of_reversals DecisionRule.OtherOriginal = true
is_of_reversals DecisionRule.ReversalRepeat = true
is_of_reversals DecisionRule.ReversedBefore = true
is_of_reversals DecisionRule.NotPosted = true
is_of_reversals DecisionRule.WrongPart = true
is_of_reversals DecisionRule.NoPayer = true
is_of_reversals DecisionRule.NoDay = true
is_of_reversals DecisionRule.BalanceTooGreat = true
is_of_reversals DecisionRule.DayTooShort = true
is_of_reversals DecisionRule.GivenBack = true
is_of_reversals _ = false

-- both
abbrev pub rule_words : DecisionRule → List ℕ
rule_words rule = rule_name rule ++ codes ": " ++ rule_sentence rule
