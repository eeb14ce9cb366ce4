-- Rules by what was asked already.
use Rattle.std.specs.Prelude.{ℕ, drop}
use Rattle.issuer_words.specs.Words.{Advice, Request, Reversal}
use Rattle.issuer_laws.specs.Rules.{Facts, ReversalFacts, advice_conditions, first_of, request_conditions, reversal_conditions}
use Rattle.issuer_laws.specs.declared.decision_rule.DecisionRule.{DecisionRule}

-- the rule of a request of which none of the first so many conditions holds
abbrev pub request_rule_behind : ℕ → Request → Facts → DecisionRule
request_rule_behind asked r f = first_of (drop asked (request_conditions r f)) DecisionRule.AccountPays

-- the same of an advice
abbrev pub advice_rule_behind : ℕ → Advice → Facts → DecisionRule
advice_rule_behind asked a f = first_of (drop asked (advice_conditions a f)) DecisionRule.NotSufficientFunds

-- the same of a reversal
abbrev pub reversal_rule_behind : ℕ → Reversal → ReversalFacts → DecisionRule
reversal_rule_behind asked v f = first_of (drop asked (reversal_conditions v f)) DecisionRule.GivenBack
