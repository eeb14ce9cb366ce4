-- A batch that is sent once more.
use Rattle.std.specs.Prelude.{◌≡◌, Bool, true, false, List, [], ◌∷◌, map}
use Rattle.std.specs.List.{AllByRecursion}
use Rattle.issuer_words.specs.Words.{Frame, Message, Reversal, Rows, rows_after, rows_after_one}
use Rattle.issuer_laws.specs.Messages.{request_frame, advice_frame, reversal_frame}
use Rattle.issuer_laws.specs.Repeated.{repeat_of_request, repeat_of_advice}
use Rattle.issuer_laws.specs.Rules.{decided_by}
use Rattle.issuer_laws.specs.declared.decision_rule.DecisionRule.{DecisionRule}

-- the reversal's repeat, 1421
abbrev pub repeat_of_reversal : Reversal → Reversal
repeat_of_reversal v = record v { repeat = true }

-- a request as its repeat, 1101, an advice as its repeat, 1121, and a reversal as its repeat, 1421
abbrev pub again : Frame → Frame
again (Frame.Good (Message.Request r)) = request_frame (repeat_of_request r)
again (Frame.Good (Message.Advice a)) = advice_frame (repeat_of_advice a)
again (Frame.Good (Message.Reversal v)) = reversal_frame (repeat_of_reversal v)
again (Frame.Bad fault) = Frame.Bad fault

-- no reversal
abbrev pub IsNoReversal : Frame → Type 0
IsNoReversal (Frame.Good (Message.Request r)) = Unit {0}
IsNoReversal (Frame.Good (Message.Advice a)) = Unit {0}
IsNoReversal (Frame.Good (Message.Reversal v)) = ⊥
IsNoReversal (Frame.Bad fault) = Unit {0}

-- a batch that is sent once more as repeats writes nothing
abbrev pub WritesNothingAgain : Rows → List Frame → Type 0
WritesNothingAgain rows frames = rows_after (rows_after rows frames) (map again frames) ≡ rows_after rows frames

-- a reversal is refused by this rule, and may be done later: what paid or the original's day has no row (914), or one has too much or too
-- little (909)
abbrev pub is_for_now : DecisionRule → Bool
is_for_now DecisionRule.NoPayer = true
is_for_now DecisionRule.NoDay = true
is_for_now DecisionRule.BalanceTooGreat = true
is_for_now DecisionRule.DayTooShort = true
is_for_now _ = false

-- none of the bodies, one after another, is refused so
abbrev pub NoneForNow : Rows → List Frame → Type 0
NoneForNow rows [] = Unit {0}
NoneForNow rows (frame ∷ frames) = (is_for_now (decided_by rows frame) ≡ false) × NoneForNow (rows_after_one rows frame) frames

-- a batch without reversals
abbrev pub RequestsWriteNothingAgain : Rows → List Frame → Type 0
RequestsWriteNothingAgain rows frames = AllByRecursion IsNoReversal frames → WritesNothingAgain rows frames

-- a batch of which no reversal was refused for now
abbrev pub ReversalsWriteNothingAgain : Rows → List Frame → Type 0
ReversalsWriteNothingAgain rows frames = NoneForNow rows frames → WritesNothingAgain rows frames
