-- Texts of elements as they were cut out of the bytes, before they are values.
use Rattle.std.specs.Prelude.{ℕ, false, not, List, [], ◌∷◌, Some, option_map, Result, Ok, Err, if◌then◌else◌}
use Rattle.iso_codec.specs.declared.texts.Texts.{Texts as TextsRead}
use Rattle.iso8583.specs.declared.codec_fault.CodecFault.{CodecFault}
use Rattle.iso8583.specs.declared.codec_fault.CodecFault.TheVariants.{BadCharacter, BadValue}
use Rattle.iso_laws.specs.declared.element.Element.{Element}
use Rattle.iso_laws.specs.declared.element.Element.TheVariants as element
use Rattle.iso_laws.specs.declared.mti.Mti.{Mti}
use Rattle.iso_laws.specs.declared.mti.Mti.TheVariants as mti
use Rattle.iso_laws.specs.declared.rule.Rule.{Rule}
use Rattle.iso_laws.specs.declared.rule.Rule.TheVariants.{Free, Scope, Verdict}
use Rattle.iso_laws.specs.Elements.{element_number, class_of, is_of_class, has_value, Part, required, optional}
use Rattle.iso_laws.specs.Spelling.{Texts}

-- the test of a text that is as long as its element's: its class, then its value
abbrev pub test_of : Element → List ℕ → Result (Unit {0}) CodecFault
test_of e text =
    if not (is_of_class (class_of e) text) then Err (BadCharacter (element_number e))
    else (if has_value e text then Ok tt else Err (BadValue (element_number e)))

-- the texts that were read
abbrev pub texts_of : TextsRead → Texts
texts_of x element.Pan = Some x.pan.now
texts_of x element.Processing = Some x.processing.now
texts_of x element.Amount = Some x.amount.now
texts_of x element.Transmission = Some x.transmission.now
texts_of x element.Stan = Some x.stan.now
texts_of x element.Stamp = Some x.stamp.now
texts_of x element.Function = option_map (λ t. t.now) x.function
texts_of x element.OriginalAmount = option_map (λ t. t.now) x.original_amount
texts_of x element.Acquirer = Some x.acquirer.now
texts_of x element.Retrieval = option_map (λ t. t.now) x.retrieval
texts_of x element.Approval = option_map (λ t. t.now) x.approval
texts_of x element.Action = option_map (λ t. t.now) x.action
texts_of x element.Terminal = Some x.terminal.now
texts_of x element.Currency = Some x.currency.now
texts_of x element.Original = option_map (λ t. t.now) x.original
texts_of x element.Account = option_map (λ t. t.now) x.account

-- ---- one reader for all types: what a bitmap without fault says is there, is there

-- the rule of element 24: in a reversal it says the scope, elsewhere it is free
abbrev pub function_rule : Mti → Rule
function_rule mti.Reversal = Scope
function_rule mti.ReversalRepeat = Scope
function_rule _ = Free

-- the rule of element 39: in a reply to a request it says the verdict, elsewhere it is free
abbrev pub action_rule : Mti → Rule
action_rule mti.RequestReply = Verdict
action_rule _ = Free

-- the elements of all types for the one reader: those that each type has required, the others optional
abbrev pub read_parts : Mti → List Part
read_parts t =
    required element.Pan ∷ required element.Processing ∷ required element.Amount
    ∷ required element.Transmission ∷ required element.Stan ∷ required element.Stamp
    ∷ (false, element.Function, function_rule t) ∷ optional element.OriginalAmount
    ∷ required element.Acquirer ∷ optional element.Retrieval ∷ optional element.Approval ∷ (false, element.Action, action_rule t)
    ∷ required element.Terminal ∷ required element.Currency ∷ optional element.Original ∷ optional element.Account ∷ []
