-- Values and members of elements.
use Rattle.std.proofs.Common.{◌≡◌, ℕ, ◌<◌, ◌^◌, false, List, [], ◌∷◌, ◌++◌, Option, Some, None, refl, sym, ap, ◌∙◌, append_assoc, take, drop, length, subst, arith}
use Rattle.std.specs.Prelude.{option_map, Result, IfOk, codes}
use Rattle.std.specs.Global.{Vec}
use Rattle.std.proofs.lemmas.List.{take_at, length-append}
use Rattle.issuer_words.specs.Words.{OriginalRef, fixed_digits, number_of}
use Rattle.iso8583.proofs.NumberLaws.{length-fixed_digits, number_of-fixed_digits}
use Rattle.iso_laws.specs.Elements.{original_text, original_type, twelve_zeros}
use Rattle.iso_laws.proofs.Originals.{cut-acquirer, length-original_type}
use Rattle.iso_laws.specs.Spelling.{Field, Texts, fields_among, with_field}
use Rattle.iso_laws.specs.declared.element.Element.{Element}
use Rattle.json.specs.Token.{Token, begin_object, end_object, key}
use Rattle.json.specs.Tree.{members_tokens}
use Rattle.serde_json.specs.Data.{Data, object}
use Rattle.serde_json.specs.Written.{compact_text, members_outline}
use Rattle.book_laws.proofs.WrittenTokens.{printed}
use Rattle.book_laws.specs.Text.{Adds, JsonText, members, numeral, tokens_of}
use Rattle.message_text.specs.Lines.{Member, all_tokens, element_tokens, elements_tokens, member_tokens}
use Rattle.message_text.specs.Values.{value_of, without_length}
use Rattle.iso_shown.specs.declared.card_numbers.CardNumbers.{CardNumbers}

-- the number of an amount's digits
pub amount_again : (minor amount : ℕ) → minor ≡ amount → minor < 10 ^ 12 → Some (numeral minor) ≡ Some (numeral (number_of (fixed_digits 12 amount)))
amount_again minor amount is fits =
    ap (λ (n : ℕ). Some (numeral n)) (sym (number_of-fixed_digits 12 minor fits) ∙ ap (λ (n : ℕ). number_of (fixed_digits 12 n)) is)

-- the first of the two amounts of element 30
pub first_amount_again : (minor amount : ℕ) → minor ≡ amount → minor < 10 ^ 12
    → Some (numeral minor) ≡ Some (numeral (number_of (take 12 (fixed_digits 12 amount ++ twelve_zeros))))
first_amount_again minor amount is fits =
    amount_again minor amount is fits
    ∙ ap (λ (digits : List ℕ). Some (numeral (number_of digits))) (sym (take_at (fixed_digits 12 amount) twelve_zeros 12 (length-fixed_digits 12 amount)))

-- an element in front of others
in_front : (cards : CardNumbers) (e : Element) (text : Option (List ℕ)) (fs : List Field)
    → elements_tokens cards (with_field e text fs) ≡ element_tokens e (option_map (value_of cards e) text) ++ elements_tokens cards fs
in_front cards e None fs = refl
in_front cards e (Some text) fs = refl

-- the tokens of the next element, and of those behind it
pub next_element : (cards : CardNumbers) (texts : Texts) (e : Element) (rest more : List Element) (value : Option Data) → rest ≡ e ∷ more
    → value ≡ option_map (value_of cards e) (texts e)
    → element_tokens e value ++ elements_tokens cards (fields_among more texts) ≡ elements_tokens cards (fields_among rest texts)
next_element cards texts e rest more value are is =
    ap (λ (v : Option Data). element_tokens e v ++ elements_tokens cards (fields_among more texts)) is
    ∙ sym (in_front cards e (texts e) (fields_among more texts))
    ∙ ap (λ (es : List Element). elements_tokens cards (fields_among es texts)) (sym are)

-- ---- objects

pub all_append : (ps ms : List Member) → all_tokens (ps ++ ms) ≡ all_tokens ps ++ all_tokens ms
all_append [] ms = refl
all_append (p ∷ ps) ms =
    ap (λ (ts : List Token). member_tokens p ++ ts) (all_append ps ms) ∙ sym (append_assoc (member_tokens p) (all_tokens ps) (all_tokens ms))

-- the tokens of members, and the closing brace
pub members_are : (ms : List Member) → members_tokens (members_outline (members ms)) ≡ all_tokens ms ++ end_object ∷ []
members_are [] = refl
members_are (m ∷ ms) =
    ap (λ (ts : List Token). key m.0 ∷ (tokens_of m.1 ++ ts)) (members_are ms)
    ∙ ap (λ (ts : List Token). key m.0 ∷ ts) (sym (append_assoc (tokens_of m.1) (all_tokens ms) (end_object ∷ [])))

-- the tokens of an object whose members are written one behind another
object_tokens : (ps ms : List Member) → begin_object ∷ (all_tokens ps ++ (all_tokens ms ++ end_object ∷ [])) ≡ tokens_of (object (members (ps ++ ms)))
object_tokens ps ms =
    ap (λ (ts : List Token). begin_object ∷ ts)
    (sym (append_assoc (all_tokens ps) (all_tokens ms) (end_object ∷ [])) ∙ ap (λ (ts : List Token). ts ++ end_object ∷ []) (sym (all_append ps ms))
    ∙ sym (members_are (ps ++ ms)))

-- the line of an object that was written into nothing
pub line_of : {E : Type 0} {before after : JsonText} (r : Result (Vec ℕ) E) (ps ms : List Member)
    → Adds before after (begin_object ∷ (all_tokens ps ++ (all_tokens ms ++ end_object ∷ []))) → before ≡ record { text = []; after_value = false }
    → IfOk r (λ line. line.items ≡ after.text ++ codes "\n") → IfOk r (λ line. line.items ≡ compact_text (object (members (ps ++ ms))) ++ codes "\n")
line_of {before = before} {after = after} r ps ms adds none h =
    let whole = subst (λ (ts : List Token). Adds before after ts) (object_tokens ps ms) adds in
    subst (λ (text : List ℕ). IfOk r (λ line. line.items ≡ text ++ codes "\n")) (printed after.text (object (members (ps ++ ms))) refl whole none) h

-- ---- element 56

-- the text of what a reversal takes back, without the fourth of its five pieces
pub written_original : (a b c d e : List ℕ) → length a ≡ 4 → length b ≡ 6 → length c ≡ 12 → length d ≡ 2 → without_length (a ++ b ++ c ++ d ++ e) ≡ a ++ b ++ c ++ e
written_original a b c d e la lb lc ld =
    let grouped : (((a ++ b) ++ c) ++ d) ++ e ≡ ((a ++ b) ++ c) ++ (d ++ e) = simp append_assoc in
    let front : take 22 ((((a ++ b) ++ c) ++ d) ++ e) ≡ (a ++ b) ++ c =
    ap (take 22) grouped ∙ take_at ((a ++ b) ++ c) (d ++ e) 22 (omega (arith, length-append a b, length-append (a ++ b) c)) in
    ap (λ (l : List ℕ). l ++ drop 24 ((((a ++ b) ++ c) ++ d) ++ e)) front ∙ ap (λ (l : List ℕ). ((a ++ b) ++ c) ++ l) (cut-acquirer a b c d e la lb lc ld)

pub original_written : (o : OriginalRef) → length o.identity.stan.0 ≡ 6 → length o.identity.stamp ≡ 12
    → without_length (original_text o) ≡ original_type o.kind o.repeat ++ (o.identity.stan.0 ++ (o.identity.stamp ++ o.identity.acquirer.0))
unfolding original_text
original_written o stan stamp =
    written_original (original_type o.kind o.repeat) o.identity.stan.0 o.identity.stamp (fixed_digits 2 (length o.identity.acquirer.0)) o.identity.acquirer.0
    (length-original_type o.kind o.repeat) stan stamp (length-fixed_digits 2 (length o.identity.acquirer.0)) ∙ simp append_assoc
