-- What a text was made of: each text of a key or an event gives it back, so no two have one.
use Rattle.std.proofs.Common.{◌≡◌, ℕ, zero, suc, ◌<◌, ◌≤◌, ◌^◌, ◌==◌, false, cond, List, [], ◌∷◌, ◌++◌, slice_index, refl, sym, ap, ◌∙◌, arith}
use Rattle.std.specs.Prelude.{nat_le}
use Rattle.std.specs.Fmt.{decimal}
use Rattle.std.specs.Str.Parse.{digits_value}
use Rattle.std.specs.Result.{result_unwrap_or}
use Rattle.std.proofs.lemmas.Bool.{and_parts, leb-true}
use Rattle.std.proofs.lemmas.Fmt.{decimal_is_IsNumeral}
use Rattle.hex.specs.Hex.{IsBytes, encode_lower, decode_of}
use Rattle.hex.proofs.HexLemmas.{decode_of-encode_lower}
use Rattle.issuer_words.specs.Words.{IsPrintable, RowKey}
use Rattle.stm_memory.specs.declared.version.Version.{Version}
use Rattle.issuer_rows.specs.declared.row_key.RowKey.TheVariants as key
use Rattle.stm_journal_text.specs.Marks.{Lacks}
use Rattle.stm_journal_text.specs.Texts.{IsEvent, IsKey, IsVersion, event_text, key_text, version_text}
use Rattle.stm_journal_text.specs.declared.event.Event.{Event}
use Rattle.stm_journal_text.specs.declared.event.Event.TheVariants as event
use Rattle.std.specs.Char.{is_ascii_digit}
use Rattle.stm_journal_text.proofs.Marks.{before, after, before_parts, after_parts, digits_lack, decimal_lacks, lacks_parts}

-- numbers and versions

abbrev pub number_back : List ℕ → ℕ
number_back text = digits_value 10 text

pub number_back_is : (n : ℕ) → n < 2 ^ 32 → number_back (decimal n) ≡ n
number_back_is n h = (decimal_is_IsNumeral n (omega arith)).1

abbrev pub version_back : List ℕ → Version
version_back text = record { index = number_back (before 46 text); incarnation = number_back (after 46 text) }

pub version_back_is : (v : Version) → IsVersion v → version_back (version_text v) ≡ v
version_back_is v h =
    let lacks = decimal_lacks 46 v.index refl h.index in
    let index = ap number_back (before_parts 46 (decimal v.index) (decimal v.incarnation) lacks) ∙ number_back_is v.index h.index in
    let incarnation = ap number_back (after_parts 46 (decimal v.index) (decimal v.incarnation) lacks) ∙ number_back_is v.incarnation h.incarnation in
    λ i. record { index = index i; incarnation = incarnation i }

-- names of accounts

pub printable_bytes : (text : List ℕ) → IsPrintable text → IsBytes text
printable_bytes [] h i = omega arith
printable_bytes (c ∷ cs) h zero =
    let parts = and_parts (nat_le 32 c) (nat_le c 126) (and_parts _ _ h).0 in
    let at_most : c ≤ 126 = leb-true c 126 parts.1 in
    omega arith
printable_bytes (c ∷ cs) h (suc i) = printable_bytes cs (and_parts _ _ h).1 i

abbrev pub name_back : List ℕ → List ℕ
name_back text = result_unwrap_or (decode_of text) []

pub name_back_is : (name : List ℕ) → IsPrintable name → name_back (encode_lower name) ≡ name
name_back_is name h = ap (λ r. result_unwrap_or r []) (decode_of-encode_lower name (printable_bytes name h))

-- keys

abbrev pub key_of_kind : ℕ → List ℕ → RowKey
key_of_kind first rest =
    cond (first == 99) (key.Card (record { 0 = rest }))
    (cond (first == 100) (key.Velocity (record { 0 = before 58 rest }) (after 58 rest))
    (cond (first == 98) (key.Budget (record { 0 = rest }))
    (cond (first == 111) (key.Original (record {
      acquirer = record { 0 = before 58 rest };
      stan = record { 0 = before 58 (after 58 rest) };
      stamp = after 58 (after 58 rest);
    }))
    (key.Account (record { 0 = name_back rest })))))

-- the first letter determines the kind
abbrev pub key_back : List ℕ → RowKey
key_back text = key_of_kind (slice_index text 0) (after 58 text)

pub key_back_is : (k : RowKey) → IsKey k → key_back (key_text k) ≡ k
key_back_is (key.Card pan) h = refl
key_back_is (key.Velocity pan day) h =
    let lacks = digits_lack 58 pan.0 refl h.0.2 in
    let first = before_parts 58 pan.0 day lacks in
    let second = after_parts 58 pan.0 day lacks in
    λ i. key.Velocity (record { 0 = first i }) (second i)
key_back_is (key.Budget prefix) h = refl
key_back_is (key.Original o) h =
    let lacks = digits_lack 58 o.acquirer.0 refl h.acquirer.2 in
    let lacks_too = digits_lack 58 o.stan.0 refl h.stan in
    let acquirer = before_parts 58 o.acquirer.0 (o.stan.0 ++ 58 ∷ o.stamp) lacks in
    let others = after_parts 58 o.acquirer.0 (o.stan.0 ++ 58 ∷ o.stamp) lacks in
    let stan = ap (before 58) others ∙ before_parts 58 o.stan.0 o.stamp lacks_too in
    let stamp = ap (after 58) others ∙ after_parts 58 o.stan.0 o.stamp lacks_too in
    λ i. key.Original (record { acquirer = record { 0 = acquirer i }; stan = record { 0 = stan i }; stamp = stamp i })
key_back_is (key.Account id) h =
    let name = name_back_is id.0 h.2 in
    λ i. key.Account (record { 0 = name i })

pub keys_apart : (a b : RowKey) → IsKey a → IsKey b → key_text a ≡ key_text b → a ≡ b
keys_apart a b h k same = sym (key_back_is a h) ∙ ap key_back same ∙ key_back_is b k

-- events

abbrev pub event_of_letter : ℕ → List ℕ → Event
event_of_letter first rest =
    cond (first == 110) event.Claim
    (cond (first == 114) (event.Read (version_back (before 32 rest)) (key_back (after 32 rest)))
    (cond (first == 98) (event.Block (version_back (before 32 rest)) (number_back (after 32 rest)))
    (cond (first == 102) (event.Finish (version_back rest))
    (cond (first == 99) (event.BeginValidation (version_back rest))
    (cond (first == 111) event.ValidateOne
    (cond (first == 101) event.EndValidation
    event.Commit))))))

-- the letter determines what is done
abbrev pub event_back : List ℕ → Event
event_back text = event_of_letter (slice_index text 0) (after 32 text)

pub version_lacks : (mark : ℕ) (v : Version) → is_ascii_digit mark ≡ false → (46 == mark) ≡ false → IsVersion v → Lacks mark (version_text v)
version_lacks mark v not_of other h =
    lacks_parts mark 46 (decimal v.index) (decimal v.incarnation) other (decimal_lacks mark v.index not_of h.index) (decimal_lacks mark v.incarnation not_of h.incarnation)

pub event_back_is : (e : Event) → IsEvent e → event_back (event_text e) ≡ e
event_back_is event.Claim h = refl
event_back_is (event.Read v row) h =
    let lacks = version_lacks 32 v refl refl h.0 in
    let version = ap version_back (before_parts 32 (version_text v) (key_text row) lacks) ∙ version_back_is v h.0 in
    let named = ap key_back (after_parts 32 (version_text v) (key_text row) lacks) ∙ key_back_is row h.1 in
    λ i. event.Read (version i) (named i)
event_back_is (event.Block v on) h =
    let lacks = version_lacks 32 v refl refl h.0 in
    let version = ap version_back (before_parts 32 (version_text v) (decimal on) lacks) ∙ version_back_is v h.0 in
    let index = ap number_back (after_parts 32 (version_text v) (decimal on) lacks) ∙ number_back_is on h.1 in
    λ i. event.Block (version i) (index i)
event_back_is (event.Finish v) h = ap event.Finish (version_back_is v h)
event_back_is (event.BeginValidation v) h = ap event.BeginValidation (version_back_is v h)
event_back_is event.ValidateOne h = refl
event_back_is event.EndValidation h = refl
event_back_is event.Commit h = refl

pub events_apart : (a b : Event) → IsEvent a → IsEvent b → event_text a ≡ event_text b → a ≡ b
events_apart a b h k same = sym (event_back_is a h) ∙ ap event_back same ∙ event_back_is b k
