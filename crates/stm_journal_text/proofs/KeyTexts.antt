-- Which texts are those of keys.
use Rattle.std.proofs.Common.{◌≡◌, ◌≢◌, ℕ, ◌/◌, ◌%◌, ◌==◌, Bool, false, List, ◌∷◌, ◌++◌, length, Result, Ok, Err, refl, sym, ap, subst, ◌∙◌, arith}
use Rattle.std.specs.Prelude.{codes, MatchResult}
use Rattle.std.specs.Cmp.Lexicographic.{pointwise}
use Rattle.std.proofs.lemmas.Bool.{eq-eqb, ne_eqb, cond-true, cond-false, false≢true}
use Rattle.std.proofs.lemmas.Bool.Decides.{Decides-eqb}
use Rattle.std.proofs.lemmas.Slice.Eq.{slice_eq-Decides}
use Rattle.hex.specs.Hex.{decode_sized, decode_pairs, encode_lower, lower_digits}
use Rattle.hex.specs.declared.error.FromHexError.{FromHexError}
use Rattle.hex.proofs.HexLemmas.{IsDigits-lower_digits, length-encode_with, decode_pairs-encode_with}
use Rattle.issuer_words.specs.Words.{HasDigits, HasPrintable, Identity, IsDay, IsPrintable, RowKey}
use Rattle.issuer_rows.specs.declared.row_key.RowKey.TheVariants as key
use Rattle.stm_journal_text.specs.Words.{IsIdentity, IsKey, Lacks, identity_text, key_text}
use Rattle.stm_journal_text.proofs.Back.{key_back, key_back_is, printable_bytes}
use Rattle.stm_journal_text.proofs.Marks.{before, after, before_parts, after_parts, parted, not_lacking, digits_lack, other_lacks}

-- what names an original

pub identity_marked : (text : List ℕ) (i : Identity) → Lacks 58 text → text ≢ identity_text i
identity_marked text i lacks same = not_lacking 58 i.acquirer.0 (i.stan.0 ++ 58 ∷ i.stamp) (subst (Lacks 58) same lacks)

pub identity_first : (text a rest : List ℕ) (i : Identity) → text ≡ a ++ 58 ∷ rest → Lacks 58 a → IsIdentity i → text ≡ identity_text i
    → (a ≡ i.acquirer.0) × (rest ≡ i.stan.0 ++ 58 ∷ i.stamp)
identity_first text a rest i is lacks h same =
    parted 58 a rest i.acquirer.0 (i.stan.0 ++ 58 ∷ i.stamp) lacks (digits_lack 58 i.acquirer.0 refl h.acquirer.2) (sym is ∙ same)

pub identity_last : (rest b c : List ℕ) (i : Identity) → rest ≡ b ++ 58 ∷ c → Lacks 58 b → IsIdentity i → rest ≡ i.stan.0 ++ 58 ∷ i.stamp
    → (b ≡ i.stan.0) × (c ≡ i.stamp)
identity_last rest b c i is lacks h same = parted 58 b c i.stan.0 i.stamp lacks (digits_lack 58 i.stan.0 refl h.stan) (sym is ∙ same)

-- names of accounts

pub name_length : (text name : List ℕ) → HasPrintable 1 28 name → text ≡ encode_lower name → length text / 2 ≡ length name
name_length text name h same =
    let size = ap length same ∙ length-encode_with lower_digits name in
    omega arith

pub decodes_back : (text name : List ℕ) → IsPrintable name → text ≡ encode_lower name → decode_sized text (length text / 2) ≡ Ok name
decodes_back text name h same =
    let size = ap length same ∙ length-encode_with lower_digits name in
    let even : length text % 2 ≢ 1 = omega arith in
    cond-false (length text % 2 == 1) _ _ (ne_eqb (length text % 2) 1 even)
    ∙ cond-true (length text / 2 == length text / 2) _ _ (eq-eqb (length text / 2) (length text / 2) refl)
    ∙ ap (decode_pairs 0) same
    ∙ decode_pairs-encode_with lower_digits IsDigits-lower_digits 0 name (printable_bytes name h)

-- what decoding answers of the text of a name
pub decoded : (text name out : List ℕ) (r : Result (Unit {0}) FromHexError) (n : ℕ)
    → MatchResult (decode_sized text n) (λ bytes. (r ≡ Ok tt) × (out ≡ bytes)) (λ e. r ≡ Err e)
    → n ≡ length text / 2 → IsPrintable name → text ≡ encode_lower name → (r ≡ Ok tt) × (out ≡ name)
decoded text name out r n answer size h same =
    let is : decode_sized text n ≡ Ok name = ap (decode_sized text) size ∙ decodes_back text name h same in
    rw is at answer

-- two texts that are found unequal are
pub not_unequal : (xs ys : List ℕ) (r : Bool) → r ≡ pointwise ◌==◌ xs ys → r ≡ false → xs ≢ ys
not_unequal xs ys r answer other same = false≢true (sym other ∙ (slice_eq-Decides Decides-eqb xs ys r answer).1 same)

-- keys

-- a text of another kind is no key
pub of_no_kind : (text kind rest : List ℕ) (k : RowKey) → text ≡ kind ++ 58 ∷ rest → Lacks 58 kind → kind ≢ codes "card" → kind ≢ codes "day" → kind ≢ codes "budget"
    → kind ≢ codes "orig" → kind ≢ codes "acct" → text ≢ key_text k
of_no_kind text kind rest (key.Card pan) is lacks a b c d e same =
    a (parted 58 kind rest (codes "card") pan.0 lacks (other_lacks 58 (codes "card") refl) (sym is ∙ same)).0
of_no_kind text kind rest (key.Velocity pan day) is lacks a b c d e same =
    b (parted 58 kind rest (codes "day") (pan.0 ++ 58 ∷ day) lacks (other_lacks 58 (codes "day") refl) (sym is ∙ same)).0
of_no_kind text kind rest (key.Budget prefix) is lacks a b c d e same =
    c (parted 58 kind rest (codes "budget") prefix.0 lacks (other_lacks 58 (codes "budget") refl) (sym is ∙ same)).0
of_no_kind text kind rest (key.Original i) is lacks a b c d e same =
    d (parted 58 kind rest (codes "orig") (identity_text i) lacks (other_lacks 58 (codes "orig") refl) (sym is ∙ same)).0
of_no_kind text kind rest (key.Account id) is lacks a b c d e same =
    e (parted 58 kind rest (codes "acct") (encode_lower id.0) lacks (other_lacks 58 (codes "acct") refl) (sym is ∙ same)).0

-- what the text of a day's key is made of
pub day_parts : (rest a b : List ℕ) (k : RowKey) → rest ≡ a ++ 58 ∷ b → Lacks 58 a → IsKey k → codes "day:" ++ rest ≡ key_text k
    → HasDigits 12 19 a × IsDay b
day_parts rest a b k is lacks h same =
    let back = sym (key_back_is k h) ∙ ap key_back (sym same) in
    let found = subst IsKey back h in
    let first = ap (before 58) is ∙ before_parts 58 a b lacks in
    let second = ap (after 58) is ∙ after_parts 58 a b lacks in
    (subst (HasDigits 12 19) first found.0, subst IsDay second found.1)

-- it has a colon
pub day_marked : (rest : List ℕ) (k : RowKey) → Lacks 58 rest → IsKey k → codes "day:" ++ rest ≢ key_text k
day_marked rest k lacks h same =
    let back = sym (key_back_is k h) ∙ ap key_back (sym same) in
    let tail = ap (after 58) (same ∙ ap key_text back) in
    not_lacking 58 (before 58 rest) (after 58 rest) (subst (Lacks 58) tail lacks)
