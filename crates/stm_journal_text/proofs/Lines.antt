-- No entry's line begins another's, and no two journals have one text.
use Rattle.std.proofs.Common.{◌≡◌, ◌≢◌, ℕ, suc, ◌<◌, ◌/◌, ◌%◌, false, List, [], ◌∷◌, ◌++◌, length, slice_index, refl, sym, ap, ◌∙◌, append_assoc, append-nil, ◌+◌, arith}
use Rattle.std.specs.Prelude.{codes}
use Rattle.std.specs.Char.{is_ascii_digit}
use Rattle.std.specs.Fmt.{decimal}
use Rattle.std.proofs.lemmas.Option.{none-some}
use Rattle.hex.specs.Hex.{IsBytes, encode_with, encode_lower, lower_digits, hex_digit_value}
use Rattle.hex.proofs.HexLemmas.{IsDigits-lower_digits}
use Rattle.issuer_words.specs.Words.{Identity, RowKey}
use Rattle.issuer_rows.specs.declared.row_key.RowKey.TheVariants as key
use Rattle.stm_journal_text.specs.Journal.{entry_text, line_of, journal_text, IsEntry, AreEntries, BeginsWithNoLine, IsFirstWrongLine}
use Rattle.stm_journal_text.specs.Marks.{Lacks}
use Rattle.stm_journal_text.specs.Texts.{IsEvent, IsIdentity, IsKey, event_text, identity_text, key_text, version_text}
use Rattle.stm_journal_text.specs.declared.entry.Entry.{Entry}
use Rattle.stm_journal_text.specs.declared.event.Event.{Event}
use Rattle.stm_journal_text.specs.declared.event.Event.TheVariants as event
use Rattle.stm_journal_text.proofs.Back.{printable_bytes, events_apart, number_back, number_back_is, version_lacks}
use Rattle.stm_journal_text.proofs.Marks.{parted, lacks_append, lacks_parts, digits_lack, decimal_lacks, other_lacks}

glyph : (d : ℕ) → d < 16 → slice_index lower_digits d ≢ 10
glyph d h same = none-some d (ap hex_digit_value (sym same) ∙ IsDigits-lower_digits d h)

hex_lacks : (bytes : List ℕ) → IsBytes bytes → Lacks 10 (encode_lower bytes)
unfolding encode_with
hex_lacks [] h = tt
hex_lacks (b ∷ rest) h =
    let byte : b < 256 = h 0 in
    (glyph (b / 16) (omega arith), (glyph (b % 16) (omega arith), hex_lacks rest (λ k. h (suc k))))

identity_lacks : (i : Identity) → IsIdentity i → Lacks 10 (identity_text i)
identity_lacks i h =
    lacks_parts 10 58 i.acquirer.0 (i.stan.0 ++ 58 ∷ i.stamp) refl (digits_lack 10 i.acquirer.0 refl h.acquirer.2)
    (lacks_parts 10 58 i.stan.0 i.stamp refl (digits_lack 10 i.stan.0 refl h.stan) (digits_lack 10 i.stamp refl h.stamp.1))

key_lacks : (k : RowKey) → IsKey k → Lacks 10 (key_text k)
key_lacks (key.Card pan) h = lacks_append 10 (codes "card:") pan.0 (other_lacks 10 (codes "card:") refl) (digits_lack 10 pan.0 refl h.2)
key_lacks (key.Velocity pan day) h =
    lacks_append 10 (codes "day:") (pan.0 ++ 58 ∷ day) (other_lacks 10 (codes "day:") refl)
    (lacks_parts 10 58 pan.0 day refl (digits_lack 10 pan.0 refl h.0.2) (digits_lack 10 day refl h.1.1))
key_lacks (key.Budget prefix) h =
    lacks_append 10 (codes "budget:") prefix.0 (other_lacks 10 (codes "budget:") refl) (digits_lack 10 prefix.0 refl h.1)
key_lacks (key.Original i) h = lacks_append 10 (codes "orig:") (identity_text i) (other_lacks 10 (codes "orig:") refl) (identity_lacks i h)
key_lacks (key.Account id) h =
    lacks_append 10 (codes "acct:") (encode_lower id.0) (other_lacks 10 (codes "acct:") refl) (hex_lacks id.0 (printable_bytes id.0 h.2))

event_lacks : (e : Event) → IsEvent e → Lacks 10 (event_text e)
event_lacks event.Claim h = other_lacks 10 (codes "n") refl
event_lacks (event.Read v row) h =
    lacks_append 10 (codes "r ") (version_text v ++ 32 ∷ key_text row) (other_lacks 10 (codes "r ") refl)
    (lacks_parts 10 32 (version_text v) (key_text row) refl (version_lacks 10 v refl refl h.0) (key_lacks row h.1))
event_lacks (event.Block v on) h =
    lacks_append 10 (codes "b ") (version_text v ++ 32 ∷ decimal on) (other_lacks 10 (codes "b ") refl)
    (lacks_parts 10 32 (version_text v) (decimal on) refl (version_lacks 10 v refl refl h.0) (decimal_lacks 10 on refl h.1))
event_lacks (event.Finish v) h = lacks_append 10 (codes "f ") (version_text v) (other_lacks 10 (codes "f ") refl) (version_lacks 10 v refl refl h)
event_lacks (event.BeginValidation v) h = lacks_append 10 (codes "c ") (version_text v) (other_lacks 10 (codes "c ") refl) (version_lacks 10 v refl refl h)
event_lacks event.ValidateOne h = other_lacks 10 (codes "o") refl
event_lacks event.EndValidation h = other_lacks 10 (codes "e") refl
event_lacks event.Commit h = other_lacks 10 (codes "k") refl

seat_lacks : (mark n : ℕ) → is_ascii_digit mark ≡ false → n < 64 → Lacks mark (decimal n)
seat_lacks mark n not_of h = decimal_lacks mark n not_of (omega arith)

pub entry_lacks : (e : Entry) → IsEntry e → Lacks 10 (entry_text e)
entry_lacks e h =
    lacks_parts 10 32 (decimal e.seat) (event_text e.event) refl (seat_lacks 10 e.seat refl h.seat) (event_lacks e.event h.event)

pub entries_apart : (d e : Entry) → IsEntry d → IsEntry e → entry_text d ≡ entry_text e → d ≡ e
entries_apart d e h k same =
    let parts = parted 32 (decimal d.seat) (event_text d.event) (decimal e.seat) (event_text e.event)
    (seat_lacks 32 d.seat refl h.seat) (seat_lacks 32 e.seat refl k.seat) same in
    let seat = sym (number_back_is d.seat (omega (arith, h.seat))) ∙ ap number_back parts.0 ∙ number_back_is e.seat (omega (arith, k.seat)) in
    let done = events_apart d.event e.event h.event k.event parts.1 in
    λ i. record { seat = seat i; event = done i }

-- a line with what follows is the entry's text, its end, and what follows
pub line_before : (e : Entry) (more : List ℕ) → line_of e ++ more ≡ entry_text e ++ 10 ∷ more
line_before e more = append_assoc (entry_text e) (10 ∷ []) more

-- what a line is made of
pub entry_parts : (line a b : List ℕ) (e : Entry) → line ≡ a ++ 32 ∷ b → Lacks 32 a → IsEntry e → line ≡ entry_text e
    → (a ≡ decimal e.seat) × (b ≡ event_text e.event)
entry_parts line a b e is lacks h same =
    parted 32 a b (decimal e.seat) (event_text e.event) lacks (seat_lacks 32 e.seat refl h.seat) (sym is ∙ same)

-- a text that begins with an entry's line has the entry's text before its first line feed
pub line_parts : (text line rest more : List ℕ) (e : Entry) → text ≡ line ++ 10 ∷ rest → Lacks 10 line → IsEntry e → text ≡ line_of e ++ more
    → line ≡ entry_text e
line_parts text line rest more e is lacks h same =
    (parted 10 line rest (entry_text e) more lacks (entry_lacks e h) (sym is ∙ same ∙ line_before e more)).0

pub lines_apart : (d e : Entry) (x y : List ℕ) → IsEntry d → IsEntry e → line_of d ++ x ≡ line_of e ++ y → (d ≡ e) × (x ≡ y)
lines_apart d e x y h k same =
    let parts = parted 10 (entry_text d) x (entry_text e) y (entry_lacks d h) (entry_lacks e k)
    (sym (line_before d x) ∙ same ∙ line_before e y) in
    (entries_apart d e h k parts.0, parts.1)

starts : (a b : List ℕ) (c : ℕ) → [] ≢ a ++ c ∷ b
starts [] b c same = cc
starts (x ∷ a) b c same = cc

nothing : (e : Entry) (more : List ℕ) → [] ≢ line_of e ++ more
nothing e more same = starts (entry_text e) more 10 (same ∙ line_before e more)

-- nothing begins with no line
pub nothing_left : BeginsWithNoLine []
nothing_left e more h = nothing e more

-- A text is in one way the lines of entries, and something that begins with no line.
pub one_parting : (a b : List Entry) (x y : List ℕ) → AreEntries a → AreEntries b → BeginsWithNoLine x → BeginsWithNoLine y
    → journal_text a ++ x ≡ journal_text b ++ y → (a ≡ b) × (x ≡ y)
one_parting [] [] x y h k nox noy same = (refl, same)
one_parting [] (e ∷ es) x y h k nox noy same =
    absurd (nox e (journal_text es ++ y) k.0 (same ∙ append_assoc (line_of e) (journal_text es) y))
one_parting (d ∷ ds) [] x y h k nox noy same =
    absurd (noy d (journal_text ds ++ x) h.0 (sym same ∙ append_assoc (line_of d) (journal_text ds) x))
one_parting (d ∷ ds) (e ∷ es) x y h k nox noy same =
    let parts = lines_apart d e (journal_text ds ++ x) (journal_text es ++ y) h.0 k.0
    (sym (append_assoc (line_of d) (journal_text ds) x) ∙ same ∙ append_assoc (line_of e) (journal_text es) y) in
    let others = one_parting ds es x y h.1 k.1 nox noy parts.1 in
    (λ i. parts.0 i ∷ others.0 i, others.1)

pub journals_apart : (a b : List Entry) → AreEntries a → AreEntries b → journal_text a ≡ journal_text b → a ≡ b
journals_apart a b h k same =
    (one_parting a b [] [] h k nothing_left nothing_left (append-nil (journal_text a) ∙ same ∙ sym (append-nil (journal_text b)))).0

-- what follows the lines of entries, and begins with no line, begins with the first wrong one
pub wrong_line : (text rest : List ℕ) (entries : List Entry) (count : ℕ) → count ≡ length entries → AreEntries entries → text ≡ journal_text entries ++ rest
    → 0 < length rest → BeginsWithNoLine rest → IsFirstWrongLine text (count + 1)
wrong_line text rest entries count size h is some wrong = record {
  before = entries;
  rest = rest;
  entries = h;
  parts = is;
  number = ap (λ (n : ℕ). n + 1) size;
  something = some;
  wrong = wrong;
}

-- a journal has no wrong line
pub no_wrong_line : (entries : List Entry) (text : List ℕ) (n : ℕ) → AreEntries entries → text ≡ journal_text entries → ¬ IsFirstWrongLine text n
no_wrong_line entries text n h is w =
    let rest = (one_parting w.before entries w.rest [] w.entries h w.wrong nothing_left
    (sym w.parts ∙ is ∙ sym (append-nil (journal_text entries)))).1 in
    let some : 0 < length w.rest = w.something in
    let none = ap length rest in
    omega arith

-- there is one first wrong line
pub one_wrong_line : (text : List ℕ) (m n : ℕ) → IsFirstWrongLine text m → IsFirstWrongLine text n → m ≡ n
one_wrong_line text m n v w =
    let before = (one_parting v.before w.before v.rest w.rest v.entries w.entries v.wrong w.wrong (sym v.parts ∙ w.parts)).0 in
    v.number ∙ ap (λ (entries : List Entry). length entries + 1) before ∙ sym w.number

-- where lines of entries are followed by another one, the text begins with a line
pub begins_with_a_line : (text more : List ℕ) (entries : List Entry) (e : Entry) → AreEntries entries → IsEntry e → text ≡ journal_text entries ++ (line_of e ++ more)
    → ¬ BeginsWithNoLine text
begins_with_a_line text more [] e h k is none = none e more k is
begins_with_a_line text more (d ∷ ds) e h k is none =
    none d (journal_text ds ++ (line_of e ++ more)) h.0 (is ∙ append_assoc (line_of d) (journal_text ds) (line_of e ++ more))
