-- Entries that stand one after another are the only ones.
use Rattle.std.proofs.Common.{◌≡◌, ℕ, ◌≤◌, List, [], ◌∷◌, ◌++◌, length, take, drop, refl, sym, ap, subst, ◌∙◌, arith, append_assoc}
use Rattle.std.proofs.lemmas.List.{take_at, drop_at, length-append}
use Rattle.file_laws.specs.Files.{AreBodies}
use Rattle.file_laws.specs.LogReading.{AreEntries, Stands}
use Rattle.file_laws.specs.Tails.{BeginsWith}
use Rattle.file_laws.specs.Texts.{digest_after, entries_text, entry_text, first_digest, header_text, log_letters, log_text, log_version, next_digest}
use Rattle.file_laws.proofs.LogSteps.{NoEntry, entries_apart}

-- the first entry of some stands at their beginning
pub first_begins : (before bytes : List ℕ) (bodies : List (List ℕ)) (entries : List (List (List ℕ))) (left : List ℕ) → AreBodies bodies
    → bytes ≡ entries_text before (bodies ∷ entries) ++ left → BeginsWith before bytes bodies (entries_text (next_digest before bodies) entries ++ left)
unfolding entries_text
first_begins before bytes bodies entries left are e =
    record { are = are; is = e ∙ append_assoc (entry_text before bodies) (entries_text (next_digest before bodies) entries) left }

nothing_first : (before left : List ℕ) → entries_text before [] ++ left ≡ left
unfolding entries_text
nothing_first before left = refl

nothing_after : (before left : List ℕ) → NoEntry (digest_after before []) left → NoEntry before left
unfolding digest_after
nothing_after before left none = none

one_after : (before left : List ℕ) (bodies : List (List ℕ)) (entries : List (List (List ℕ))) → NoEntry (digest_after before (bodies ∷ entries)) left → NoEntry (digest_after (next_digest before bodies) entries) left
unfolding digest_after
one_after before left bodies entries none = none

-- these entries are the first of others
abbrev pub AreFirst : List (List (List ℕ)) → List (List (List ℕ)) → Type 0
AreFirst entries others = (more : List (List (List ℕ))) × (others ≡ entries ++ more)

more_first : (bodies other : List (List ℕ)) (entries others : List (List (List ℕ))) → bodies ≡ other → AreFirst entries others → AreFirst (bodies ∷ entries) (other ∷ others)
more_first bodies other entries others e first = (first.0, rw (e, first.1) refl)

-- where no entry stands behind the others, all of these are among them
pub first_entries : (before : List ℕ) (entries others : List (List (List ℕ))) (behind left : List ℕ) → AreEntries entries → AreEntries others
    → entries_text before entries ++ behind ≡ entries_text before others ++ left → NoEntry (digest_after before others) left → AreFirst entries others
first_entries before [] others behind left are are' e none = (others, refl)
first_entries before (bodies ∷ entries) [] behind left are are' e none =
    absurd (nothing_after before left none bodies (entries_text (next_digest before bodies) entries ++ behind)
    (first_begins before left bodies entries behind are.0 (sym (nothing_first before left) ∙ sym e)))
first_entries before (bodies ∷ entries) (other ∷ others) behind left are are' e none =
    let bytes = entries_text before (bodies ∷ entries) ++ behind in
    let one = first_begins before bytes bodies entries behind are.0 refl in
    let two = first_begins before bytes other others left are'.0 e in
    let both = entries_apart before bytes bodies other (entries_text (next_digest before bodies) entries ++ behind) (entries_text (next_digest before other) others ++ left) one two in
    let digests : next_digest before other ≡ next_digest before bodies = ap (next_digest before) (sym both.0) in
    let rest : entries_text (next_digest before bodies) entries ++ behind ≡ entries_text (next_digest before bodies) others ++ left =
    both.1 ∙ ap (λ (d : List ℕ). entries_text d others ++ left) digests in
    let none' : NoEntry (digest_after (next_digest before bodies) others) left =
    subst (λ (d : List ℕ). NoEntry (digest_after d others) left) digests (one_after before left other others none) in
    more_first bodies other entries others both.0 (first_entries (next_digest before bodies) entries others behind left are.1 are'.1 rest none')

-- where no entry stands behind them, they are the only ones, and what stands behind them is one
pub only_entries : (before : List ℕ) (entries others : List (List (List ℕ))) (left rest : List ℕ) → AreEntries entries → AreEntries others
    → entries_text before entries ++ left ≡ entries_text before others ++ rest → NoEntry (digest_after before entries) left → NoEntry (digest_after before others) rest
    → (entries ≡ others) × (left ≡ rest)
only_entries before [] [] left rest are are' e none none' = (refl, sym (nothing_first before left) ∙ e ∙ nothing_first before rest)
only_entries before [] (other ∷ others) left rest are are' e none none' =
    absurd (nothing_after before left none other (entries_text (next_digest before other) others ++ rest)
    (first_begins before left other others rest are'.0 (sym (nothing_first before left) ∙ e)))
only_entries before (bodies ∷ entries) [] left rest are are' e none none' =
    absurd (nothing_after before rest none' bodies (entries_text (next_digest before bodies) entries ++ left)
    (first_begins before rest bodies entries left are.0 (sym (nothing_first before rest) ∙ sym e)))
only_entries before (bodies ∷ entries) (other ∷ others) left rest are are' e none none' =
    let bytes = entries_text before (bodies ∷ entries) ++ left in
    let one = first_begins before bytes bodies entries left are.0 refl in
    let two = first_begins before bytes other others rest are'.0 e in
    let both = entries_apart before bytes bodies other (entries_text (next_digest before bodies) entries ++ left) (entries_text (next_digest before other) others ++ rest) one two in
    let digests : next_digest before other ≡ next_digest before bodies = ap (next_digest before) (sym both.0) in
    let behind : entries_text (next_digest before bodies) entries ++ left ≡ entries_text (next_digest before bodies) others ++ rest =
    both.1 ∙ ap (λ (d : List ℕ). entries_text d others ++ rest) digests in
    let no_more : NoEntry (digest_after (next_digest before bodies) others) rest =
    subst (λ (d : List ℕ). NoEntry (digest_after d others) rest) digests (one_after before rest other others none') in
    let same = only_entries (next_digest before bodies) entries others left rest are.1 are'.1 behind (one_after before left bodies entries none) no_more in
    (rw (both.0, same.0) refl, same.1)

-- what stands behind the header
pub behind_header : (book : List ℕ) (entries : List (List (List ℕ))) (left : List ℕ) → log_text book entries ++ left ≡ header_text book ++ (entries_text (first_digest book) entries ++ left)
behind_header book entries left = append_assoc (header_text book) (entries_text (first_digest book) entries) left

pub length-header : (book : List ℕ) → length book ≡ 32 → length (header_text book) ≡ 38
length-header book len = omega (arith, len)

-- what two logs of one book have behind their headers
pub behind_headers : (book xs ys : List ℕ) → header_text book ++ xs ≡ header_text book ++ ys → xs ≡ ys
behind_headers book xs ys e = sym (drop_at (header_text book) xs (length (header_text book)) refl) ∙ ap (drop (length (header_text book))) e ∙ drop_at (header_text book) ys (length (header_text book)) refl

-- the header of a log
pub record Header (book bytes : List ℕ) : Type 0 where
  pub long : 38 ≤ length bytes
  pub letters : take 4 bytes ≡ log_letters
  pub version : take 2 (drop 4 bytes) ≡ log_version
  pub its_book : take 32 (drop 6 bytes) ≡ book

pub header_of : (book bytes rest : List ℕ) → length book ≡ 32 → bytes ≡ header_text book ++ rest → Header book bytes
header_of book bytes rest len e = record {
  long = omega (arith, ap length e, length-append (header_text book) rest, length-header book len);
  letters = ap (take 4) e;
  version = ap (λ (x : List ℕ). take 2 (drop 4 x)) e;
  its_book = ap (λ (x : List ℕ). take 32 (drop 6 x)) e ∙ take_at book rest 32 len;
}

pub header_stands : (book bytes : List ℕ) (entries : List (List (List ℕ))) (left : List ℕ) → length book ≡ 32 → Stands book bytes entries left → Header book bytes
header_stands book bytes entries left len stands = header_of book bytes (entries_text (first_digest book) entries ++ left) len (stands.is ∙ behind_header book entries left)
