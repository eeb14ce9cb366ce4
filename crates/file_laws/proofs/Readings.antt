-- Readings, and that bytes have one.
use Rattle.std.proofs.Common.{◌≡◌, inl, inr, ℕ, ◌≤◌, List, ◌++◌, length, Result, Ok, Err, refl, sym, ap, subst, ◌∙◌, arith}
use Rattle.std.proofs.lemmas.List.{length-append}
use Rattle.file_laws.specs.LogReading.{AreEntries, IsBrokenAt, IsLogOf, IsNoLog, IsOfAnotherBook, IsOfAnotherVersion, IsReading, Stands}
use Rattle.file_laws.specs.Tails.{IsTorn}
use Rattle.file_laws.specs.Texts.{first_digest, last_digest, log_text}
use Rattle.file_laws.specs.declared.log_fault.LogFault.{LogFault}
use Rattle.file_laws.specs.declared.log_fault.LogFault.TheVariants.{NoLog, Version, OtherBook, InUse, Broken, Failed, OutOfMemory}
use Rattle.file_laws.proofs.Apart.{AreFirst, Header, behind_header, behind_headers, first_entries, header_stands, only_entries}
use Rattle.file_laws.proofs.LogSteps.{NoEntry, torn_no_entry}

-- two logs of the same bytes, behind which no entry stands
pub one_standing : (book bytes : List ℕ) (entries others : List (List (List ℕ))) (left rest : List ℕ) → Stands book bytes entries left → Stands book bytes others rest
    → NoEntry (last_digest book entries) left → NoEntry (last_digest book others) rest → (entries ≡ others) × (left ≡ rest)
one_standing book bytes entries others left rest s t none none' =
    let whole = sym (behind_header book entries left) ∙ sym s.is ∙ t.is ∙ behind_header book others rest in
    only_entries (first_digest book) entries others left rest s.are t.are (behind_headers book _ _ whole) none none'

not_no_log : (book bytes : List ℕ) → Header book bytes → ¬ IsNoLog bytes
not_no_log book bytes h (inl short) = absurd (omega (arith, h.long, short))
not_no_log book bytes h (inr other) = other h.letters

not_version : (book bytes : List ℕ) → Header book bytes → ¬ IsOfAnotherVersion bytes
not_version book bytes h v = v.version h.version

not_book : (book bytes : List ℕ) → Header book bytes → ¬ IsOfAnotherBook book bytes
not_book book bytes h b = b.other h.its_book

log_header : (book bytes : List ℕ) (entries : List (List (List ℕ))) (tail : List ℕ) → length book ≡ 32 → IsLogOf book bytes entries tail → Header book bytes
log_header book bytes entries tail len log = header_stands book bytes entries tail len log.stands

broken_header : (book bytes : List ℕ) (n : ℕ) → length book ≡ 32 → IsBrokenAt book bytes n → Header book bytes
broken_header book bytes n len b = header_stands book bytes b.entries b.left len b.stands

no_log_version : (bytes : List ℕ) → IsNoLog bytes → ¬ IsOfAnotherVersion bytes
no_log_version bytes (inl short) v = absurd (omega (arith, short, v.long))
no_log_version bytes (inr other) v = other v.letters

no_log_book : (book bytes : List ℕ) → IsNoLog bytes → ¬ IsOfAnotherBook book bytes
no_log_book book bytes (inl short) b = absurd (omega (arith, short, b.long))
no_log_book book bytes (inr other) b = other b.letters

version_book : (book bytes : List ℕ) → IsOfAnotherVersion bytes → ¬ IsOfAnotherBook book bytes
version_book book bytes v b = v.version b.version

log_broken : (book bytes : List ℕ) (entries : List (List (List ℕ))) (tail : List ℕ) (n : ℕ) → IsLogOf book bytes entries tail → ¬ IsBrokenAt book bytes n
log_broken book bytes entries tail n log b =
    let same = one_standing book bytes entries b.entries tail b.left log.stands b.stands (torn_no_entry (last_digest book entries) tail log.torn) b.broken.no_entry in
    b.broken.not_torn (subst (λ (es : List (List (List ℕ))). IsTorn (last_digest book es) b.left) same.0 (subst (IsTorn (last_digest book entries)) same.1 log.torn))

two_logs : (book bytes : List ℕ) (entries others : List (List (List ℕ))) (tail rest : List ℕ) → IsLogOf book bytes entries tail → IsLogOf book bytes others rest
    → Path (Result (List (List (List ℕ)) × List ℕ) LogFault) (Ok (entries, tail)) (Ok (others, rest))
two_logs book bytes entries others tail rest l m =
    let same = one_standing book bytes entries others tail rest l.stands m.stands (torn_no_entry (last_digest book entries) tail l.torn) (torn_no_entry (last_digest book others) rest m.torn) in
    rw (same.0, same.1) refl

two_broken : (book bytes : List ℕ) (m n : ℕ) → IsBrokenAt book bytes m → IsBrokenAt book bytes n
    → Path (Result (List (List (List ℕ)) × List ℕ) LogFault) (Err (Broken m)) (Err (Broken n))
two_broken book bytes m n b c =
    let same = one_standing book bytes b.entries c.entries b.left c.left b.stands c.stands b.broken.no_entry c.broken.no_entry in
    ap (λ (k : ℕ). Err (Broken k)) (sym b.count ∙ ap length same.0 ∙ c.count)

pub one_reading : (book bytes : List ℕ) (reading other : Result (List (List (List ℕ)) × List ℕ) LogFault) → length book ≡ 32 → IsReading book bytes reading → IsReading book bytes other → reading ≡ other
one_reading book bytes (Ok (entries, tail)) (Ok (others, rest)) len r o = two_logs book bytes entries others tail rest r o
one_reading book bytes (Ok (entries, tail)) (Err NoLog) len r o = absurd (not_no_log book bytes (log_header book bytes entries tail len r) o)
one_reading book bytes (Ok (entries, tail)) (Err Version) len r o = absurd (not_version book bytes (log_header book bytes entries tail len r) o)
one_reading book bytes (Ok (entries, tail)) (Err OtherBook) len r o = absurd (not_book book bytes (log_header book bytes entries tail len r) o)
one_reading book bytes (Ok (entries, tail)) (Err (Broken n)) len r o = absurd (log_broken book bytes entries tail n r o)
one_reading book bytes (Ok (entries, tail)) (Err InUse) len r o = absurd o
one_reading book bytes (Ok (entries, tail)) (Err Failed) len r o = absurd o
one_reading book bytes (Ok (entries, tail)) (Err OutOfMemory) len r o = absurd o
one_reading book bytes (Err NoLog) (Ok (others, rest)) len r o = absurd (not_no_log book bytes (log_header book bytes others rest len o) r)
one_reading book bytes (Err NoLog) (Err NoLog) len r o = refl
one_reading book bytes (Err NoLog) (Err Version) len r o = absurd (no_log_version bytes r o)
one_reading book bytes (Err NoLog) (Err OtherBook) len r o = absurd (no_log_book book bytes r o)
one_reading book bytes (Err NoLog) (Err (Broken n)) len r o = absurd (not_no_log book bytes (broken_header book bytes n len o) r)
one_reading book bytes (Err NoLog) (Err InUse) len r o = absurd o
one_reading book bytes (Err NoLog) (Err Failed) len r o = absurd o
one_reading book bytes (Err NoLog) (Err OutOfMemory) len r o = absurd o
one_reading book bytes (Err Version) (Ok (others, rest)) len r o = absurd (not_version book bytes (log_header book bytes others rest len o) r)
one_reading book bytes (Err Version) (Err NoLog) len r o = absurd (no_log_version bytes o r)
one_reading book bytes (Err Version) (Err Version) len r o = refl
one_reading book bytes (Err Version) (Err OtherBook) len r o = absurd (version_book book bytes r o)
one_reading book bytes (Err Version) (Err (Broken n)) len r o = absurd (not_version book bytes (broken_header book bytes n len o) r)
one_reading book bytes (Err Version) (Err InUse) len r o = absurd o
one_reading book bytes (Err Version) (Err Failed) len r o = absurd o
one_reading book bytes (Err Version) (Err OutOfMemory) len r o = absurd o
one_reading book bytes (Err OtherBook) (Ok (others, rest)) len r o = absurd (not_book book bytes (log_header book bytes others rest len o) r)
one_reading book bytes (Err OtherBook) (Err NoLog) len r o = absurd (no_log_book book bytes o r)
one_reading book bytes (Err OtherBook) (Err Version) len r o = absurd (version_book book bytes o r)
one_reading book bytes (Err OtherBook) (Err OtherBook) len r o = refl
one_reading book bytes (Err OtherBook) (Err (Broken n)) len r o = absurd (not_book book bytes (broken_header book bytes n len o) r)
one_reading book bytes (Err OtherBook) (Err InUse) len r o = absurd o
one_reading book bytes (Err OtherBook) (Err Failed) len r o = absurd o
one_reading book bytes (Err OtherBook) (Err OutOfMemory) len r o = absurd o
one_reading book bytes (Err (Broken n)) (Ok (others, rest)) len r o = absurd (log_broken book bytes others rest n o r)
one_reading book bytes (Err (Broken n)) (Err NoLog) len r o = absurd (not_no_log book bytes (broken_header book bytes n len r) o)
one_reading book bytes (Err (Broken n)) (Err Version) len r o = absurd (not_version book bytes (broken_header book bytes n len r) o)
one_reading book bytes (Err (Broken n)) (Err OtherBook) len r o = absurd (not_book book bytes (broken_header book bytes n len r) o)
one_reading book bytes (Err (Broken m)) (Err (Broken n)) len r o = two_broken book bytes m n r o
one_reading book bytes (Err (Broken n)) (Err InUse) len r o = absurd o
one_reading book bytes (Err (Broken n)) (Err Failed) len r o = absurd o
one_reading book bytes (Err (Broken n)) (Err OutOfMemory) len r o = absurd o
one_reading book bytes (Err InUse) other len r o = absurd r
one_reading book bytes (Err Failed) other len r o = absurd r
one_reading book bytes (Err OutOfMemory) other len r o = absurd r

-- ---- what stands in front is read

pub read_first : (book behind : List ℕ) (entries others : List (List (List ℕ))) (tail : List ℕ) → AreEntries entries
    → Stands book (log_text book entries ++ behind) others tail → NoEntry (last_digest book others) tail → AreFirst entries others
read_first book behind entries others tail are stands none =
    let whole = sym (behind_header book entries behind) ∙ stands.is ∙ behind_header book others tail in
    first_entries (first_digest book) entries others behind tail are stands.are (behind_headers book _ _ whole) none

own_header : (book behind : List ℕ) (entries : List (List (List ℕ))) → length book ≡ 32 → AreEntries entries → Header book (log_text book entries ++ behind)
own_header book behind entries len are = header_stands book (log_text book entries ++ behind) entries behind len (record { are = are; is = refl })

pub faulty_behind : (book behind : List ℕ) (entries : List (List (List ℕ))) (fault : LogFault) → length book ≡ 32 → AreEntries entries
    → IsReading book (log_text book entries ++ behind) (Err fault) → (number : ℕ) × (fault ≡ Broken number) × (length entries ≤ number)
faulty_behind book behind entries NoLog len are r = absurd (not_no_log book _ (own_header book behind entries len are) r)
faulty_behind book behind entries Version len are r = absurd (not_version book _ (own_header book behind entries len are) r)
faulty_behind book behind entries OtherBook len are r = absurd (not_book book _ (own_header book behind entries len are) r)
faulty_behind book behind entries (Broken n) len are r =
    let first = read_first book behind entries r.entries r.left are r.stands r.broken.no_entry in
    (n, refl, omega (arith, ap length first.1, length-append entries first.0, r.count))
faulty_behind book behind entries InUse len are r = absurd r
faulty_behind book behind entries Failed len are r = absurd r
faulty_behind book behind entries OutOfMemory len are r = absurd r
