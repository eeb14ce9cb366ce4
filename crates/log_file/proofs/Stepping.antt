-- A log that is read entry by entry.
use Rattle.std.proofs.Common.{◌≡◌, inl, ℕ, ◌+◌, ◌<◌, List, [], ◌∷◌, ◌++◌, length, drop, sym, ap, subst, ◌∙◌, append_assoc, arith}
use Rattle.std.proofs.lemmas.List.{append-nil, length-append}
use Rattle.sha2.specs.Sha256.{sha256}
use Rattle.file_laws.specs.Files.{AreBodies}
use Rattle.std.specs.Prelude.{IsTrue}
use Rattle.file_laws.specs.LogFault.{is_of_bytes}
use Rattle.file_laws.specs.declared.log_fault.LogFault.{LogFault}
use Rattle.file_laws.specs.declared.log_fault.LogFault.TheVariants.{Failed}
use Rattle.file_laws.specs.LogReading.{AreEntries, IsBrokenAt, IsLogOf, IsNoLog, Stands}
use Rattle.file_laws.specs.Tails.{BeginsWith, IsBroken, IsTorn}
use Rattle.file_laws.specs.Texts.{digest_after, entries_text, entry_text, first_digest, header_text, last_digest, log_text, next_digest}
use Rattle.file_laws.proofs.Apart.{length-header}
use Rattle.file_laws.proofs.Chain.{digest_one_more, digest_of_none}
use Rattle.log_file.proofs.Ahead.{at_most}

pub no_log_short : (bytes held left : List ℕ) → held ++ left ≡ bytes → left ≡ [] → length held < 38 → IsNoLog bytes
no_log_short bytes held left e none few = inl (at_most bytes held left 38 e none few)

pub text_of_none : (book : List ℕ) → log_text book [] ≡ header_text book
unfolding entries_text
text_of_none book = append-nil (header_text book)

pub record Opened (book bytes next digest : List ℕ) : Type 0 where
  pub stands : Stands book bytes [] next
  pub digest_is : digest ≡ last_digest book []
  pub place : 38 ≡ length (log_text book [])

pub first_is : (book digest : List ℕ) → digest ≡ sha256 (header_text book) → digest ≡ last_digest book []
first_is book digest is = is ∙ sym (digest_of_none book)

pub opened : (book bytes held left next digest : List ℕ) → length book ≡ 32 → held ++ left ≡ bytes → held ≡ header_text book ++ drop 38 held → next ≡ drop 38 held ++ left
    → digest ≡ sha256 (header_text book) → Opened book bytes next digest
opened book bytes held left next digest len e header behind is =
    let whole : bytes ≡ log_text book [] ++ next =
    sym e ∙ ap (λ (x : List ℕ). x ++ left) header ∙ append_assoc (header_text book) (drop 38 held) left
    ∙ ap (λ (x : List ℕ). header_text book ++ x) (sym behind) ∙ ap (λ (x : List ℕ). x ++ next) (sym (text_of_none book)) in
    record {
      stands = record { are = tt; is = whole };
      digest_is = first_is book digest is;
      place = sym (ap length (text_of_none book) ∙ length-header book len);
    }

-- ---- one more entry

pub text_one_more : (before : List ℕ) (front : List (List (List ℕ))) (bodies : List (List ℕ)) → entries_text before (front ++ bodies ∷ []) ≡ entries_text before front ++ entry_text (digest_after before front) bodies
unfolding entries_text digest_after
text_one_more before [] bodies = append-nil (entry_text before bodies)
text_one_more before (e ∷ front) bodies =
    ap (λ (x : List ℕ). entry_text before e ++ x) (text_one_more (next_digest before e) front bodies)
    ∙ sym (append_assoc (entry_text before e) (entries_text (next_digest before e) front) (entry_text (digest_after (next_digest before e) front) bodies))

pub log_one_more : (book : List ℕ) (entries : List (List (List ℕ))) (bodies : List (List ℕ)) → log_text book (entries ++ bodies ∷ []) ≡ log_text book entries ++ entry_text (last_digest book entries) bodies
log_one_more book entries bodies =
    ap (λ (x : List ℕ). header_text book ++ x) (text_one_more (first_digest book) entries bodies)
    ∙ sym (append_assoc (header_text book) (entries_text (first_digest book) entries) (entry_text (last_digest book entries) bodies))

pub are_more : (entries : List (List (List ℕ))) (bodies : List (List ℕ)) → AreEntries entries → AreBodies bodies → AreEntries (entries ++ bodies ∷ [])
are_more [] bodies all are = (are, tt)
are_more (e ∷ entries) bodies all are = (all.0, are_more entries bodies all.1 are)

pub record Entered (book bytes : List ℕ) (entries : List (List (List ℕ))) (bodies : List (List ℕ)) (next own : List ℕ) (at count : ℕ) : Type 0 where
  pub stands : Stands book bytes (entries ++ bodies ∷ []) next
  pub digest_is : own ≡ last_digest book (entries ++ bodies ∷ [])
  pub number : count ≡ length (entries ++ bodies ∷ [])
  pub place : at ≡ length (log_text book (entries ++ bodies ∷ []))

pub entered : (book bytes ahead next digest own : List ℕ) (entries : List (List (List ℕ))) (bodies : List (List ℕ)) (at size at' count count' : ℕ)
    → Stands book bytes entries ahead → digest ≡ last_digest book entries → BeginsWith digest ahead bodies next → own ≡ next_digest digest bodies
    → size ≡ length (entry_text digest bodies) → at ≡ length (log_text book entries) → at' ≡ at + size → count ≡ length entries → count' ≡ count + 1
    → Entered book bytes entries bodies next own at' count'
entered book bytes ahead next digest own entries bodies at size at' count count' s d b o z a a' n n' =
    let text : entry_text digest bodies ≡ entry_text (last_digest book entries) bodies = ap (λ (x : List ℕ). entry_text x bodies) d in
    let whole : bytes ≡ log_text book (entries ++ bodies ∷ []) ++ next =
    s.is ∙ ap (λ (x : List ℕ). log_text book entries ++ x) (b.is ∙ ap (λ (x : List ℕ). x ++ next) text)
    ∙ sym (append_assoc (log_text book entries) (entry_text (last_digest book entries) bodies) next)
    ∙ ap (λ (x : List ℕ). x ++ next) (sym (log_one_more book entries bodies)) in
    record {
      stands = record { are = are_more entries bodies s.are b.are; is = whole };
      digest_is = o ∙ ap (λ (x : List ℕ). next_digest x bodies) d ∙ sym (digest_one_more (first_digest book) entries bodies);
      number = omega (arith, n, n', length-append entries (bodies ∷ []));
      place = omega (arith, a, a', z, ap length text, ap length (log_one_more book entries bodies), length-append (log_text book entries) (entry_text (last_digest book entries) bodies));
    }

pub ended : (book bytes ahead digest : List ℕ) (entries : List (List (List ℕ))) → Stands book bytes entries ahead → digest ≡ last_digest book entries → IsTorn digest ahead → IsLogOf book bytes entries ahead
ended book bytes ahead digest entries s d torn = record { stands = s; torn = subst (λ (x : List ℕ). IsTorn x ahead) d torn }

pub broken : (book bytes ahead digest : List ℕ) (entries : List (List (List ℕ))) (count : ℕ) → Stands book bytes entries ahead → digest ≡ last_digest book entries → count ≡ length entries
    → IsBroken digest ahead → IsBrokenAt book bytes count
broken book bytes ahead digest entries count s d n b =
    record { entries = entries; left = ahead; stands = s; count = sym n; broken = subst (λ (x : List ℕ). IsBroken x ahead) d b }

not_of_bytes : IsTrue (is_of_bytes Failed) → ⊥
not_of_bytes h = cc

pub never_failed : (fault : LogFault) → IsTrue (is_of_bytes fault) → fault ≡ Failed → ⊥
never_failed fault is e = not_of_bytes (subst (λ (f : LogFault). IsTrue (is_of_bytes f)) e is)
