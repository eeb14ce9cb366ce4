-- A digest is that of one log, or SHA-256 has a collision.
use Rattle.std.proofs.Common.{◌≡◌, ◌≢◌, ◌⊎◌, inl, inr, ℕ, zero, suc, ◌<◌, ◌≤◌, List, [], ◌∷◌, ◌++◌, length, refl, sym, ap, subst, ◌∙◌, arith, append_assoc}
use Rattle.std.proofs.lemmas.List.{length-append}
use Rattle.sha2.specs.Sha256.{sha256}
use Rattle.sha2.proofs.Facts256.{length-sha256}
use Rattle.file_laws.specs.Files.{AreBodies}
use Rattle.file_laws.specs.Digests.{Collide, IsHashed}
use Rattle.file_laws.specs.LogReading.{AreEntries}
use Rattle.file_laws.specs.Texts.{digest_after, first_digest, header_text, last_digest, next_digest, payload_text}
use Rattle.file_laws.proofs.Apart.{length-header}
use Rattle.file_laws.proofs.Choices.{same_or_not}
use Rattle.file_laws.proofs.Payloads.{never_six, payloads_apart}
use Rattle.file_laws.proofs.LogSteps.{parts_apart}

-- a list is empty, or has a last element
abbrev HasLast : {A : Type 0} → List A → Type 0
HasLast {A = A} xs = (front : List A) × (x : A) × (xs ≡ front ++ x ∷ [])

add_first : {A : Type 0} (x : A) (xs : List A) → ((xs ≡ []) ⊎ HasLast xs) → HasLast (x ∷ xs)
add_first x xs (inl none) = ([], x, rw none refl)
add_first {A = A} x xs (inr last) = (x ∷ last.0, last.1, ap (λ (ys : List A). x ∷ ys) last.2)

last_of : {A : Type 0} (xs : List A) → (xs ≡ []) ⊎ HasLast xs
last_of [] = inl refl
last_of (x ∷ xs) = inr (add_first x xs (last_of xs))

-- the digest behind one more entry
pub digest_one_more : (before : List ℕ) (front : List (List (List ℕ))) (bodies : List (List ℕ)) → digest_after before (front ++ bodies ∷ []) ≡ next_digest (digest_after before front) bodies
unfolding digest_after
digest_one_more before [] bodies = refl
digest_one_more before (e ∷ front) bodies = digest_one_more (next_digest before e) front bodies

pub digest_of_none : (book : List ℕ) → last_digest book [] ≡ sha256 (header_text book)
unfolding digest_after
digest_of_none book = refl

pub entries_before : (front : List (List (List ℕ))) (bodies : List (List ℕ)) → AreEntries (front ++ bodies ∷ []) → AreEntries front × AreBodies bodies
entries_before [] bodies all = (tt, all.0)
entries_before (e ∷ front) bodies all = let more = entries_before front bodies all.1 in ((all.0, more.0), more.1)

length-digest : (before : List ℕ) (entries : List (List (List ℕ))) → length before ≡ 32 → length (digest_after before entries) ≡ 32
unfolding digest_after
length-digest before [] len = len
length-digest before (e ∷ entries) len = length-digest (next_digest before e) entries (length-sha256 (before ++ payload_text e))

pub length-last : (book : List ℕ) (entries : List (List (List ℕ))) → length (last_digest book entries) ≡ 32
length-last book entries = length-digest (first_digest book) entries (length-sha256 (header_text book))

-- the text that the last digest of a log is taken over
header_hashed : (book : List ℕ) (entries : List (List (List ℕ))) → IsHashed book entries (header_text book)
header_hashed book entries = inl refl

last_hashed : (book : List ℕ) (front : List (List (List ℕ))) (bodies : List (List ℕ)) → IsHashed book (front ++ bodies ∷ []) (last_digest book front ++ payload_text bodies)
last_hashed book front bodies = inr (front, bodies, [], refl, refl)

one_more_hashed : (book : List ℕ) (front : List (List (List ℕ))) (bodies : List (List ℕ)) (text : List ℕ) → IsHashed book front text → IsHashed book (front ++ bodies ∷ []) text
one_more_hashed book front bodies text (inl is) = inl is
one_more_hashed book front bodies text (inr h) =
    inr (h.0, h.1, h.2 ++ bodies ∷ [], ap (λ (es : List (List (List ℕ))). es ++ bodies ∷ []) h.3 ∙ append_assoc h.0 (h.1 ∷ h.2) (bodies ∷ []), h.4)

-- a header and an entry are never taken over one text
never_header : (book : List ℕ) (front : List (List (List ℕ))) (bodies : List (List ℕ)) → length book ≡ 32 → AreBodies bodies → header_text book ≢ last_digest book front ++ payload_text bodies
never_header book front bodies len are e =
    never_six bodies are (omega (arith, ap length e, length-header book len, length-append (last_digest book front) (payload_text bodies), length-last book front))

abbrev OneOrCollide : List ℕ → List (List (List ℕ)) → List (List (List ℕ)) → Type 0
OneOrCollide book entries others = (entries ≡ others) ⊎ Collide book entries others

carry : (book : List ℕ) (front back : List (List (List ℕ))) (bodies other : List (List ℕ)) → bodies ≡ other → OneOrCollide book front back → OneOrCollide book (front ++ bodies ∷ []) (back ++ other ∷ [])
carry book front back bodies other e (inl same) = inl (rw (e, same) refl)
carry book front back bodies other e (inr c) =
    let more : Collide book (front ++ bodies ∷ []) (back ++ other ∷ []) = record {
      text = c.text;
      other = c.other;
      hashed = one_more_hashed book front bodies c.text c.hashed;
      other_hashed = one_more_hashed book back other c.other c.other_hashed;
      differ = c.differ;
      one_digest = c.one_digest;
    } in
    inr more

-- both logs end with an entry
both_last : (book : List ℕ) (front back : List (List (List ℕ))) (bodies other : List (List ℕ)) → AreBodies bodies → AreBodies other
    → (last_digest book front ≡ last_digest book back → OneOrCollide book front back)
    → next_digest (last_digest book front) bodies ≡ next_digest (last_digest book back) other
    → OneOrCollide book (front ++ bodies ∷ []) (back ++ other ∷ [])
both_last book front back bodies other are are' before one =
    let text = last_digest book front ++ payload_text bodies in
    let text' = last_digest book back ++ payload_text other in
    elim (same_or_not text text') [
      | inl same ↦
          let parts = parts_apart (last_digest book front) (last_digest book back) (payload_text bodies) (payload_text other) (length-last book front ∙ sym (length-last book back)) same in
          carry book front back bodies other (payloads_apart bodies other are are' parts.1) (before parts.0)
      | inr differ ↦
          let c : Collide book (front ++ bodies ∷ []) (back ++ other ∷ []) = record {
            text = text;
            other = text';
            hashed = last_hashed book front bodies;
            other_hashed = last_hashed book back other;
            differ = differ;
            one_digest = one;
          } in
          inr c
    ]

-- one log has no entry
none_and_last : (book : List ℕ) (back : List (List (List ℕ))) (other : List (List ℕ)) → length book ≡ 32 → AreBodies other
    → sha256 (header_text book) ≡ next_digest (last_digest book back) other → Collide book [] (back ++ other ∷ [])
none_and_last book back other len are one = record {
  text = header_text book;
  other = last_digest book back ++ payload_text other;
  hashed = header_hashed book [];
  other_hashed = last_hashed book back other;
  differ = never_header book back other len are;
  one_digest = one;
}

last_and_none : (book : List ℕ) (front : List (List (List ℕ))) (bodies : List (List ℕ)) → length book ≡ 32 → AreBodies bodies
    → next_digest (last_digest book front) bodies ≡ sha256 (header_text book) → Collide book (front ++ bodies ∷ []) []
last_and_none book front bodies len are one = record {
  text = last_digest book front ++ payload_text bodies;
  other = header_text book;
  hashed = last_hashed book front bodies;
  other_hashed = header_hashed book [];
  differ = λ e. never_header book front bodies len are (sym e);
  one_digest = one;
}

-- by the last entries of both
abbrev Ends : List (List (List ℕ)) → Type 0
Ends entries = (entries ≡ []) ⊎ HasLast entries

by_ends : (book : List ℕ) (entries others : List (List (List ℕ))) → length book ≡ 32 → AreEntries entries → AreEntries others
    → last_digest book entries ≡ last_digest book others
    → ((front back : List (List (List ℕ))) → length front < length entries → AreEntries front → AreEntries back → last_digest book front ≡ last_digest book back → OneOrCollide book front back)
    → Ends entries → Ends others → OneOrCollide book entries others
by_ends book entries others len are are' one before (inl none) (inl none') = inl (none ∙ sym none')
by_ends book entries others len are are' one before (inl none) (inr last) =
    let all = entries_before last.0 last.1 (subst AreEntries last.2 are') in
    let digests : sha256 (header_text book) ≡ next_digest (last_digest book last.0) last.1 =
    sym (digest_of_none book) ∙ ap (last_digest book) (sym none) ∙ one ∙ ap (last_digest book) last.2 ∙ digest_one_more (first_digest book) last.0 last.1 in
    rw (none, last.2) (inr (none_and_last book last.0 last.1 len all.1 digests))
by_ends book entries others len are are' one before (inr last) (inl none) =
    let all = entries_before last.0 last.1 (subst AreEntries last.2 are) in
    let digests : next_digest (last_digest book last.0) last.1 ≡ sha256 (header_text book) =
    sym (digest_one_more (first_digest book) last.0 last.1) ∙ ap (last_digest book) (sym last.2) ∙ one ∙ ap (last_digest book) none ∙ digest_of_none book in
    rw (none, last.2) (inr (last_and_none book last.0 last.1 len all.1 digests))
by_ends book entries others len are are' one before (inr last) (inr last') =
    let all = entries_before last.0 last.1 (subst AreEntries last.2 are) in
    let all' = entries_before last'.0 last'.1 (subst AreEntries last'.2 are') in
    let digests : next_digest (last_digest book last.0) last.1 ≡ next_digest (last_digest book last'.0) last'.1 =
    sym (digest_one_more (first_digest book) last.0 last.1) ∙ ap (last_digest book) (sym last.2) ∙ one ∙ ap (last_digest book) last'.2 ∙ digest_one_more (first_digest book) last'.0 last'.1 in
    let shorter : length last.0 < length entries = omega (arith, ap length last.2, length-append last.0 (last.1 ∷ [])) in
    rw (last.2, last'.2) (both_last book last.0 last'.0 last.1 last'.1 all.1 all'.1 (before last.0 last'.0 shorter all.0 all'.0) digests)

chain : (fuel : ℕ) (book : List ℕ) (entries others : List (List (List ℕ))) → length entries ≤ fuel → length book ≡ 32 → AreEntries entries → AreEntries others
    → last_digest book entries ≡ last_digest book others → OneOrCollide book entries others
chain zero book entries others few len are are' one =
    by_ends book entries others len are are' one (λ front back shorter a b e. absurd (omega (arith, few, shorter))) (last_of entries) (last_of others)
chain (suc fuel) book entries others few len are are' one =
    by_ends book entries others len are are' one (λ front back shorter a b e. chain fuel book front back (omega (arith, few, shorter)) len a b e) (last_of entries) (last_of others)

pub one_chain : (book : List ℕ) (entries others : List (List (List ℕ))) → length book ≡ 32 → AreEntries entries → AreEntries others
    → last_digest book entries ≡ last_digest book others → (entries ≡ others) ⊎ Collide book entries others
one_chain book entries others = chain (length entries) book entries others (omega arith)
