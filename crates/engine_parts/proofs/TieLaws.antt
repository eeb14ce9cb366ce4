-- Numbers and links that are kept, and what they tie.
use Rattle.std.proofs.Common.{◌≡◌, ◌≢◌, ℕ, Bool, true, false, cond, List, [], ◌∷◌, ◌++◌, Some, inl, inr, refl, sym, ap, ◌∙◌, subst, arith}
use Rattle.std.proofs.lemmas.Option.{none-some, same_Some}
use Rattle.std.specs.List.{AllByRecursion}
use Rattle.issuer_words.specs.Words.{Identity, Pan, RowKey, Rows, key_eq}
use Rattle.issuer_laws.specs.Parts.{IsIn, funds_at}
use Rattle.issuer_rows.proofs.KeyLaws.{key_eq_decides}
use Rattle.issuer_rows.specs.RowKey.{kind_of}
use Rattle.engine_parts.specs.Ties.{Firsts, Keys, Numbers, mark_of, number_among, number_in, number_is, tie_of, HasFirst, HasNumber, AreLinked, IsTied, AreTied, HaveFunds, IsOfFunds, HasSameCards, AreKept}
use Rattle.engine_parts.specs.declared.key_number.KeyNumber.{KeyNumber}
use Rattle.engine_parts.specs.declared.key_number.KeyNumber.TheVariants.{Known, New}
use Rattle.engine_parts.specs.declared.link.Link.{Link}
use Rattle.issuer_laws.proofs.Parts.{each_of}

-- ---- lists

-- what stands in a list stands in a longer one
pub in_front : {A : Type 0} (x : A) (xs ys : List A) → IsIn x xs → IsIn x (xs ++ ys)
in_front x [] ys h = absurd h
in_front x (y ∷ xs) ys (inl e) = inl e
in_front x (y ∷ xs) ys (inr h) = inr (in_front x xs ys h)

-- the last of a list stands in it
pub in_last : {A : Type 0} (x : A) (xs : List A) → IsIn x (xs ++ x ∷ [])
in_last x [] = inl refl
in_last x (y ∷ xs) = inr (in_last x xs)

-- what holds of all of a list holds of each that stands in it
pub of_each : {A : Type 0} (P : A → Type 0) (x : A) (xs : List A) → AllByRecursion P xs → IsIn x xs → P x
of_each P x [] all h = absurd h
of_each P x (y ∷ xs) all (inl e) = subst P (sym e) all.0
of_each P x (y ∷ xs) all (inr h) = of_each P x xs all.1 h

-- what holds of two lists holds of both together
pub all_of_both : {A : Type 0} (P : A → Type 0) (xs ys : List A) → AllByRecursion P xs → AllByRecursion P ys → AllByRecursion P (xs ++ ys)
all_of_both P [] ys front back = back
all_of_both P (x ∷ xs) ys front back = (front.0, all_of_both P xs ys front.1 back)

-- ---- what is kept

pub kept_itself : (numbers : Numbers) (links : List Link) → AreKept numbers numbers links links
kept_itself numbers links = record { numbers = λ key number h. h; links = λ link h. h }

pub kept_twice : (a b c : Numbers) (k l m : List Link) → AreKept a b k l → AreKept b c l m → AreKept a c k m
kept_twice a b c k l m first second = record {
  numbers = λ key number h. second.numbers key number (first.numbers key number h);
  links = λ link h. second.links link (first.links link h);
}

-- one more link
pub kept_longer : (numbers : Numbers) (links : List Link) (link : Link) → AreKept numbers numbers links (links ++ link ∷ [])
kept_longer numbers links link = record { numbers = λ key number h. h; links = λ l h. in_front l links (link ∷ []) h }

linked_kept : (k l : List Link) (head number : ℕ) → ((link : Link) → IsIn link k → IsIn link l) → AreLinked k head number → AreLinked l head number
linked_kept k l head number kept (inl same) = inl same
linked_kept k l head number kept (inr there) = inr (kept (record { head = head; other = number }) there)

pub tied_kept : (a b : Numbers) (k l : List Link) (head : ℕ) (key : RowKey) → AreKept a b k l → IsTied a k head key → IsTied b l head key
tied_kept a b k l head key kept tied = (tied.0, kept.numbers (tie_of key) tied.0 tied.1, linked_kept k l head tied.0 kept.links tied.2)

pub all_kept : (a b : Numbers) (k l : List Link) (head : ℕ) (keys : List RowKey) → AreKept a b k l → AreTied a k head keys → AreTied b l head keys
all_kept a b k l head keys kept = each_of (IsTied a k head) (IsTied b l head) keys (λ key. tied_kept a b k l head key kept)

-- no card got a number, twice
pub same_cards_twice : (a b c : Numbers) → HasSameCards a b → HasSameCards b c → HasSameCards a c
same_cards_twice a b c first second pan = second pan ∙ first pan

pub funds_kept : (rows : Rows) (a b : Numbers) (k l : List Link) → HasSameCards a b → AreKept a b k l → HaveFunds rows a k → HaveFunds rows b l
funds_kept rows a b k l cards kept funds pan head has =
    all_kept a b k l head (funds_at rows pan) kept (funds pan head (sym (cards pan) ∙ has))

-- ---- a key that is numbered

-- the number of an account or a budget stands among the keys
numbered_in : (numbers : Numbers) (key : RowKey) → IsOfFunds key → number_in numbers key ≡ number_among numbers.keys key
numbered_in numbers (RowKey.Account id) of = refl
numbered_in numbers (RowKey.Budget prefix) of = refl
numbered_in numbers (RowKey.Card pan) of = absurd of
numbered_in numbers (RowKey.Velocity pan day) of = absurd of
numbered_in numbers (RowKey.Original identity) of = absurd of

-- it stands for its own row
own_tie : (key : RowKey) → IsOfFunds key → tie_of key ≡ key
own_tie (RowKey.Account id) of = refl
own_tie (RowKey.Budget prefix) of = refl
own_tie (RowKey.Card pan) of = refl
own_tie (RowKey.Velocity pan day) of = absurd of
own_tie (RowKey.Original identity) of = refl

-- and is no card
no_card : (key : RowKey) (pan : Pan) → IsOfFunds key → key ≢ RowKey.Card pan
no_card (RowKey.Account id) pan of e = absurd (omega (arith, ap kind_of e))
no_card (RowKey.Budget prefix) pan of e = absurd (omega (arith, ap kind_of e))
no_card (RowKey.Card other) pan of e = absurd of
no_card (RowKey.Velocity other day) pan of e = absurd of
no_card (RowKey.Original identity) pan of e = absurd of

-- another key than one that a test says differs
other_than : (key k : RowKey) → key ≢ k → key_eq key k ≡ false
other_than key k apart =
    elim (key_eq key k) as (λ t. key_eq key k ≡ t → t ≡ false) [
      | true ↦ λ same. absurd (apart ((key_eq_decides key k).0 same))
      | false ↦ λ _. refl
    ] refl

among : (old new : Keys) (key : RowKey) (n : KeyNumber) → HasNumber old new key n → number_among new key ≡ Some (number_is n)
among old new key (Known number) h = ap (λ (keys : Keys). number_among keys key) h.1 ∙ h.0
among old new key (New number) h =
    h.1 key ∙ ap (λ (t : Bool). cond t (Some number) (number_among old key)) ((key_eq_decides key key).1 refl)

kept_among : (old new : Keys) (key : RowKey) (n : KeyNumber) → HasNumber old new key n → (k : RowKey) (m : ℕ) → number_among old k ≡ Some m → number_among new k ≡ Some m
kept_among old new key (Known number) h k m has = ap (λ (keys : Keys). number_among keys k) h.1 ∙ has
kept_among old new key (New number) h k m has =
    h.1 k ∙ elim (key_eq key k) as (λ t. key_eq key k ≡ t → cond t (Some number) (number_among old k) ≡ Some m) [
      | true ↦ λ same. absurd (none-some m (sym h.0 ∙ ap (number_among old) ((key_eq_decides key k).0 same) ∙ has))
      | false ↦ λ _. has
    ] refl

kept_in : (old new : Keys) (firsts : Firsts) (k : RowKey) (m : ℕ) → (number_among old k ≡ Some m → number_among new k ≡ Some m)
    → number_in (record { keys = old; firsts = firsts }) k ≡ Some m → number_in (record { keys = new; firsts = firsts }) k ≡ Some m
kept_in old new firsts (RowKey.Card pan) m kept has = kept has
kept_in old new firsts (RowKey.Velocity pan day) m kept has = kept has
kept_in old new firsts (RowKey.Budget prefix) m kept has = kept has
kept_in old new firsts (RowKey.Account id) m kept has = kept has
kept_in old new firsts (RowKey.Original identity) m kept has = has

pub has_number : (old new : Keys) (firsts : Firsts) (key : RowKey) (n : KeyNumber) → IsOfFunds key → HasNumber old new key n
    → number_in (record { keys = new; firsts = firsts }) key ≡ Some (number_is n)
has_number old new firsts key n of h = numbered_in (record { keys = new; firsts = firsts }) key of ∙ among old new key n h

pub numbered_kept : (old new : Keys) (firsts : Firsts) (key : RowKey) (n : KeyNumber) (links : List Link) → HasNumber old new key n
    → AreKept (record { keys = old; firsts = firsts }) (record { keys = new; firsts = firsts }) links links
numbered_kept old new firsts key n links h = record {
  numbers = λ k m has. kept_in old new firsts k m (kept_among old new key n h k m) has;
  links = λ link there. there;
}

pub numbered_other : (old new : Keys) (firsts : Firsts) (key : RowKey) (n : KeyNumber) → IsOfFunds key → HasNumber old new key n
    → HasSameCards (record { keys = old; firsts = firsts }) (record { keys = new; firsts = firsts })
numbered_other old new firsts key (Known number) of h pan = ap (λ (keys : Keys). number_among keys (RowKey.Card pan)) h.1
numbered_other old new firsts key (New number) of h pan =
    h.1 (RowKey.Card pan) ∙ ap (λ (t : Bool). cond t (Some number) (number_among old (RowKey.Card pan))) (other_than key (RowKey.Card pan) (no_card key pan of))

-- the link of a head and of another number, behind others
pub linked_last : (links : List Link) (head number : ℕ) → AreLinked (links ++ record { head = head; other = number } ∷ []) head number
linked_last links head number = inr (in_last (record { head = head; other = number }) links)

-- what has a number that is linked to a head behind its link is tied to it
pub linked_tied : (numbers : Numbers) (links : List Link) (head number : ℕ) (key : RowKey) → IsOfFunds key → number_in numbers key ≡ Some number
    → IsTied numbers (links ++ record { head = head; other = number } ∷ []) head key
linked_tied numbers links head number key of has =
    (number, ap (number_in numbers) (own_tie key of) ∙ has, linked_last links head number)

same_pans : (a b : Pan) → RowKey.Card a ≡ RowKey.Card b → a ≡ b
same_pans a b e = cc

-- a card got a number, and then what its messages may be paid from was tied to it
pub card_tied : (rows : Rows) (old mid : Keys) (firsts : Firsts) (new : Numbers) (k l : List Link) (pan : Pan) (head : ℕ) → HasNumber old mid (RowKey.Card pan) (New head)
    → HasSameCards (record { keys = mid; firsts = firsts }) new → AreKept (record { keys = mid; firsts = firsts }) new k l → AreTied new l head (funds_at rows pan)
    → HaveFunds rows (record { keys = old; firsts = firsts }) k → HaveFunds rows new l
card_tied rows old mid firsts new k l pan head numbered cards kept tied funds other h has =
    let there : cond (key_eq (RowKey.Card pan) (RowKey.Card other)) (Some head) (number_among old (RowKey.Card other)) ≡ Some h
    = sym (numbered.1 (RowKey.Card other)) ∙ (sym (cards other) ∙ has) in
    elim (key_eq (RowKey.Card pan) (RowKey.Card other)) as (λ t. key_eq (RowKey.Card pan) (RowKey.Card other) ≡ t → cond t (Some head) (number_among old (RowKey.Card other)) ≡ Some h → AreTied new l h (funds_at rows other)) [
      | true ↦ λ same this.
          let pans : pan ≡ other = same_pans pan other ((key_eq_decides (RowKey.Card pan) (RowKey.Card other)).0 same) in
          subst (λ (p : Pan). AreTied new l h (funds_at rows p)) pans (subst (λ (n : ℕ). AreTied new l n (funds_at rows pan)) (same_Some head h this) tied)
      | false ↦ λ _ this.
          all_kept (record { keys = old; firsts = firsts }) new k l h (funds_at rows other)
          (kept_twice (record { keys = old; firsts = firsts }) (record { keys = mid; firsts = firsts }) new k k l (numbered_kept old mid firsts (RowKey.Card pan) (New head) k numbered) kept)
          (funds other h this)
    ] refl there

-- ---- an identity that has a first card

first_in : (keys : Keys) (old new : Firsts) (mark first : ℕ) → HasFirst old new mark first → (k : RowKey) (m : ℕ)
    → number_in (record { keys = keys; firsts = old }) k ≡ Some m → number_in (record { keys = keys; firsts = new }) k ≡ Some m
first_in keys old new mark first h (RowKey.Card pan) m has = has
first_in keys old new mark first h (RowKey.Velocity pan day) m has = has
first_in keys old new mark first h (RowKey.Budget prefix) m has = has
first_in keys old new mark first h (RowKey.Account id) m has = has
first_in keys old new mark first h (RowKey.Original identity) m has = h.1 (mark_of identity) m has

pub first_kept : (keys : Keys) (old new : Firsts) (mark first : ℕ) (links : List Link) → HasFirst old new mark first
    → AreKept (record { keys = keys; firsts = old }) (record { keys = keys; firsts = new }) links links
first_kept keys old new mark first links h = record {
  numbers = λ k m has. first_in keys old new mark first h k m has;
  links = λ link there. there;
}

pub first_tied : (keys : Keys) (old new : Firsts) (links : List Link) (head first : ℕ) (identity : Identity) → HasFirst old new (mark_of identity) first
    → AreLinked links head first → IsTied (record { keys = keys; firsts = new }) links head (RowKey.Original identity)
first_tied keys old new links head first identity h linked = (first, h.0, linked)
