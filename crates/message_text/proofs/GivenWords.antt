-- Words that give elements one by one.
use Rattle.std.proofs.Common.{◌≡◌, ◌≢◌, ℕ, ◌+◌, true, false, cond, eqb, List, [], ◌∷◌, ◌++◌, length, Some, None, refl, sym, ap, subst, ◌∙◌, append_assoc, arith}
use Rattle.std.specs.List.{AllZip, AllByRecursion}
use Rattle.std.proofs.lemmas.List.{append-nil, length-append}
use Rattle.iso_laws.specs.declared.element.Element.{Element}
use Rattle.iso_laws.specs.Elements.{element_number}
use Rattle.message_text.specs.Givens.{AreGiven, EachOnce, IsGivenBy, IsPair, NamesNone, texts_of}
use Rattle.message_text.specs.Names.{element_named}
use Rattle.message_text.specs.Made.{FirstWord}
use Rattle.message_text.specs.declared.given.Given.{Given}

zip_more : (words : List (List ℕ)) (gs : List Given) (word : List ℕ) (g : Given) → AllZip IsGivenBy words gs → IsGivenBy word g
    → AllZip IsGivenBy (words ++ word ∷ []) (gs ++ g ∷ [])
zip_more [] [] word g all one = (one, tt)
zip_more [] (x ∷ gs) word g all one = absurd all
zip_more (w ∷ words) [] word g all one = absurd all
zip_more (w ∷ words) (x ∷ gs) word g all one = (all.0, zip_more words gs word g all.1 one)

-- an element that neither those in front nor one more gives
still_none : (gs : List Given) (g : Given) (e : Element) → texts_of gs e ≡ None → eqb (element_number g.element) (element_number e) ≡ false
    → texts_of (gs ++ g ∷ []) e ≡ None
still_none [] g e none other = rw other refl
still_none (x ∷ gs) g e none other =
    elim (eqb (element_number x.element) (element_number e)) as (λ b. cond b (Some x.text.items) (texts_of gs e) ≡ None → cond b (Some x.text.items) (texts_of (gs ++ g ∷ []) e) ≡ None) [
      | true ↦ (λ h. absurd cc)
      | false ↦ (λ h. still_none gs g e h other)
    ] none

-- of an element that isn't given: the first is another, and the others don't give it
parts_none : (x : Given) (gs : List Given) (e : Element) → texts_of (x ∷ gs) e ≡ None → (eqb (element_number x.element) (element_number e) ≡ false) × (texts_of gs e ≡ None)
parts_none x gs e none =
    elim (eqb (element_number x.element) (element_number e)) as (λ b. cond b (Some x.text.items) (texts_of gs e) ≡ None → (b ≡ false) × (texts_of gs e ≡ None)) [
      | true ↦ (λ h. absurd cc)
      | false ↦ (λ h. (refl, h))
    ] none

other_way : (m n : ℕ) → eqb m n ≡ false → eqb n m ≡ false
other_way m n h = grind (arith, h)

once_more : (gs : List Given) (g : Given) → EachOnce gs → texts_of gs g.element ≡ None → EachOnce (gs ++ g ∷ [])
once_more [] g once none = (refl, tt)
once_more (x ∷ gs) g once none =
    let parts = parts_none x gs g.element none in
    (still_none gs g x.element once.0 (other_way (element_number x.element) (element_number g.element) parts.0), once_more gs g once.1 parts.1)

-- the words before those that are left give these elements; they are so many
abbrev pub SoFar : List (List ℕ) → ℕ → List (List ℕ) → List Given → Type 0
SoFar words place rest givens = (front : List (List ℕ)) × (words ≡ front ++ rest) × (place ≡ length front) × AreGiven front givens

pub starts : (words : List (List ℕ)) → SoFar words 0 words []
starts words = ([], refl, refl, (tt, tt))

pub goes_on : (words : List (List ℕ)) (place next : ℕ) (word : List ℕ) (more : List (List ℕ)) (givens after : List Given) (g : Given) → next ≡ place + 1
    → after ≡ givens ++ g ∷ [] → IsGivenBy word g → texts_of givens g.element ≡ None → SoFar words place (word ∷ more) givens → SoFar words next more after
goes_on words place next word more givens after g one added given none so = (
  so.0 ++ word ∷ [],
  so.1 ∙ sym (append_assoc so.0 (word ∷ []) more),
  (let size : length (so.0 ++ word ∷ []) ≡ length so.0 + 1 = length-append so.0 (word ∷ []) in omega (arith, one, so.2, size)),
  rw added (zip_more so.0 givens word g so.3.0 given, once_more givens g so.3.1 none),
)

pub first_word : (words : List (List ℕ)) (place : ℕ) (word : List ℕ) (more : List (List ℕ)) (givens : List Given)
    (is : List (List ℕ) → List Given → List ℕ → Type 0) → (so : SoFar words place (word ∷ more) givens) → is so.0 givens word → FirstWord words is
first_word words place word more givens is so here = (so.0, givens, word, record { more = more; parts = so.1; given = so.3 }, here)

pub all_given : (words : List (List ℕ)) (place : ℕ) (givens : List Given) → SoFar words place [] givens → AreGiven words givens
all_given words place givens so = subst (λ (front : List (List ℕ)). AreGiven front givens) (sym (so.1 ∙ append-nil so.0)) so.3

-- a word without `=` is no pair
no_pair : (name value : List ℕ) → AllByRecursion (λ c. c ≢ 61) (name ++ 61 ∷ value) → ⊥
no_pair [] value all = all.0 refl
no_pair (c ∷ name) value all = no_pair name value all.1

pub names_none : (word : List ℕ) → AllByRecursion (λ c. c ≢ 61) word → NamesNone word
names_none word lacks name value pair = absurd (no_pair name value (subst (λ (w : List ℕ). AllByRecursion (λ c. c ≢ 61) w) pair.parts lacks))

-- the name of a word is the one before its first `=`
one_name : (n v m w : List ℕ) → AllByRecursion (λ c. c ≢ 61) n → AllByRecursion (λ c. c ≢ 61) m → n ++ 61 ∷ v ≡ m ++ 61 ∷ w → n ≡ m
one_name [] v [] w a b e = refl
one_name [] v (d ∷ m) w a b e = let head : d ≡ 61 = cc in absurd (b.0 head)
one_name (c ∷ n) v [] w a b e = let head : c ≡ 61 = cc in absurd (a.0 head)
one_name (c ∷ n) v (d ∷ m) w a b e =
    let head : c ≡ d = cc in
    let tail : n ++ 61 ∷ v ≡ m ++ 61 ∷ w = cc in
    rw (head, one_name n v m w a.1 b.1 tail) refl

pub unknown_name : (word name value : List ℕ) → IsPair word name value → element_named name ≡ None → NamesNone word
unknown_name word name value is none other others pair =
    let same : other ≡ name = one_name other others name value pair.first is.first (sym pair.parts ∙ is.parts) in
    ap element_named same ∙ none
