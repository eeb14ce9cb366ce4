-- What a chain has at an index, after a link is written, taken out or changed.
use Rattle.std.proofs.Common.{◌≡◌, ◌≢◌, ℕ, zero, suc, ◌+◌, ◌-◌, ◌<◌, ◌≤◌, ◌==◌, Bool, true, false, if◌then◌else◌, List, [], ◌∷◌, length, get_or, set, Option, Some, None, IsSome, option_map, refl, sym, ap, ◌∙◌, subst, inl, inr, arith, rules, length-set, get_or-set_other, get_or-set_same}
use Rattle.std.proofs.lemmas.Bool.{cases_lt, cases_eq}
use Rattle.std.proofs.lemmas.List.{get_or_default}
use Rattle.smallvec.proofs.SmallVecLemmas.{items-with_items}
use Rattle.std.proofs.lemmas.List.Edits.{length-insert, get_or-insert_below, get_or-insert_at, get_or-insert_above, length-remove, get_or-remove_below, get_or-remove_above}
use Rattle.std.specs.Bool.{Decides}
use Rattle.std.specs.List.{insert, refill, remove}
use Rattle.stm_memory.specs.Words.{AreInOrder, FitsAt, Held, StandsAt, estimate_of, found, held_of}
use Rattle.stm_memory.specs.declared.link.Link.{Link}

pub same_decides : (a b : ℕ) → Decides (a == b) (a ≡ b)
same_decides a b = search rules

pub test_other : (a b : ℕ) → a ≢ b → (a == b) ≡ false
test_other a b ne = elim (a == b) as (λ t. (a == b) ≡ t → (a == b) ≡ false) [ true ↦ λ e. absurd (ne ((same_decides a b).0 e)) | false ↦ λ e. e ] refl

-- a link of another index is passed over
passed : (link : Link) (links : List Link) (index : ℕ) → link.index ≢ index → found (link ∷ links) index ≡ found links index
passed link links index ne = ap (λ (b : Bool). if b then Some (held_of link) else found links index) (test_other link.index index ne)

-- a link of the index is found
met : (link : Link) (links : List Link) (index : ℕ) → link.index ≡ index → found (link ∷ links) index ≡ Some (held_of link)
met link links index same = ap (λ (b : Bool). if b then Some (held_of link) else found links index) ((same_decides link.index index).1 same)

-- whatever the first link is, what is found after it decides
alike : (link : Link) (links others : List Link) (index : ℕ) → found links index ≡ found others index → found (link ∷ links) index ≡ found (link ∷ others) index
alike link links others index e = ap (λ (o : Option Held). if link.index == index then Some (held_of link) else o) e

-- nothing is found where no link has the index
pub found_none : (links : List Link) (index : ℕ) → ((k : ℕ) (d : Link) → k < length links → (get_or links k d).index ≢ index) → found links index ≡ None
found_none [] index none = refl
found_none (link ∷ links) index none =
    passed link links index (none 0 link (omega arith)) ∙ found_none links index (λ k d l. none (suc k) d (omega arith))

-- the first link of the index is found
first_found : (links : List Link) (index place : ℕ) (d : Link) → place < length links → ((k : ℕ) → k < place → (get_or links k d).index ≢ index) → (get_or links place d).index ≡ index → found links index ≡ Some (held_of (get_or links place d))
first_found [] index place d l none same = absurd (omega arith)
first_found (link ∷ links) index zero d l none same = met link links index same
first_found (link ∷ links) index (suc place) d l none same =
    passed link links index (none 0 (omega arith)) ∙ first_found links index place d (omega arith) (λ k m. none (suc k) (omega arith)) same

-- of links in order, the one that stands there
pub found_at : (links : List Link) (index place : ℕ) (d : Link) → AreInOrder links → StandsAt links index place → found links index ≡ Some (held_of (get_or links place d))
found_at links index place d order stands =
    first_found links index place d stands.0 (λ k l e. let before = order k place d l stands.0 in let own = stands.1 d in absurd (omega arith)) (stands.1 d)

-- a link is written over another of its index
pub set_own : (links : List Link) (place : ℕ) (link : Link) → AreInOrder links → StandsAt links link.index place → found (set links place link) link.index ≡ Some (held_of link)
set_own links place link order stands =
    first_found (set links place link) link.index place link (let n = length-set links place link in let l = stands.0 in omega arith)
    (λ k l e. let before = order k place link l stands.0 in let own = stands.1 link in let kept = ap (λ (x : Link). x.index) (get_or-set_other links place k link link (λ s. omega arith)) in absurd (omega arith))
    (ap (λ (x : Link). x.index) (get_or-set_same links place link link stands.0))
    ∙ ap (λ (x : Link). Some (held_of x)) (get_or-set_same links place link link stands.0)

pub set_other : (links : List Link) (place : ℕ) (link : Link) (index : ℕ) → StandsAt links link.index place → index ≢ link.index → found (set links place link) index ≡ found links index
set_other [] place link index stands ne = refl
set_other (first ∷ links) zero link index stands ne =
    passed link links index (λ e. ne (sym e)) ∙ sym (passed first links index (λ e. ne (sym e ∙ stands.1 first)))
set_other (first ∷ links) (suc place) link index stands ne =
    alike first (set links place link) links index (set_other links place link index (let l = stands.0 in omega arith, λ d. stands.1 d) ne)

-- a link is inserted in between
pub insert_own : (links : List Link) (place : ℕ) (link : Link) → FitsAt links link.index place → found (insert links place link) link.index ≡ Some (held_of link)
insert_own links place link fits =
    let many = length-insert links place link fits.0 in
    first_found (insert links place link) link.index place link (let l = fits.0 in omega arith)
    (λ k l e. let before = fits.1 k link l in let kept = ap (λ (x : Link). x.index) (get_or-insert_below links place link link k l fits.0) in absurd (omega arith))
    (ap (λ (x : Link). x.index) (get_or-insert_at links place link link fits.0))
    ∙ ap (λ (x : Link). Some (held_of x)) (get_or-insert_at links place link link fits.0)

pub insert_other : (links : List Link) (place : ℕ) (link : Link) (index : ℕ) → index ≢ link.index → found (insert links place link) index ≡ found links index
insert_other links zero link index ne = passed link links index (λ e. ne (sym e))
insert_other [] (suc place) link index ne = passed link [] index (λ e. ne (sym e))
insert_other (first ∷ links) (suc place) link index ne = alike first (insert links place link) links index (insert_other links place link index ne)

pub insert_new : (links : List Link) (place index : ℕ) → FitsAt links index place → found links index ≡ None
insert_new links place index fits =
    found_none links index (λ k d l e. elim (cases_lt k place) [
      | inl below ↦ let before = fits.1 k d below in omega arith
      | inr above ↦ let after = fits.2 k d above l in omega arith
    ])

-- a link is taken out
pub remove_own : (links : List Link) (place index : ℕ) → AreInOrder links → StandsAt links index place → found (remove links place) index ≡ None
remove_own links place index order stands =
    let many = length-remove links place stands.0 in
    found_none (remove links place) index (λ k d l e.
    let own = stands.1 d in
    elim (cases_lt k place) [
      | inl below ↦ let kept = ap (λ (x : Link). x.index) (get_or-remove_below links place d k below stands.0) in let before = order k place d below stands.0 in omega arith
      | inr above ↦ let kept = ap (λ (x : Link). x.index) (get_or-remove_above links place d k above stands.0) in let after = order place (k + 1) d (omega arith) (omega arith) in omega arith
    ])

pub remove_other : (links : List Link) (place index at : ℕ) → StandsAt links at place → index ≢ at → found (remove links place) index ≡ found links index
remove_other [] place index at stands ne = absurd (let l = stands.0 in omega arith)
remove_other (first ∷ links) zero index at stands ne = sym (passed first links index (λ e. ne (sym e ∙ stands.1 first)))
remove_other (first ∷ links) (suc place) index at stands ne =
    alike first (remove links place) links index (remove_other links place index at (let l = stands.0 in omega arith, λ d. stands.1 d) ne)

-- a link is written over another through the slice that they stand in
pub written_over : (links slice : List Link) (place : ℕ) (link : Link) → slice ≡ links → refill (length links) links (set slice place link) ≡ set links place link
written_over links slice place link same =
    items-with_items (record { items = links; capacity = 0 }) (set slice place link) (length-set slice place link ∙ ap length same)
    ∙ ap (λ (xs : List Link). set xs place link) same

-- the indices stay where a link is written over another of its index
set_index : (links : List Link) (place : ℕ) (link : Link) → StandsAt links link.index place → (k : ℕ) (d : Link) → (get_or (set links place link) k d).index ≡ (get_or links k d).index
set_index links place link stands k d =
    elim (cases_eq k place) [
      | inl at ↦
          ap (λ (n : ℕ). (get_or (set links place link) n d).index) at
          ∙ ap (λ (x : Link). x.index) (get_or-set_same links place link d stands.0)
          ∙ sym (stands.1 d)
          ∙ ap (λ (n : ℕ). (get_or links n d).index) (sym at)
      | inr ne ↦ ap (λ (x : Link). x.index) (get_or-set_other links place k link d (λ s. omega arith))
    ]

-- so they stay in order
pub set_order : (links : List Link) (place : ℕ) (link : Link) → AreInOrder links → StandsAt links link.index place → AreInOrder (set links place link)
set_order links place link order stands i j d l m =
    let many = length-set links place link in
    let before = order i j d l (omega arith) in
    let a = set_index links place link stands i d in
    let b = set_index links place link stands j d in
    omega arith

-- behind a link that is inserted in between, each stands one place on
shifted : (links : List Link) (place : ℕ) (link : Link) (k : ℕ) (d : Link) → place ≤ length links → place < k → (get_or (insert links place link) k d).index ≡ (get_or links (k - 1) d).index
shifted links place link k d within after =
    let next : k ≡ (k - 1) + 1 = omega arith in
    ap (λ (n : ℕ). (get_or (insert links place link) n d).index) next
    ∙ ap (λ (x : Link). x.index) (get_or-insert_above links place link d (k - 1) (omega arith) within)

-- links stay in order where one is inserted in between, where it fits
pub insert_order : (links : List Link) (place : ℕ) (link : Link) → AreInOrder links → FitsAt links link.index place → AreInOrder (insert links place link)
insert_order links place link order fits i j d l m =
    let many = length-insert links place link fits.0 in
    let own = ap (λ (x : Link). x.index) (get_or-insert_at links place link d fits.0) in
    elim (cases_lt i place) [
      | inl before ↦
          let first = ap (λ (x : Link). x.index) (get_or-insert_below links place link d i before fits.0) in
          elim (cases_lt j place) [
            | inl also ↦
                let second = ap (λ (x : Link). x.index) (get_or-insert_below links place link d j also fits.0) in
                let less = order i j d l (omega arith) in
                omega arith
            | inr from ↦ elim (cases_eq j place) [
              | inl at ↦
                  let less = fits.1 i d before in
                  let second = ap (λ (n : ℕ). (get_or (insert links place link) n d).index) at in
                  omega arith
              | inr past ↦
                  let second = shifted links place link j d fits.0 (omega arith) in
                  let less = order i (j - 1) d (omega arith) (omega arith) in
                  omega arith
            ]
          ]
      | inr from ↦
          let second = shifted links place link j d fits.0 (omega arith) in
          elim (cases_eq i place) [
            | inl at ↦
                let first = ap (λ (n : ℕ). (get_or (insert links place link) n d).index) at in
                let less = fits.2 (j - 1) d (omega arith) (omega arith) in
                omega arith
            | inr past ↦
                let first = shifted links place link i d fits.0 (omega arith) in
                let less = order (i - 1) (j - 1) d (omega arith) (omega arith) in
                omega arith
          ]
    ]

-- all links up to one that is below the index are
pub nearer_below : (links : List Link) (middle index : ℕ) (e : Link) → AreInOrder links → middle < length links → (get_or links middle e).index < index → (k : ℕ) (d : Link) → k < middle + 1 → (get_or links k d).index < index
nearer_below links middle index e order there less k d l =
    let same = ap (λ (x : Link). x.index) (get_or_default links middle d e there) in
    elim (cases_eq k middle) [
      | inl own ↦ subst (λ (n : ℕ). (get_or links n d).index < index) (sym own) (omega arith)
      | inr ne ↦ let before = order k middle d (omega arith) there in omega arith
    ]

-- all links from one that isn't are not
pub nearer_above : (links : List Link) (middle index : ℕ) (e : Link) → AreInOrder links → index ≤ (get_or links middle e).index → (k : ℕ) (d : Link) → middle ≤ k → k < length links → index ≤ (get_or links k d).index
nearer_above links middle index e order above k d l m =
    let same = ap (λ (x : Link). x.index) (get_or_default links middle d e (omega arith)) in
    elim (cases_eq k middle) [
      | inl own ↦ subst (λ (n : ℕ). index ≤ (get_or links n d).index) (sym own) (omega arith)
      | inr ne ↦ let after = order middle k d (omega arith) m in omega arith
    ]

-- nothing is seen from the index where no link is below it
pub nothing_below : (links : List Link) (index : ℕ) → ((k : ℕ) (d : Link) → k < length links → index ≤ (get_or links k d).index) → (i : ℕ) → i < index → found links i ≡ None
nothing_below links index above i l = found_none links i (λ k d m e. let after = above k d m in omega arith)

-- nothing stands between the last link below the index and the index
pub none_between : (links : List Link) (place index : ℕ) (link : Link) → AreInOrder links → place < length links → link.index ≡ (get_or links place link).index → ((k : ℕ) (d : Link) → place + 1 ≤ k → k < length links → index ≤ (get_or links k d).index) → (i : ℕ) → link.index < i → i < index → found links i ≡ None
none_between links place index link order there own above i after before =
    found_none links i (λ k d l e. elim (cases_lt place k) [
      | inl later ↦ let far = above k d (omega arith) l in omega arith
      | inr earlier ↦
          let last = ap (λ (x : Link). x.index) (get_or_default links place d link there) in
          elim (cases_eq k place) [
            | inl same ↦ let moved = ap (λ (n : ℕ). (get_or links n d).index) same in omega arith
            | inr ne ↦ let near = order k place d (omega arith) there in omega arith
          ]
    ])

-- between those below the index and those above it, the index would stand
pub fits_apart : (links : List Link) (index place : ℕ) (e : Link) → AreInOrder links → place < length links → ((k : ℕ) (d : Link) → k < place → (get_or links k d).index < index) → ((k : ℕ) (d : Link) → place ≤ k → k < length links → index ≤ (get_or links k d).index) → (get_or links place e).index ≢ index → FitsAt links index place
fits_apart links index place e order there below above ne = (
  omega arith,
  below,
  λ k d l m.
      let own = ap (λ (x : Link). x.index) (get_or_default links place d e there) in
      let first = above place d (omega arith) there in
      elim (cases_eq k place) [
        | inl same ↦ subst (λ (n : ℕ). index < (get_or links n d).index) (sym same) (omega arith)
        | inr other ↦ let after = order place k d (omega arith) m in omega arith
      ],
)

-- or last
pub fits_last : (links : List Link) (index place : ℕ) → place ≤ length links → length links ≤ place → ((k : ℕ) (d : Link) → k < place → (get_or links k d).index < index) → FitsAt links index place
fits_last links index place within full below = (within, below, λ k d l m. absurd (omega arith))

-- an ESTIMATE is written over the entry of the index
pub estimated_own : (links was : List Link) (place : ℕ) (link : Link) → AreInOrder links → StandsAt links link.index place → link ≡ get_or links place link → links ≡ was → found (set links place (record link { value = None })) link.index ≡ option_map estimate_of (found was link.index)
estimated_own links was place link order stands read same =
    set_own links place (record link { value = None }) order stands
    ∙ ap (λ (x : Link). option_map estimate_of (Some (held_of x))) read
    ∙ ap (option_map estimate_of) (sym (found_at links link.index place link order stands))
    ∙ ap (λ (xs : List Link). option_map estimate_of (found xs link.index)) same

-- the last link below the index is what is seen from there
pub last_seen : (links was : List Link) (place index : ℕ) (link : Link) → AreInOrder links → 0 < place → place ≤ length links → link ≡ get_or links (place - 1) link → ((k : ℕ) (d : Link) → k < place → (get_or links k d).index < index) → ((k : ℕ) (d : Link) → place ≤ k → k < length links → index ≤ (get_or links k d).index) → links ≡ was → (link.index < index) × (found was link.index ≡ Some (held_of link)) × ((i : ℕ) → link.index < i → i < index → found was i ≡ None)
last_seen links was place index link order some within read below above same =
    let own = ap (λ (x : Link). x.index) read in
    subst (λ (xs : List Link). (link.index < index) × (found xs link.index ≡ Some (held_of link)) × ((i : ℕ) → link.index < i → i < index → found xs i ≡ None)) same (
      let before = below (place - 1) link (omega arith) in omega arith,
      found_at links link.index (place - 1) link order (omega arith, λ d. ap (λ (x : Link). x.index) (get_or_default links (place - 1) d link (omega arith)) ∙ sym own)
          ∙ ap (λ (x : Link). Some (held_of x)) (sym read),
      none_between links (place - 1) index link order (omega arith) own (λ k d l. above k d (omega arith)),
    )

-- where two links stand, the first is before the second, which is found
pub first_two : (links : List Link) (first second : Link) → AreInOrder links → 1 < length links → first ≡ get_or links 0 first → second ≡ get_or links 1 second → (first.index < second.index) × IsSome (found links second.index)
first_two links first second order many a b =
    let before = order 0 1 first (omega arith) many in
    let own = ap (λ (x : Link). x.index) a in
    let next = ap (λ (x : Link). x.index) (b ∙ get_or_default links 1 second first many) in
    (omega arith, subst IsSome (sym (found_at links second.index 1 second order (many, λ d. ap (λ (x : Link). x.index) (get_or_default links 1 d second many ∙ sym b)))) refl)
