-- Where each message is of its head's part, and no link leads from one part to another, no two parts may need one row.
use Rattle.std.proofs.Common.{◌≡◌, ℕ, zero, suc, ◌<◌, List, [], ◌∷◌, ◌++◌, length, map, zip, Some, slice_get, ◌⊎◌, inl, inr, refl, sym, ap, ◌∙◌, subst}
use Rattle.std.proofs.lemmas.Option.{none-some, same_Some}
use Rattle.std.specs.List.{AllByRecursion}
use Rattle.issuer_laws.specs.Parts.{IsIn, may_need, AreApart}
use Rattle.issuer_words.specs.Words.{Frame, RowKey, Rows}
use Rattle.engine_parts.proofs.TieLaws.{all_kept, of_each}
use Rattle.engine_parts.specs.Ties.{Numbers, number_in, tie_of, AreLinked, IsTied, AreKept, AreTied, HaveHeads, part_at, IsOfOnePart}
use Rattle.engine_parts.specs.declared.link.Link.{Link}

-- the message that stands in the list has a head, and is of its part
record IsHeaded (table heads : List ℕ) (frames : List Frame) (m : ℕ × Frame) : Type 0 where
  index : ℕ
  head : ℕ
  headed : slice_get heads index ≡ Some head
  framed : slice_get frames index ≡ Some m.1
  part : m.0 ≡ part_at table head

is_headed : (table heads : List ℕ) (frames : List Frame) (m : ℕ × Frame) → IsIn m (zip (map (part_at table) heads) frames) → IsHeaded table heads frames m
is_headed table [] frames m h = absurd h
is_headed table (head ∷ heads) [] m h = absurd h
is_headed table (head ∷ heads) (frame ∷ frames) m (inl e) =
    record { index = 0; head = head; headed = refl; framed = ap (λ (n : ℕ × Frame). Some n.1) (sym e); part = ap (λ (n : ℕ × Frame). n.0) e }
is_headed table (head ∷ heads) (frame ∷ frames) m (inr h) =
    let rest = is_headed table heads frames m h in
    record { index = suc rest.index; head = rest.head; headed = rest.headed; framed = rest.framed; part = rest.part }

-- what stands for a row has a number of the part
record IsOwned (numbers : Numbers) (table : List ℕ) (part : ℕ) (key : RowKey) : Type 0 where
  number : ℕ
  has : number_in numbers (tie_of key) ≡ Some number
  owned : part_at table number ≡ part

linked_part : (links : List Link) (table : List ℕ) (head number : ℕ) → AllByRecursion (IsOfOnePart table) links → AreLinked links head number → part_at table number ≡ part_at table head
linked_part links table head number all (inl same) = ap (part_at table) same
linked_part links table head number all (inr there) = sym (of_each (IsOfOnePart table) (record { head = head; other = number }) links all there)

is_owned : (rows : Rows) (numbers : Numbers) (links : List Link) (table heads : List ℕ) (frames : List Frame) → HaveHeads rows numbers links heads frames
    → AllByRecursion (IsOfOnePart table) links → (m : ℕ × Frame) → IsIn m (zip (map (part_at table) heads) frames) → (key : RowKey) → IsIn key (may_need rows m.1)
    → IsOwned numbers table m.0 key
is_owned rows numbers links table heads frames have all m there key needed =
    let at = is_headed table heads frames m there in
    let tied : IsTied numbers links at.head key = of_each (IsTied numbers links at.head) key (may_need rows m.1) (have at.index at.head m.1 at.headed at.framed) needed in
    record { number = tied.0; has = tied.1; owned = linked_part links table at.head tied.0 all tied.2 ∙ sym at.part }

-- one key has one number, so one part
pub are_apart : (rows : Rows) (numbers : Numbers) (links : List Link) (table heads : List ℕ) (frames : List Frame) → HaveHeads rows numbers links heads frames
    → AllByRecursion (IsOfOnePart table) links → AreApart rows (zip (map (part_at table) heads) frames)
are_apart rows numbers links table heads frames have all p q key apart a b =
    let one = is_owned rows numbers links table heads frames have all a.0 a.1 key a.3 in
    let other = is_owned rows numbers links table heads frames have all b.0 b.1 key b.3 in
    let same : one.number ≡ other.number = same_Some one.number other.number (sym one.has ∙ other.has) in
    apart (sym a.2 ∙ (sym one.owned ∙ ap (part_at table) same ∙ other.owned) ∙ b.2)

-- each part that the table gives is below their number
pub part_below : (table : List ℕ) (count : ℕ) → 0 < count → AllByRecursion (λ part. part < count) table → (number : ℕ) → part_at table number < count
part_below [] count some all number = some
part_below (part ∷ table) count some all zero = all.0
part_below (part ∷ table) count some all (suc number) = part_below table count some all.1 number

pub parts_below : (table : List ℕ) (count : ℕ) → 0 < count → AllByRecursion (λ part. part < count) table → (heads : List ℕ) → AllByRecursion (λ part. part < count) (map (part_at table) heads)
parts_below table count some all [] = tt
parts_below table count some all (head ∷ heads) = (part_below table count some all head, parts_below table count some all heads)

-- what stands in a list with one more at its end
last_or_before : {A : Type 0} (xs : List A) (x y : A) (i : ℕ) → slice_get (xs ++ x ∷ []) i ≡ Some y → (slice_get xs i ≡ Some y) ⊎ ((i ≡ length xs) × (x ≡ y))
last_or_before [] x y zero h = inr (refl, same_Some x y h)
last_or_before [] x y (suc i) h = absurd (none-some y h)
last_or_before (z ∷ xs) x y zero h = inl h
last_or_before (z ∷ xs) x y (suc i) h =
    elim (last_or_before xs x y i h) [
      | inl before ↦ inl before
      | inr last ↦ inr (ap suc last.0, last.1)
    ]

-- one message more has a head
pub one_more : (rows : Rows) (a b : Numbers) (k l : List Link) (heads : List ℕ) (head : ℕ) (frames : List Frame) (frame : Frame) → HaveHeads rows a k heads frames → AreKept a b k l
    → slice_get frames (length heads) ≡ Some frame → AreTied b l head (may_need rows frame) → HaveHeads rows b l (heads ++ head ∷ []) frames
one_more rows a b k l heads head frames frame have kept at tied i h f headed framed =
    elim (last_or_before heads head h i headed) [
      | inl before ↦ all_kept a b k l h (may_need rows f) kept (have i h f before framed)
      | inr last ↦
          let same : frame ≡ f = same_Some frame f (sym at ∙ (ap (slice_get frames) (sym last.0) ∙ framed)) in
          subst (λ (n : ℕ). AreTied b l n (may_need rows f)) last.1 (subst (λ (g : Frame). AreTied b l head (may_need rows g)) same tied)
    ]
