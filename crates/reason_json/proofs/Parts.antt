-- Arrays of rows, and objects, as they are written.
use Rattle.std.proofs.Common.{◌≡◌, ℕ, zero, suc, ◌+◌, List, [], ◌∷◌, ◌++◌, take, map, Some, slice_get, refl, sym, ap, ◌∙◌, append_assoc, add-one, subst}
use Rattle.std.proofs.lemmas.List.{append-nil}
use Rattle.std.specs.List.{flat_map}
use Rattle.std.proofs.lemmas.Option.{same_Some, none-some}
use Rattle.json.specs.Token.{Token, begin_array, begin_object, end_array, end_object}
use Rattle.json.specs.Tree.{items_tokens}
use Rattle.serde_json.specs.Data.{Data, array, object}
use Rattle.serde_json.specs.Written.{items_outline}
use Rattle.book_laws.specs.Text.{Adds, JsonText, members, tokens_of}
use Rattle.book_laws.proofs.WrittenTokens.{then}
use Rattle.message_text.specs.Lines.{Member, all_tokens}
use Rattle.message_text.proofs.ElementMembers.{all_append, members_are}
use Rattle.reason_json.specs.Lines.{items}

-- ---- one item after another

so_far : {X : Type 0} (f : X → List Token) (xs : List X) (i : ℕ) (x : X) → slice_get xs i ≡ Some x
    → flat_map f (take (suc i) xs) ≡ flat_map f (take i xs) ++ f x
so_far f [] i x at = absurd (none-some x at)
so_far f (y ∷ xs) zero x at = append-nil (f y) ∙ ap f (same_Some y x at)
so_far f (y ∷ xs) (suc i) x at = ap (λ rest. f y ++ rest) (so_far f xs i x at) ∙ sym (append_assoc (f y) (flat_map f (take i xs)) (f x))

-- the next item is written behind the first ones
pub one_more : {X : Type 0} (f : X → List Token) (xs : List X) (i : ℕ) (x : X) {a b c : JsonText} → slice_get xs i ≡ Some x
    → Adds a b (flat_map f (take i xs)) → Adds b c (f x) → Adds a c (flat_map f (take (i + 1) xs))
one_more f xs i x {a} {b} {c} at before next =
    subst (λ (ts : List Token). Adds a c ts) (sym (rw add-one (so_far f xs i x at))) (then before next)

-- ---- arrays

items_are : {X : Type 0} (f : X → Data) (xs : List X)
    → flat_map (λ (x : X). tokens_of (f x)) xs ++ end_array ∷ [] ≡ items_tokens (items_outline (items (map f xs)))
items_are f [] = refl
items_are f (x ∷ xs) =
    append_assoc (tokens_of (f x)) (flat_map (λ x'. tokens_of (f x')) xs) (end_array ∷ [])
    ∙ ap (λ (ts : List Token). tokens_of (f x) ++ ts) (items_are f xs)

-- the brackets and the items between them are the array
pub array_tokens : {X : Type 0} (f : X → Data) (xs : List X)
    → (begin_array ∷ []) ++ (flat_map (λ (x : X). tokens_of (f x)) xs ++ end_array ∷ []) ≡ tokens_of (array (items (map f xs)))
array_tokens f xs = ap (λ (ts : List Token). begin_array ∷ ts) (items_are f xs)

-- ---- objects

-- the braces and the members between them are the object
pub object_tokens : (ms : List Member) → (begin_object ∷ []) ++ (all_tokens ms ++ end_object ∷ []) ≡ tokens_of (object (members ms))
object_tokens ms = ap (λ (ts : List Token). begin_object ∷ ts) (sym (members_are ms))

-- members behind others
pub all_behind : (ps qs ms : List Member) → all_tokens ps ++ (all_tokens qs ++ all_tokens ms) ≡ all_tokens (ps ++ (qs ++ ms))
all_behind ps qs ms = ap (λ (ts : List Token). all_tokens ps ++ ts) (sym (all_append qs ms)) ∙ sym (all_append ps (qs ++ ms))
