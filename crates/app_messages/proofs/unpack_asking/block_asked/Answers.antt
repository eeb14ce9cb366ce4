use Rattle.std.proofs.Common.{◌⊎◌, ℕ, List, map, inl, inr, arith, string_bytes}
use Rattle.std.proofs.lemmas.List.{length-map}
use Rattle.app_messages.specs.UnpackAsked.{AsksBlock, SaysBlock}
use Rattle.app_messages.proofs.unpack_asking.block_asked.Goals as goal

either : {A B X Y : Type 0} → (A → ⊥) → (B → ⊥) → (A × X) ⊎ (B × Y) → ⊥
either a b (inl one) = a one.0
either a b (inr other) = b other.0

none_asked : (words : List (List ℕ)) → ((number : ℕ) → SaysBlock words 2 number → ⊥) → ((number : ℕ) → SaysBlock words 3 number → ⊥)
    → (name : List ℕ) (number : ℕ) → AsksBlock words name number → ⊥
none_asked words front behind name number asked = either (front number) (behind number) asked.1

pub returns : goal.returns
returns c = (
  λ e. absurd (omega (arith, c.requires, e, length-map c.args.words.now string_bytes)),
  none_asked (map string_bytes c.args.words.now) c.in_default.ensures.none c.in_default-number_behind.ensures.none,
)
