-- The JSON value of a text, from what serde_json reads of it.
use Rattle.std.proofs.Common.{◌≡◌, ℕ, List, true, false, cond, Some, None, refl}
use Rattle.std.specs.Str.{IsUtf8, is_utf8}
use Rattle.std.proofs.lemmas.Str.{is_utf8-from_IsUtf8, IsUtf8-from_is_utf8}
use Rattle.serde_json.specs.Data.{Data}
use Rattle.serde_json.specs.Read.{read}
use Rattle.book_laws.specs.Reading.{value_of}

-- a text that serde_json reads
pub value_is : (text : List ℕ) (d : Data) → IsUtf8 text → read text ≡ Some d → value_of text ≡ Some d
value_is text d utf8 is = rw (is_utf8-from_IsUtf8 text utf8, is) refl

-- a text that it refuses
pub value_none : (text : List ℕ) → (IsUtf8 text → read text ≡ None) → value_of text ≡ None
value_none text none =
    elim (is_utf8 text) as (λ b. is_utf8 text ≡ b → cond b (read text) None ≡ None) [
      | true ↦ λ e. none (IsUtf8-from_is_utf8 text e)
      | false ↦ λ e. refl
    ] refl
