-- What a text reads as, from what serde_json reads of it.
use Rattle.std.proofs.Common.{◌≡◌, ℕ, List, true, false, cond, Some, None, Result, Err, refl}
use Rattle.std.specs.Str.{IsUtf8, is_utf8}
use Rattle.std.proofs.lemmas.Str.{is_utf8-from_IsUtf8, IsUtf8-from_is_utf8}
use Rattle.serde_json.specs.Data.{Data}
use Rattle.serde_json.specs.Read.{read}
use Rattle.issuer_rows.specs.Fold.{Rows}
use Rattle.book_laws.specs.JsonFault.{fault_of_text}
use Rattle.book_laws.specs.Reading.{book_of, reading, IsAnswer}
use Rattle.book_laws.specs.Steps.{◌>>=◌, or_fault, IsFaultOrMemory}
use Rattle.book_laws.specs.declared.text_fault.TextFault.{TextFault}
use Rattle.book_laws.specs.declared.text_fault.TextFault.TheVariants.{Syntax, Shape, Range, OutOfMemory}

-- a text that serde_json reads
pub read_value : (text : List ℕ) (d : Data) → IsUtf8 text → read text ≡ Some d → reading text ≡ book_of d
read_value text d utf8 is = rw (is_utf8-from_IsUtf8 text utf8, is) refl

-- a text that it refuses
pub read_none : (text : List ℕ) → (IsUtf8 text → read text ≡ None) → reading text ≡ Err Syntax
read_none text none =
    elim (is_utf8 text) as (λ b. is_utf8 text ≡ b → (or_fault Syntax (cond b (read text) None) >>= book_of) ≡ Err Syntax) [
      | true ↦ λ e. rw (none (IsUtf8-from_is_utf8 text e)) refl
      | false ↦ λ e. refl
    ] refl

-- the first fault of a text is what a reader answers
pub answers_fault : (fault : TextFault) (read : Result Rows TextFault) → IsFaultOrMemory fault read → IsAnswer read (Err (fault_of_text fault))
answers_fault Syntax read is = is
answers_fault (Shape part) read is = is
answers_fault Range read is = is
answers_fault OutOfMemory read is = tt
