-- What is written of a message or a reply.
use Rattle.std.specs.Prelude.{◌≡◌, ℕ, ◌+◌, ◌≤◌, Bool, List, ◌++◌, option_map, if◌then◌else◌}
use Rattle.arrayvec.specs.ArrayVec.{ArrayVec, array_vec_len}
use Rattle.std.specs.List.{flat_map}
use Rattle.iso8583.specs.Number.{fixed_digits}
use Rattle.iso_encoder.specs.declared.parts.Parts.{Parts}
use Rattle.iso_laws.specs.declared.element.Element.{Element}
use Rattle.iso_laws.specs.declared.element.Element.TheVariants as element
use Rattle.iso_laws.specs.Elements.{original_text, twelve_zeros}
use Rattle.iso_laws.specs.Spelling.{Texts, field, fields_among}
use Rattle.iso_laws.specs.Messages.{account_text}
use Rattle.iso_laws.specs.Transactions.{transaction_texts}

-- the texts of all elements: those of the transaction, and those beside it
abbrev pub written_texts : Parts → Texts
written_texts x element.Function = x.function
written_texts x element.OriginalAmount = option_map (λ n. fixed_digits 12 n ++ twelve_zeros) x.original_amount
written_texts x element.Approval = option_map (λ c. c.0) x.approval
written_texts x element.Action = x.action
written_texts x element.Original = option_map (λ o. original_text o) x.original
written_texts x element.Account = account_text x.account
written_texts x e = transaction_texts x.transaction.now e

-- of these elements those that are there were appended, in at most so many bytes
pub record Writes (x : Parts) (es : List Element) (old new : ArrayVec ℕ) (most : ℕ) : Type 0 where
  pub items : new.items ≡ old.items ++ flat_map field (fields_among es (written_texts x))
  pub len : array_vec_len new ≤ array_vec_len old + most

-- the bit of an element, if it is there
abbrev pub bit_if : Bool → ℕ → ℕ
bit_if there bit = if there then bit else 0
