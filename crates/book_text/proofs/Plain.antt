-- Texts that need no escapes.
use Rattle.std.proofs.Common.{◌≡◌, ℕ, Bool, true, ◌||◌, ◌==◌, List, [], ◌∷◌, ◌++◌, refl, arith, All}
use Rattle.std.proofs.lemmas.Bool.Decides.{nat_tests}
use Rattle.std.proofs.lemmas.Bool.{and_parts}
use Rattle.std.specs.List.{list_all, AllByRecursion}
use Rattle.std.specs.Char.{is_ascii_digit, is_ascii_alphanumeric}
use Rattle.std.proofs.lemmas.List.Elements.{recursion_from_All}
use Rattle.json.specs.Print.{escape, escape_byte}
use Rattle.json.proofs.Printed.Strings.{escape_byte_plain}
use Rattle.issuer_words.specs.Words.{BudgetMode, CardStatus, IsAlphanumeric, IsDigits, OriginalKind}
use Rattle.iso8583.specs.declared.original_kind.OriginalKind.TheVariants as kind
use Rattle.issuer_rows.specs.declared.budget_mode.BudgetMode.TheVariants as mode
use Rattle.issuer_rows.specs.declared.card_status.CardStatus.TheVariants as status
use Rattle.book_laws.specs.Words.{status_word, mode_word, kind_word, paid_word}
use Rattle.book_laws.specs.declared.paid.Paid.{Paid}
use Rattle.book_laws.specs.declared.paid.Paid.TheVariants as paid
use Rattle.book_text.specs.Members.{name_of}
use Rattle.book_text.specs.declared.member.Member.{Member}
use Rattle.book_text.specs.declared.member.Member.TheVariants as member
use Rattle.book_text.specs.Escapes.{IsPlainByte}

-- a text of which each byte needs none
plain_by : (p : ℕ → Bool) → ((x : ℕ) → p x ≡ true → escape_byte x ≡ x ∷ []) → (text : List ℕ) → list_all p text ≡ true → escape text ≡ text
plain_by p one [] h = refl
plain_by p one (x ∷ xs) h = let q = and_parts (p x) (list_all p xs) h in λ i. one x q.0 i ++ plain_by p one xs q.1 i

plain_digit : (x : ℕ) → is_ascii_digit x ≡ true → escape_byte x ≡ x ∷ []
plain_digit x h = escape_byte_plain x (λ e. grind (arith, nat_tests, h, e)) (λ e. grind (arith, nat_tests, h, e)) (grind (arith, nat_tests, h))

plain_alphanumeric : (x : ℕ) → (is_ascii_alphanumeric x || x == 32) ≡ true → escape_byte x ≡ x ∷ []
plain_alphanumeric x h = escape_byte_plain x (λ e. grind (arith, nat_tests, h, e)) (λ e. grind (arith, nat_tests, h, e)) (grind (arith, nat_tests, h))

pub digits_plain : (text : List ℕ) → IsDigits text → escape text ≡ text
digits_plain text h = plain_by is_ascii_digit plain_digit text h

pub alphanumeric_plain : (text : List ℕ) → IsAlphanumeric text → escape text ≡ text
alphanumeric_plain text h = plain_by (λ c. is_ascii_alphanumeric c || c == 32) plain_alphanumeric text h

plain_each : (text : List ℕ) → AllByRecursion IsPlainByte text → escape text ≡ text
plain_each [] all = refl
plain_each (x ∷ xs) all = λ i. escape_byte_plain x all.0.1 all.0.2 all.0.0 i ++ plain_each xs all.1 i

-- one of bytes that stand for themselves
pub plain_text : (text : List ℕ) → All IsPlainByte text → escape text ≡ text
plain_text text all = plain_each text (recursion_from_All IsPlainByte text all)

-- ---- names and words

pub name_plain : (m : Member) → escape (name_of m) ≡ name_of m
unfolding escape_byte
name_plain member.Account = refl
name_plain member.Acquirer = refl
name_plain member.Action = refl
name_plain member.Amount = refl
name_plain member.Approval = refl
name_plain member.Approvals = refl
name_plain member.Available = refl
name_plain member.Cap = refl
name_plain member.Count = refl
name_plain member.Currency = refl
name_plain member.Day = refl
name_plain member.DayAmount = refl
name_plain member.DayCount = refl
name_plain member.Expiry = refl
name_plain member.Id = refl
name_plain member.Kind = refl
name_plain member.Left = refl
name_plain member.Mode = refl
name_plain member.Paid = refl
name_plain member.Pan = refl
name_plain member.Prefix = refl
name_plain member.Processing = refl
name_plain member.Reversal = refl
name_plain member.Reversed = refl
name_plain member.Second = refl
name_plain member.Stamp = refl
name_plain member.Status = refl
name_plain member.Stay = refl
name_plain member.Sum = refl
name_plain member.Trace = refl

pub status_plain : (s : CardStatus) → escape (status_word s) ≡ status_word s
unfolding escape_byte
status_plain status.Active = refl
status_plain status.Blocked = refl
status_plain status.Lost = refl
status_plain status.Stolen = refl

pub mode_plain : (m : BudgetMode) → escape (mode_word m) ≡ mode_word m
unfolding escape_byte
mode_plain mode.Direct = refl
mode_plain mode.StandIn = refl

pub kind_plain : (k : OriginalKind) → escape (kind_word k) ≡ kind_word k
unfolding escape_byte
kind_plain kind.Request = refl
kind_plain kind.Advice = refl

pub paid_plain : (p : Paid) → escape (paid_word p) ≡ paid_word p
unfolding escape_byte
paid_plain paid.Nothing = refl
paid_plain paid.Card = refl
paid_plain paid.Account = refl
paid_plain paid.Budget = refl
