-- The entry of a row is a plain value, so that its text is read again.
use Rattle.std.proofs.Common.{◌≡◌, ℕ, ◌<◌, true, ◌&&◌, List, [], ◌∷◌, All, Option, Some, None, IfSome, refl, arith, nat_le}
use Rattle.std.proofs.lemmas.Bool.{and_parts}
use Rattle.std.proofs.lemmas.Bool.Decides.{nat_tests}
use Rattle.std.proofs.lemmas.List.Elements.{All-nil, All-cons}
use Rattle.std.proofs.lemmas.Str.Ascii.{IsAscii-from_all}
use Rattle.std.proofs.lemmas.Str.{IsUtf8-from_ascii}
use Rattle.std.specs.Str.{IsUtf8}
use Rattle.iso8583.proofs.NumberLaws.{alphanumeric_digits}
use Rattle.issuer_words.specs.Words.{AccountId, AccountRow, Approval, BudgetMode, BudgetRow, CardRow, CardStatus, Identity, IsDigits, IsPrintable, KeptOriginal, Mark, OriginalKind, Pan, PanPrefix, VelocityRow, is_printable}
use Rattle.iso8583.specs.declared.original_kind.OriginalKind.TheVariants.{Request, Advice}
use Rattle.json.proofs.Printed.Utf8.{IsUtf8-are_ascii}
use Rattle.issuer_rows.specs.declared.budget_mode.BudgetMode.TheVariants.{Direct, StandIn}
use Rattle.issuer_rows.specs.declared.card_status.CardStatus.TheVariants.{Active, Blocked, Lost, Stolen}
use Rattle.issuer_rows.specs.declared.row_key.RowKey.TheVariants as key
use Rattle.issuer_rows.specs.declared.row_val.RowVal.TheVariants as val
use Rattle.book_laws.specs.Originals.{entry_of_kept, kept_of}
use Rattle.book_laws.specs.Ranges.{IsIdentity, IsAccountId, IsApproval, IsOriginalEntry, IsCard, IsDayRow, IsBudget, IsMark, IsAccount}
use Rattle.book_laws.specs.Text.{IsPlain, IsReadAgain, optional_data, account_id_data, approval_data, identity_data, card_data, day_data, budget_data, original_data, mark_data, account_data}
use Rattle.book_laws.specs.Words.{status_word, mode_word, kind_word, paid_word}
use Rattle.book_laws.specs.declared.original_entry.OriginalEntry.{OriginalEntry}
use Rattle.book_laws.specs.declared.paid.Paid.{Paid}
use Rattle.book_laws.specs.declared.paid.Paid.TheVariants as paid
use Rattle.book_laws.proofs.Characters.{alphanumeric_utf8}
use Rattle.book_laws.proofs.OriginalsAgain.{original_again}
use Rattle.book_laws.proofs.RowsAgain.{card_again, day_again, budget_again, mark_again, account_again}

-- ---- texts

digits_utf8 : (text : List ℕ) → IsDigits text → IsUtf8 text
digits_utf8 text h = alphanumeric_utf8 text (alphanumeric_digits text h)

below : (c : ℕ) → (nat_le 32 c && nat_le c 126) ≡ true → c < 128
below c h = grind (arith, nat_tests, h)

all_below : (text : List ℕ) → IsPrintable text → All (λ b. b < 128) text
all_below [] h = All-nil (λ b. b < 128)
all_below (c ∷ cs) h = let p = and_parts (nat_le 32 c && nat_le c 126) (is_printable cs) h in All-cons (λ b. b < 128) c cs (below c p.0) (all_below cs p.1)

printable_utf8 : (text : List ℕ) → IsPrintable text → IsUtf8 text
printable_utf8 text h = IsUtf8-from_ascii text (IsAscii-from_all text (all_below text h))

status_utf8 : (status : CardStatus) → IsUtf8 (status_word status)
status_utf8 Active = IsUtf8-are_ascii _ refl
status_utf8 Blocked = IsUtf8-are_ascii _ refl
status_utf8 Lost = IsUtf8-are_ascii _ refl
status_utf8 Stolen = IsUtf8-are_ascii _ refl

mode_utf8 : (mode : BudgetMode) → IsUtf8 (mode_word mode)
mode_utf8 Direct = IsUtf8-are_ascii _ refl
mode_utf8 StandIn = IsUtf8-are_ascii _ refl

kind_utf8 : (kind : OriginalKind) → IsUtf8 (kind_word kind)
kind_utf8 Request = IsUtf8-are_ascii _ refl
kind_utf8 Advice = IsUtf8-are_ascii _ refl

paid_utf8 : (by : Paid) → IsUtf8 (paid_word by)
paid_utf8 paid.Nothing = IsUtf8-are_ascii _ refl
paid_utf8 paid.Card = IsUtf8-are_ascii _ refl
paid_utf8 paid.Account = IsUtf8-are_ascii _ refl
paid_utf8 paid.Budget = IsUtf8-are_ascii _ refl

-- ---- what may be null

account_id_plain : (o : Option AccountId) → IfSome o IsAccountId → IsPlain (optional_data account_id_data o)
account_id_plain None h = tt
account_id_plain (Some id) h = printable_utf8 id.0 h.2

approval_plain : (o : Option Approval) → IfSome o IsApproval → IsPlain (optional_data approval_data o)
approval_plain None h = tt
approval_plain (Some code) h = alphanumeric_utf8 code.0 h.1

identity_of_plain : (identity : Identity) → IsIdentity identity → IsPlain (identity_data identity)
identity_of_plain identity h = (
  IsUtf8-are_ascii _ refl,
  digits_utf8 _ h.acquirer.2,
  (IsUtf8-are_ascii _ refl, digits_utf8 _ h.stamp.1, (IsUtf8-are_ascii _ refl, digits_utf8 _ h.stan.digits, tt)),
)

identity_plain : (o : Option Identity) → IfSome o IsIdentity → IsPlain (optional_data identity_data o)
identity_plain None h = tt
identity_plain (Some identity) h = identity_of_plain identity h

-- ---- entries

card_plain : (pan : Pan) (card : CardRow) → IsCard pan card → IsPlain (card_data pan card)
card_plain pan card h = (
  IsUtf8-are_ascii _ refl,
  printable_utf8 _ h.account.2,
  (
    IsUtf8-are_ascii _ refl,
    omega (arith, h.approvals),
    (
      IsUtf8-are_ascii _ refl,
      omega (arith, h.day_amount),
      (
        IsUtf8-are_ascii _ refl,
        omega (arith, h.day_count),
        (
          IsUtf8-are_ascii _ refl,
          digits_utf8 _ h.expiry.1,
          (
            IsUtf8-are_ascii _ refl,
            digits_utf8 _ h.pan.2,
            (
              IsUtf8-are_ascii _ refl,
              account_id_plain card.accounts.second h.second,
              (IsUtf8-are_ascii _ refl, status_utf8 card.status, tt),
            ),
          ),
        ),
      ),
    ),
  ),
)

day_plain : (pan : Pan) (day : List ℕ) (row : VelocityRow) → IsDayRow pan day row → IsPlain (day_data pan day row)
day_plain pan day row h = (
  IsUtf8-are_ascii _ refl,
  omega (arith, h.count),
  (
    IsUtf8-are_ascii _ refl,
    digits_utf8 _ h.day.1,
    (
      IsUtf8-are_ascii _ refl,
      digits_utf8 _ h.pan.2,
      (IsUtf8-are_ascii _ refl, omega (arith, h.sum), tt),
    ),
  ),
)

budget_plain : (prefix : PanPrefix) (row : BudgetRow) → IsBudget prefix row → IsPlain (budget_data prefix row)
budget_plain prefix row h = (
  IsUtf8-are_ascii _ refl,
  omega (arith, h.cap),
  (
    IsUtf8-are_ascii _ refl,
    omega (arith, h.left),
    (
      IsUtf8-are_ascii _ refl,
      mode_utf8 row.mode,
      (IsUtf8-are_ascii _ refl, digits_utf8 _ h.prefix.digits, tt),
    ),
  ),
)

original_plain : (identity : Identity) (e : OriginalEntry) → IsOriginalEntry identity e → IsPlain (original_data identity e)
original_plain identity e h = (
  IsUtf8-are_ascii _ refl,
  account_id_plain e.account h.account,
  (
    IsUtf8-are_ascii _ refl,
    digits_utf8 _ h.named.acquirer.2,
    (
      IsUtf8-are_ascii _ refl,
      digits_utf8 _ h.digits.digits,
      (
        IsUtf8-are_ascii _ refl,
        omega (arith, h.amount),
        (
          IsUtf8-are_ascii _ refl,
          approval_plain e.approval h.approval,
          (
            IsUtf8-are_ascii _ refl,
            kind_utf8 e.kind,
            (
              IsUtf8-are_ascii _ refl,
              paid_utf8 e.paid,
              (
                IsUtf8-are_ascii _ refl,
                digits_utf8 _ h.pan.2,
                (
                  IsUtf8-are_ascii _ refl,
                  digits_utf8 _ h.processing.digits,
                  (
                    IsUtf8-are_ascii _ refl,
                    identity_plain e.reversed h.reversed,
                    (
                      IsUtf8-are_ascii _ refl,
                      digits_utf8 _ h.named.stamp.1,
                      (
                        IsUtf8-are_ascii _ refl,
                        omega (arith, h.stay),
                        (IsUtf8-are_ascii _ refl, digits_utf8 _ h.named.stan.digits, tt),
                      ),
                    ),
                  ),
                ),
              ),
            ),
          ),
        ),
      ),
    ),
  ),
)

mark_plain : (identity : Identity) (mark : Mark) → IsMark identity mark → IsPlain (mark_data identity mark)
mark_plain identity mark h = (
  IsUtf8-are_ascii _ refl,
  digits_utf8 _ h.named.acquirer.2,
  (
    IsUtf8-are_ascii _ refl,
    kind_utf8 mark.kind,
    (
      IsUtf8-are_ascii _ refl,
      digits_utf8 _ h.card.2,
      (
        IsUtf8-are_ascii _ refl,
        identity_of_plain mark.reversal h.reversal,
        (
          IsUtf8-are_ascii _ refl,
          digits_utf8 _ h.named.stamp.1,
          (IsUtf8-are_ascii _ refl, digits_utf8 _ h.named.stan.digits, tt),
        ),
      ),
    ),
  ),
)

account_plain : (id : AccountId) (row : AccountRow) → IsAccount id row → IsPlain (account_data id row)
account_plain id row h = (
  IsUtf8-are_ascii _ refl,
  omega (arith, h.available),
  (
    IsUtf8-are_ascii _ refl,
    digits_utf8 _ h.currency.digits,
    (IsUtf8-are_ascii _ refl, printable_utf8 _ h.id.2, tt),
  ),
)

-- ---- rows

pub card_read : (pan : Pan) (card : CardRow) → IsCard pan card → IsReadAgain (key.Card pan, val.Card card)
card_read pan card h = record { back = card_again pan card h; plain = card_plain pan card h }

pub day_read : (pan : Pan) (day : List ℕ) (row : VelocityRow) → IsDayRow pan day row → IsReadAgain (key.Velocity pan day, val.Velocity row)
day_read pan day row h = record { back = day_again pan day row h; plain = day_plain pan day row h }

pub budget_read : (prefix : PanPrefix) (row : BudgetRow) → IsBudget prefix row → IsReadAgain (key.Budget prefix, val.Budget row)
budget_read prefix row h = record { back = budget_again prefix row h; plain = budget_plain prefix row h }

pub original_read : (identity : Identity) (k : KeptOriginal) → IsOriginalEntry identity (entry_of_kept k) → kept_of (entry_of_kept k) ≡ Some k → IsReadAgain (key.Original identity, val.Kept k)
original_read identity k h kept = record { back = original_again identity k h kept; plain = original_plain identity (entry_of_kept k) h }

pub mark_read : (identity : Identity) (mark : Mark) → IsMark identity mark → IsReadAgain (key.Original identity, val.Ahead mark)
mark_read identity mark h = record { back = mark_again identity mark h; plain = mark_plain identity mark h }

pub account_read : (id : AccountId) (row : AccountRow) → IsAccount id row → IsReadAgain (key.Account id, val.Account row)
account_read id row h = record { back = account_again id row h; plain = account_plain id row h }
