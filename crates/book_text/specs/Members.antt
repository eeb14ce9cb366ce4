-- The names of an entry's members.
use Rattle.std.specs.Prelude.{ℕ, List, [], ◌∷◌, ◌++◌, codes}
use Rattle.book_text.specs.declared.member.Member.{Member}
use Rattle.book_text.specs.declared.member.Member.TheVariants as member

-- a member's name
abbrev pub name_of : Member → List ℕ
name_of member.Account = codes "account"
name_of member.Acquirer = codes "acquirer"
name_of member.Action = codes "action"
name_of member.Amount = codes "amount"
name_of member.Approval = codes "approval"
name_of member.Approvals = codes "approvals"
name_of member.Available = codes "available"
name_of member.Cap = codes "cap"
name_of member.Count = codes "count"
name_of member.Currency = codes "currency"
name_of member.Day = codes "day"
name_of member.DayAmount = codes "day_amount"
name_of member.DayCount = codes "day_count"
name_of member.Expiry = codes "expiry"
name_of member.Id = codes "id"
name_of member.Kind = codes "kind"
name_of member.Left = codes "left"
name_of member.Mode = codes "mode"
name_of member.Paid = codes "paid"
name_of member.Pan = codes "pan"
name_of member.Prefix = codes "prefix"
name_of member.Processing = codes "processing"
name_of member.Reversal = codes "reversal"
name_of member.Reversed = codes "reversed"
name_of member.Second = codes "second"
name_of member.Stamp = codes "stamp"
name_of member.Status = codes "status"
name_of member.Stay = codes "stay"
name_of member.Sum = codes "sum"
name_of member.Trace = codes "trace"

-- the name with its quotes and its colon
abbrev pub name_text : Member → List ℕ
name_text member = 34 ∷ (name_of member ++ 34 ∷ 58 ∷ [])
