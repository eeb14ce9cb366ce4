use Rattle.std.proofs.Common.{refl, append_assoc}
use Rattle.stm_journal_text.proofs.writing.put_key.Goals as goal

pub returns-in-Account-clause-items : goal.returns-in-Account-clause-items
returns-in-Account-clause-items c =
    rw (c.put_account.ensures.items, c.put-in-Account.ensures.items, c.in-Account.is, append_assoc) refl
