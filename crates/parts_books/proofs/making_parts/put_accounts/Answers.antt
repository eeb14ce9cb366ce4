use Rattle.std.proofs.Common.{sym}
use Rattle.std.specs.FinMap as map
use Rattle.parts_books.proofs.Going.{goes_again}
use Rattle.parts_books.specs.PartBooks.{has_account_at}
use Rattle.parts_books.proofs.making_parts.put_accounts.Goals as goal

pub loop-key-preserved : goal.loop-key-preserved
loop-key-preserved c =
    goes_again (has_account_at c.args.book.now) c.args.keys.now c.loop-key.key-index c.key-item.result (map.get c.args.book.now) c.args.other.now c.loop-key.other c.put_account.new.other c.loop-key-test.true (sym c.key-item.is) c.loop-key.invariant c.in_ok-put_account.ensures
