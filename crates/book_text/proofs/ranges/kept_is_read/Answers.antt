use Rattle.iso8583.proofs.NumberLaws.{length-fixed_digits, is_digits-fixed_digits}
use Rattle.book_laws.specs.Originals.{entry_of_kept}
use Rattle.book_laws.proofs.RowsPlain.{original_read}
use Rattle.book_text.proofs.ranges.kept_is_read.Goals as goal

pub returns : goal.returns
returns c =
    let entry = entry_of_kept c.args.kept.now in
    original_read c.args.identity c.args.kept.now
    (record {
      named = c.identity_in_range.ensures;
      account = c.kept_in_range.ensures.account;
      action = c.kept_in_range.ensures.action;
      digits = record { len = length-fixed_digits 3 entry.action; digits = is_digits-fixed_digits 3 entry.action };
      amount = c.kept_in_range.ensures.amount;
      approval = c.kept_in_range.ensures.approval;
      pan = c.kept_in_range.ensures.pan;
      processing = c.kept_in_range.ensures.processing;
      reversed = c.kept_in_range.ensures.reversed;
      stay = c.kept_in_range.ensures.stay;
    })
    c.kept_in_range.ensures.back
