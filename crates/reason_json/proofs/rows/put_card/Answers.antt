use Rattle.book_laws.proofs.WrittenTokens.{then}
use Rattle.reason_json.proofs.RowTokens.{card_tokens, written_as}
use Rattle.reason_json.proofs.rows.put_card.Goals as goal

pub returns : goal.returns
returns c =
    written_as (card_tokens c.args.cards c.args.pan c.args.card.now)
    (then c.in_ok-begin_row.ensures (then c.in_ok-first_account_field.ensures (then c.in_ok-put_limits.ensures (then c.in_ok-pan_field.ensures (then c.in_ok-second_account_field.ensures (then c.in_ok-status_field.ensures c.in_ok-end_object.ensures))))))
