-- The words of messages, rows and tables, from one place.
pub use Rattle.iso8583.specs.Calendar.{IsDay, IsLocalStamp, is_day, is_local_stamp, is_month}
pub use Rattle.iso8583.specs.Class.{IsAlphanumeric, IsDigits, IsPrintable, is_alphanumeric, is_digits, is_printable}
pub use Rattle.iso8583.specs.CodecFault.{element_of_fault, number_of_fault}
pub use Rattle.iso8583.specs.Luhn.{passes_luhn}
pub use Rattle.iso8583.specs.Number.{number_of}
unfoldable pub use Rattle.iso8583.specs.Number.{fixed_digits}
pub use Rattle.iso8583.specs.Padded.{HasDigits, HasPrintable}
pub use Rattle.iso8583.specs.declared.account_id.AccountId.{AccountId}
pub use Rattle.iso8583.specs.declared.acquirer.Acquirer.{Acquirer}
pub use Rattle.iso8583.specs.declared.advice.Advice.{Advice}
pub use Rattle.iso8583.specs.declared.approval.Approval.{Approval}
pub use Rattle.iso8583.specs.declared.codec_fault.CodecFault.{CodecFault}
pub use Rattle.iso8583.specs.declared.currency.Currency.{Currency}
pub use Rattle.iso8583.specs.declared.identity.Identity.{Identity}
pub use Rattle.iso8583.specs.declared.message.Message.{Message}
pub use Rattle.iso8583.specs.declared.original_kind.OriginalKind.{OriginalKind}
pub use Rattle.iso8583.specs.declared.original_ref.OriginalRef.{OriginalRef}
pub use Rattle.iso8583.specs.declared.pan.Pan.{Pan}
pub use Rattle.iso8583.specs.declared.pan_prefix.PanPrefix.{PanPrefix}
pub use Rattle.iso8583.specs.declared.processing.Processing.{Processing}
pub use Rattle.iso8583.specs.declared.reply.Reply.{Reply}
pub use Rattle.iso8583.specs.declared.request.Request.{Request}
pub use Rattle.iso8583.specs.declared.reversal.Reversal.{Reversal}
pub use Rattle.iso8583.specs.declared.reversal_scope.ReversalScope.{ReversalScope}
pub use Rattle.iso8583.specs.declared.stan.Stan.{Stan}
pub use Rattle.iso8583.specs.declared.transaction.Transaction.{Transaction}
pub use Rattle.iso8583.specs.declared.verdict.Verdict.{Verdict}
pub use Rattle.issuer_rows.specs.AdviceTable.{accepted, accepted_writes, account_if_covered, acknowledged, advice_funds, advice_on_account, advice_on_card, advice_on_funds, advice_on_named, advice_on_original, answered_unkept, budget_by_mode, fresh_advice, kept_of_advice, marked_advice, reply_to_advice}
pub use Rattle.issuer_rows.specs.Agreement.{Agrees, AreRead, ComesTo, Executed, IsLocal, IsTrueExecution, Reads, keys_read}
pub use Rattle.issuer_rows.specs.Backing.{account_paid, available_in, backing_of_account, backing_of_prefix, budget_paid, is_account, is_budget, is_from_account, is_from_budget, kept_in, left_in, stay_if, stays}
pub use Rattle.issuer_rows.specs.Book.{AllOfKind, IsWithin}
pub use Rattle.issuer_rows.specs.CardAccounts.{AccountsOfCard, account_of, is_same_account, is_second}
pub use Rattle.issuer_rows.specs.Decision.{plan_of}
unfoldable pub use Rattle.issuer_rows.specs.Decision.{decision}
pub use Rattle.issuer_rows.specs.Expiry.{IsExpiry}
pub use Rattle.issuer_rows.specs.Facts.{day_of, identity_of, is_marked, is_of_same, is_same_card, is_same_currency, is_same_identity, is_same_kind, month_of, prefix_of}
pub use Rattle.issuer_rows.specs.Fold.{Rows, overlay, replies_to, reply_of, rows_after, rows_after_one, writes_of}
pub use Rattle.issuer_rows.specs.FrameFault.{IsOfFrame, fault_body}
pub use Rattle.issuer_rows.specs.Funds.{balance_of, key_of_funds, paid_by, payer_of, row_of_funds, with_balance}
pub use Rattle.issuer_rows.specs.Kept.{KeptOriginal, action_of_outcome, approval_of_outcome, kind_of_outcome, payment_of_outcome, reversal_of_outcome, settled, settled_outcome, settled_payment, stay_of, stay_of_payment, stay_of_settlement}
pub use Rattle.issuer_rows.specs.Plan.{Decided, Look, Lookup, Plan, Writes, after_look, carried_out}
pub use Rattle.issuer_rows.specs.RequestTable.{account_funds, approval_code, approved, approved_card, approved_writes, budget_funds, by_mode, declined_request, declined_unkept, fresh_request, is_unpermitted, kept_of_request, kept_verdict, marked_request, on_account, on_card, on_funds, on_original, on_usable, or_not_permitted, refused_by_limits, refused_by_status, refused_unseen, reply_to_request, request_funds, spent_more, unless_refused, unless_status, usable_account}
pub use Rattle.issuer_rows.specs.ReversalTable.{advice_back, by_kind, by_payer, count_left, day_is_short, day_key, difference, given_back, greatest_balance, is_named, is_overfull, is_wrong_part, marked_ahead, on_original_day, on_paid, on_payment, on_reversal, on_reversed, original_put, refunded, reply_to_reversal, request_back, reversal_plan, reversed_advice, reversed_original, spent_less, takes_approval, unchanged}
pub use Rattle.issuer_rows.specs.RowKey.{key_cmp, key_eq, kind_of, text_cmp, text_eq, texts_cmp}
pub use Rattle.issuer_rows.specs.RowVal.{IsOfKind, kind_of_value}
pub use Rattle.issuer_rows.specs.Typed.{account_in, budget_in, card_in, original_in, spent_in, velocity_in}
pub use Rattle.issuer_rows.specs.declared.account_row.AccountRow.{AccountRow}
pub use Rattle.issuer_rows.specs.declared.budget_mode.BudgetMode.{BudgetMode}
pub use Rattle.issuer_rows.specs.declared.budget_row.BudgetRow.{BudgetRow}
pub use Rattle.issuer_rows.specs.declared.card_row.CardRow.{CardRow}
pub use Rattle.issuer_rows.specs.declared.card_status.CardStatus.{CardStatus}
pub use Rattle.issuer_rows.specs.declared.frame.Frame.{Frame}
pub use Rattle.issuer_rows.specs.declared.funds.Funds.{Funds}
pub use Rattle.issuer_rows.specs.declared.mark.Mark.{Mark}
pub use Rattle.issuer_rows.specs.declared.original_outcome.OriginalOutcome.{OriginalOutcome}
pub use Rattle.issuer_rows.specs.declared.original_row.OriginalRow.{OriginalRow}
pub use Rattle.issuer_rows.specs.declared.payer.Payer.{Payer}
pub use Rattle.issuer_rows.specs.declared.payment.Payment.{Payment}
pub use Rattle.issuer_rows.specs.declared.reply_body.ReplyBody.{ReplyBody}
pub use Rattle.issuer_rows.specs.declared.row_key.RowKey.{RowKey}
pub use Rattle.issuer_rows.specs.declared.row_val.RowVal.{RowVal}
pub use Rattle.issuer_rows.specs.declared.settlement.Settlement.{Settlement}
pub use Rattle.issuer_rows.specs.declared.velocity_row.VelocityRow.{VelocityRow}
