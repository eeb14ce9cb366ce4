-- What is written of an original is read again.
use Rattle.std.proofs.Common.{◌≡◌, Option, Some, None, Ok, refl, lt-ltb, le-leb, eq-eqb, arith}
use Rattle.iso8583.proofs.NumberLaws.{number_of-fixed_digits}
use Rattle.issuer_words.specs.Words.{Identity, KeptOriginal, Payer, Payment, payment_of_outcome}
use Rattle.issuer_rows.specs.declared.payer.Payer.TheVariants as payer
use Rattle.issuer_rows.specs.declared.row_key.RowKey.TheVariants as key
use Rattle.issuer_rows.specs.declared.row_val.RowVal.TheVariants as val
use Rattle.serde_json.proofs.Numbers.{number_of-decimal}
use Rattle.serde_json.specs.Read.{of_json}
use Rattle.serde_json.specs.Written.{outline}
use Rattle.book_laws.specs.Originals.{original_entry_of, original_of, kept_of, entry_of_kept, paid_by, paid_of_payment}
use Rattle.book_laws.specs.Ranges.{IsOriginalEntry}
use Rattle.book_laws.specs.Text.{ReadsBack, original_data}
use Rattle.book_laws.specs.Words.{paid_word, account_paid_of}
use Rattle.book_laws.specs.declared.book_version.BookVersion.TheVariants.{Three}
use Rattle.book_laws.specs.declared.original_entry.OriginalEntry.{OriginalEntry}
use Rattle.book_laws.specs.declared.row_list.RowList.TheVariants.{Originals}
use Rattle.book_laws.proofs.RowsAgain.{kind_again, account_id_value, approval_value, identity_value, account_id_depth, approval_depth, identity_depth, account_id_again, approval_again, identity_again}

original_value : (identity : Identity) (e : OriginalEntry) → IsOriginalEntry identity e → of_json (outline (original_data identity e)) ≡ Some (original_data identity e)
original_value identity e h =
    rw (
      account_id_value e.account,
      number_of-decimal e.amount (omega (arith, h.amount)),
      approval_value e.approval,
      identity_value e.reversed,
      number_of-decimal e.stay (omega (arith, h.stay)),
    ) refl

original_entry_again : (identity : Identity) (e : OriginalEntry) → IsOriginalEntry identity e → account_paid_of (paid_word e.paid) ≡ Some e.paid
    → original_entry_of Three (original_data identity e) ≡ Ok (identity, e)
unfolding original_entry_of
original_entry_again identity e h paid =
    rw (
      account_id_again _ e.account h.account,
      le-leb _ _ h.named.acquirer.0,
      le-leb _ _ h.named.acquirer.1,
      h.named.acquirer.2,
      eq-eqb _ _ h.digits.len,
      h.digits.digits,
      number_of-fixed_digits 3 e.action h.action,
      lt-ltb _ _ h.amount,
      approval_again _ e.approval h.approval,
      kind_again e.kind,
      paid,
      le-leb _ _ h.pan.0,
      le-leb _ _ h.pan.1,
      h.pan.2,
      eq-eqb _ _ h.processing.len,
      h.processing.digits,
      identity_again _ e.reversed h.reversed,
      eq-eqb _ _ h.named.stamp.0,
      h.named.stamp.1,
      h.named.stamp.2,
      lt-ltb _ _ h.stay,
      eq-eqb _ _ h.named.stan.len,
      h.named.stan.digits,
    ) refl

payer_again : (by : Payer) → account_paid_of (paid_word (paid_by by)) ≡ Some (paid_by by)
payer_again (payer.Account id) = refl
payer_again payer.Budget = refl

paid_again : (o : Option Payment) → account_paid_of (paid_word (paid_of_payment o)) ≡ Some (paid_of_payment o)
paid_again None = refl
paid_again (Some payment) = payer_again payment.payer

row_again : (identity : Identity) (e : OriginalEntry) (k : KeptOriginal) → original_entry_of Three (original_data identity e) ≡ Ok (identity, e) → kept_of e ≡ Some k
    → original_of Three (original_data identity e) ≡ Ok (key.Original identity, val.Kept k)
unfolding original_of
row_again identity e k read kept = rw (read, kept) refl

pub original_again : (identity : Identity) (k : KeptOriginal) → IsOriginalEntry identity (entry_of_kept k) → kept_of (entry_of_kept k) ≡ Some k → ReadsBack Originals (key.Original identity, val.Kept k)
original_again identity k h kept =
    let e = entry_of_kept k in record {
      value = original_value identity e h;
      depth = omega (arith, account_id_depth e.account, approval_depth e.approval, identity_depth e.reversed);
      entry = row_again identity e k (original_entry_again identity e h (paid_again (payment_of_outcome k.outcome))) kept;
    }
