-- Originals that were decided, from what was read first of their entries.
use Rattle.std.specs.Prelude.{Result, Ok, codes}
use Rattle.iso8583.specs.declared.identity.Identity.{Identity}
use Rattle.serde_json.specs.Data.{Data}
use Rattle.book_laws.specs.Fields.{amount_at, optional_identity_at, paid_at, pan_at, processing_at, stamp_at, stan_at}
use Rattle.book_laws.specs.Steps.{◌>>=◌}
use Rattle.book_laws.specs.declared.book_version.BookVersion.{BookVersion}
use Rattle.book_laws.specs.declared.text_fault.TextFault.{TextFault}
use Rattle.book_laws.specs.declared.original_entry.OriginalEntry.{OriginalEntry}
use Rattle.book_laws.specs.declared.part.Part.TheVariants as part
use Rattle.book_entries.specs.declared.originals.OriginalFront.{OriginalFront}

-- an identity and its original: what was read first, and then the fields behind it
abbrev pub original_from : BookVersion → Result OriginalFront TextFault → Data → Result (Identity × OriginalEntry) TextFault
original_from version read entry = do
  front ← read
  paid ← paid_at version part.Originals (codes "paid") entry
  pan ← pan_at part.Originals (codes "pan") entry
  processing ← processing_at part.Originals (codes "processing") entry
  reversed ← optional_identity_at part.Originals (codes "reversed") entry
  stamp ← stamp_at part.Originals (codes "stamp") entry
  stay ← amount_at part.Originals (codes "stay") entry
  stan ← stan_at part.Originals (codes "trace") entry
  Ok (
    record { acquirer = front.acquirer; stan = stan; stamp = stamp },
    record {
      account = front.account;
      action = front.action;
      amount = front.amount;
      approval = front.approval;
      kind = front.kind;
      paid = paid;
      pan = pan;
      processing = processing;
      reversed = reversed;
      stay = stay;
    },
  )
