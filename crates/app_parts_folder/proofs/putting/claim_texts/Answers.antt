use Rattle.std.proofs.Common.{Err, ap}
use Rattle.std.proofs.lemmas.Result.{err_from_is_err_and}
use Rattle.file_devices.specs.declared.claim_fault.ClaimFault.{ClaimFault}
use Rattle.app_parts_folder.specs.Texts.{texts_of}
use Rattle.app_parts_folder.proofs.PutTexts.{one_of, unclaimed}
use Rattle.app_parts_folder.proofs.putting.claim_texts.Goals as goal

pub returns-in_err-claim : goal.returns-in_err-claim
returns-in_err-claim g c =
    let p = err_from_is_err_and c.from_residual-in_err-claim.result c.from_residual-in_err-claim.ensures.1 in
    record {
      fault = rw (p.1, p.2) (unclaimed (g.F.Files.failing c.args.files.now) (texts_of c.args.texts.now) c.in_err-claim.field-0.0
          (λ is. one_of (g.F.Files.failing c.args.files.now).in_use c.args.texts.now c.loop-text.text-index c.text-item.result c.loop-text-test.true c.text-item.is
          (rw c.as_str.ensures.value at (c.in_err-claim.ensures.in_use (ap (λ (e : ClaimFault). Err e) is)))));
    }
