use Rattle.iso_encoder.proofs.Joining.{both}
use Rattle.iso_encoder.proofs.encoding.put_elements.Goals as goal

pub returns : goal.returns
returns c =
    both c.put_front.ensures (both c.put_function.ensures (both c.put_original_amount.ensures (both c.put_references.ensures (both c.put_approval.ensures
    (both c.put_action.ensures (both c.put_ends.ensures (both c.put_original.ensures c.put_account.ensures)))))))
