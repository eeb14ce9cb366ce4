use Rattle.book_text.proofs.Plain.{digits_plain}
use Rattle.book_text.proofs.field_writers.expiry_field.Goals as goal

pub text_member-requires : goal.text_member-requires
text_member-requires c = digits_plain c.as_slice.result.now c.as_slice.ensures.month.1
