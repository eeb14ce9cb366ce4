use Rattle.book_text.proofs.Plain.{alphanumeric_plain}
use Rattle.book_text.proofs.field_writers.approval_field.Goals as goal

pub text_member-requires : goal.text_member-requires
text_member-requires c = alphanumeric_plain c.as_slice.result.now c.as_slice.ensures.class
