use Rattle.std.proofs.Common.{◌∙◌}
use Rattle.book_text.proofs.Plain.{paid_plain}
use Rattle.book_text.proofs.field_writers.paid_field.Goals as goal

pub text_member-requires : goal.text_member-requires
text_member-requires c = rw (c.as_bytes.ensures.value ∙ c.paid_word.ensures) (paid_plain c.args.paid)
