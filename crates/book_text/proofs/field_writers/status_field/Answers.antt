use Rattle.std.proofs.Common.{◌∙◌}
use Rattle.book_text.proofs.Plain.{status_plain}
use Rattle.book_text.proofs.field_writers.status_field.Goals as goal

pub text_member-requires : goal.text_member-requires
text_member-requires c = rw (c.as_bytes.ensures.value ∙ c.status_word.ensures) (status_plain c.args.status)
