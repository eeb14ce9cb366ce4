use Rattle.std.proofs.Common.{◌∙◌}
use Rattle.book_text.proofs.Plain.{mode_plain}
use Rattle.book_text.proofs.field_writers.mode_field.Goals as goal

pub text_member-requires : goal.text_member-requires
text_member-requires c = rw (c.as_bytes.ensures.value ∙ c.mode_word.ensures) (mode_plain c.args.mode)
