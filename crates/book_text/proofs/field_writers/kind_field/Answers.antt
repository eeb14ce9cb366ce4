use Rattle.std.proofs.Common.{◌∙◌}
use Rattle.book_text.proofs.Plain.{kind_plain}
use Rattle.book_text.proofs.field_writers.kind_field.Goals as goal

pub text_member-requires : goal.text_member-requires
text_member-requires c = rw (c.as_bytes.ensures.value ∙ c.kind_word.ensures) (kind_plain c.args.kind)
