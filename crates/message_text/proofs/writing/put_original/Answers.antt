use Rattle.std.proofs.Common.{rules, ◌∙◌, ap, length, sym}
use Rattle.message_text.proofs.ElementMembers.{original_written}
use Rattle.message_text.proofs.writing.put_original.Goals as goal

pub returns : goal.returns
returns c =
    rw (original_written c.args.original.now (ap length (sym c.as_str-stan.ensures.text) ∙ c.as_str-stan.ensures.len) (ap length (sym c.as_str-stamp.ensures.text) ∙ c.as_str-stamp.ensures.stamp.0))
    (search rules)
