use Rattle.std.proofs.Common.{inl, List, OnOk, subst}
use Rattle.std.specs.Io.KnownBytes.{Appends}
use Rattle.app_parts.specs.Told.{count_lines}
use Rattle.app_parts_folder.specs.declared.part_count.PartCount.{PartCount}
use Rattle.app_parts.proofs.Said.{said_or_not}
use Rattle.app_parts.proofs.telling.answer_part.Goals as goal

pub returns-in-Ok-clause-answered : goal.returns-in-Ok-clause-answered
returns-in-Ok-clause-answered g c =
    let before = g.O.Write.contents c.args.out.now in
    let after = g.O.Write.contents c.say_counts.new.out in
    let lines : OnOk c.say_counts.result (Appends before after (count_lines 0 c.in-Ok.counts.items)) =
    subst (λ (items : List PartCount). OnOk c.say_counts.result (Appends before after (count_lines 0 items))) c.deref.ensures.value c.say_counts.ensures in
    inl (c.in-Ok.counts.items, c.in-Ok.ensures.parted, said_or_not before after (count_lines 0 c.in-Ok.counts.items) c.status_of.result c.say_counts.result c.status_of.ensures.bound c.status_of.ensures.done lines)
