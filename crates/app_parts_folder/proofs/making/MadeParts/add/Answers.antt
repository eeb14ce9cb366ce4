use Rattle.std.proofs.Common.{◌++◌, ◌∷◌, [], sym, ◌∙◌}
use Rattle.app_parts_folder.specs.Names.{part_name}
use Rattle.app_parts_folder.specs.Parting.{count_of_part, digests_of_part}
use Rattle.app_parts_folder.specs.declared.part_file.PartFile.TheVariants.{Book, Batch}
use Rattle.app_parts_folder.proofs.Parts.{back_more, each_more, texts_more}
use Rattle.app_parts_folder.proofs.making.MadeParts.add.Goals as goal

pub returns : goal.returns
returns c =
    let p = c.args.batch.now in
    let folder = c.args.folder.now in
    let part = c.args.part in
    let made = c.requires.made in
    let one = c.requires.next in
    record {
      texts = c.in_ok-push_part.ensures
          ∙ (λ i. made.texts i ++ record { name = part_name folder part Book; text = one.book i } ∷ record { name = part_name folder part Batch; text = one.batch i } ∷ [])
          ∙ sym (texts_more folder p part);
      digests = c.in_ok-push.ensures.items ∙ (λ i. made.digests i ++ one.digests i ∷ []) ∙ sym (each_more (digests_of_part p) part);
      counts = c.in_ok-push-2.ensures.items ∙ (λ i. made.counts i ++ one.count i ∷ []) ∙ sym (each_more (count_of_part p) part);
      back = back_more p part made.back one.back;
    }
