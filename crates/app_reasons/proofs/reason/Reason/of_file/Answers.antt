use Rattle.file_laws.specs.Blocks.{blocks_magic, block_replies_magic}
use Rattle.file_laws.specs.Reading.{batch_magic, replies_magic}
use Rattle.file_listing.specs.declared.body_kind.BodyKind.TheVariants.{Message, Reply}
use Rattle.app_reasons.proofs.reason.Reason.of_file.Goals as goal

pub returns-in-Some-clause-says : goal.returns-in-Some-clause-says
returns-in-Some-clause-says c = rw (c.in-Batch.is, c.fault.ensures) (c.of_bodies.ensures batch_magic Message c.in-Some.ensures.place)

pub returns-in-Some-place_in_replies-clause-says : goal.returns-in-Some-place_in_replies-clause-says
returns-in-Some-place_in_replies-clause-says c =
    rw (c.in-Replies.is, c.fault-in-Some-place_in_replies.ensures) (c.of_bodies-in-Some-place_in_replies.ensures replies_magic Reply c.in-Some-place_in_replies.ensures.place)

pub returns-in-Some-place_in_blocks-clause-says : goal.returns-in-Some-place_in_blocks-clause-says
returns-in-Some-place_in_blocks-clause-says c = rw (c.in-Blocks.is, c.fault-in-Some-place_in_blocks.ensures) (c.of_blocks.ensures blocks_magic Message c.in-Some-place_in_blocks.ensures.place)

pub returns-in-Some-place_in_block_replies-clause-says : goal.returns-in-Some-place_in_block_replies-clause-says
returns-in-Some-place_in_block_replies-clause-says c =
    rw (c.in-BlockReplies.is, c.fault-in-Some-place_in_block_replies.ensures) (c.of_blocks-in-Some-place_in_block_replies.ensures block_replies_magic Reply c.in-Some-place_in_block_replies.ensures.place)
