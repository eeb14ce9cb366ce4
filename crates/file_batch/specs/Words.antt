-- The words of batch files, of devices and of messages as bytes, from one place.
pub use Rattle.file_laws.specs.BatchFault.{failed_at, is_of_bytes, number_of_fault}
pub use Rattle.file_laws.specs.Blocks.{AreBlocks, AreBlocksOfReplies, AreReplyBlocks, FailsAmongReplies, FailsAsBlockReplies, FailsBehind, FailsInReplyBlock, InTurn, IsBlock, IsBlockFileOf, IsBlockReplyFileOf, IsFileInTurn, IsReplyBlock, all_messages, all_replies, block_replies_magic, block_replies_text, block_text, blocks_magic, blocks_text, replies_to_blocks, rows_after_blocks}
unfoldable pub use Rattle.file_laws.specs.Blocks.{block_at, block_count_at, block_head_at}
pub use Rattle.file_laws.specs.Files.{AreBodies, IsBody, batch_text, framed, replies_text, reply_text}
unfoldable pub use Rattle.file_laws.specs.Files.{head_text}
pub use Rattle.file_laws.specs.Frames.{AreFramesOf, GivesBatch, GivesFrames, IsBatchOf, IsFrameOf}
pub use Rattle.file_laws.specs.Reading.{Gives, batch_magic, ended, replies_magic, ◌>>=◌}
unfoldable pub use Rattle.file_laws.specs.Reading.{bodies_at, bodies_of, body_at, count_at, head_at}
pub use Rattle.file_laws.specs.Replies.{AreRepliesOf, AreReplyBodies, FailsAsReplies, FailsAt, GivesReplies, GivesReplyFile, IsReplyBody, IsReplyFileOf, IsReplyText}
pub use Rattle.file_laws.specs.declared.batch_fault.BatchFault.{BatchFault}
pub use Rattle.file_devices.specs.BatchNames.{Names, names_of}
pub use Rattle.file_devices.specs.Failing.{Failing}
pub use Rattle.file_devices.specs.Holding.{AreAsTheyWere, Holding, IsAsItWas, IsThere}
unfoldable pub use Rattle.file_devices.specs.Holding.{ArePlaced, HasOneNamed, IsNoneNamed}
pub use Rattle.file_devices.specs.declared.claim_fault.ClaimFault.{ClaimFault}
pub use Rattle.file_devices.specs.declared.read_fault.ReadFault.{ReadFault}
pub use Rattle.file_devices.specs.declared.write_fault.WriteFault.{WriteFault}
pub use Rattle.file_devices.specs.declared.written.Written.{Written}
pub use Rattle.iso_laws.specs.Replies.{reply_spelling}
