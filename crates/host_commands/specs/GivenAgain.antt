-- What a host gave, given again by a replay of its log.
use Rattle.std.specs.Prelude.{◌≡◌, List}
use Rattle.issuer_words.specs.Words.{Frame, Rows, replies_to}
use Rattle.file_laws.specs.Blocks.{all_replies, replies_to_blocks, rows_after_blocks}
use Rattle.link_frames.specs.Incoming.{Incoming, answers_of}
use Rattle.host_serving.specs.Deciding.{answers_to}
use Rattle.host_serving.specs.Entering.{book_of}
use Rattle.host_serving.specs.declared.host.Host.{Host}

-- The messages that a replay decides, in these blocks, are those that the host decided on its opening book. Their replies are the host's; as
-- frames of a link they are what its clients got, none for a body that is no message, beside the replies to whatever network management came
-- between them. The book after them is the host's.
pub record AreGivenAgain {G : Type 0} (opening : Rows) (messages decided : List Frame) (blocks : List (List Frame)) (host : Host G) : Type 0 where
  pub same : decided ≡ messages
  pub replies : all_replies (replies_to_blocks opening blocks) ≡ replies_to opening messages
  pub given : (incoming : List Incoming) → answers_of incoming (all_replies (replies_to_blocks opening blocks)) ≡ answers_to opening incoming messages
  pub book : rows_after_blocks opening blocks ≡ book_of host
