-- Bodies that are decided, and what is written for them.
use Rattle.std.specs.Prelude.{◌≡◌, ℕ, List}
use Rattle.issuer_words.specs.Words.{Frame, Rows, replies_to, rows_after}
use Rattle.file_laws.specs.Frames.{AreFramesOf}
use Rattle.link_frames.specs.Incoming.{Incoming, answers_of}
use Rattle.host_serving.specs.Tally.{counted}
use Rattle.host_serving.specs.declared.decider.Decider.{Decider}

-- the new book is the one after these messages, decided one after another on the old one, and they are counted
pub record Follows (old new : Decider) (messages : List Frame) : Type 0 where
  pub book : new.prefix.book ≡ rows_after old.prefix.book messages
  pub tally : new.tally ≡ counted old.tally messages

-- the messages of these bodies were decided, and their replies are at hand
pub record Decides (bodies : List (List ℕ)) (old new : Decider) : Type 0 where
  pub messages : List Frame
  pub read : AreFramesOf bodies messages
  pub after : Follows old new messages
  pub replies : new.prefix.replies.items ≡ replies_to old.prefix.book messages

-- these bodies were decided last, on the book before them, and their replies are at hand
abbrev pub HasDecided : List (List ℕ) → Decider → Type 0
HasDecided bodies decider = (before : Decider) × Decides bodies before decider

-- what a link is given for all that came on it: the replies to these messages, decided one after another on this book, and those to network
-- management, in the order of the frames
abbrev pub answers_to : Rows → List Incoming → List Frame → List ℕ
answers_to book incoming messages = answers_of incoming (replies_to book messages)
