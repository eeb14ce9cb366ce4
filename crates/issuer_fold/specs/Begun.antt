-- How far a batch is decided.
use Rattle.std.specs.Prelude.{◌≡◌, ℕ, ◌+◌, ◌≤◌, ◌++◌, List, length, take}
use Rattle.issuer_words.specs.Words.{Frame, replies_to, rows_after}
use Rattle.issuer_fold.specs.declared.prefix.Prefix.{Prefix}

-- the first of these bodies are decided, so many: the prefix has them besides, with the book after them, and their replies behind its own
pub record AreDecided (old new : Prefix) (bodies : List Frame) (decided : ℕ) : Type 0 where
  pub within : decided ≤ length bodies
  pub count : new.count ≡ old.count + decided
  pub book : new.book ≡ rows_after old.book (take decided bodies)
  pub replies : new.replies.items ≡ old.replies.items ++ replies_to old.book (take decided bodies)
