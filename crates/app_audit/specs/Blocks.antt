-- What an audit of blocks of bodies, decided one after another, finds.
use Rattle.std.specs.Prelude.{◌≡◌, ◌≢◌, ℕ, List, ◌∷◌, ◌++◌, length, map}
use Rattle.issuer_words.specs.Words.{ReplyBody, Rows}
use Rattle.app_audit.specs.Difference.{IsFirstDifference, IsLeastDifference}
use Rattle.app_audit.specs.declared.block_audit.BlockAudit.{BlockAudit}
use Rattle.app_audit.specs.declared.block_audit.BlockAudit.TheVariants.{Same, CountDiffers, ReplyDiffers, BookDiffers}

-- how many there are in each
abbrev pub counts : {X : Type 0} → List (List X) → List ℕ
counts blocks = map length blocks

-- Before this block all blocks of replies are right, and in it this reply is the first that isn't.
pub record IsFirstDifferenceInBlocks (replies right : List (List ReplyBody)) (block index : ℕ) : Type 0 where
  pub front : List (List ReplyBody)
  pub mine : List ReplyBody
  pub theirs : List ReplyBody
  pub my_rest : List (List ReplyBody)
  pub their_rest : List (List ReplyBody)
  pub are : replies ≡ front ++ mine ∷ my_rest
  pub are_right : right ≡ front ++ theirs ∷ their_rest
  pub place : block ≡ length front
  pub here : IsFirstDifference mine theirs index

-- Beside the right replies and the right book: the number of blocks and of replies in each is looked at first, then
-- each reply from the first block on, then each row from the least key on.
abbrev pub FindsInBlocks : List (List ReplyBody) → Rows → List (List ReplyBody) → Rows → BlockAudit → Type 0
FindsInBlocks replies book right_replies right_book Same = (replies ≡ right_replies) × (book ≡ right_book)
FindsInBlocks replies book right_replies right_book CountDiffers = counts replies ≢ counts right_replies
FindsInBlocks replies book right_replies right_book (ReplyDiffers block index) =
    (counts replies ≡ counts right_replies) × IsFirstDifferenceInBlocks replies right_replies block index
FindsInBlocks replies book right_replies right_book (BookDiffers key) = (replies ≡ right_replies) × IsLeastDifference book right_book key
