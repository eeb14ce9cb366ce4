-- Bodies that are decided on a book itself.
use Rattle.std.specs.Prelude.{◌≡◌, List}
use Rattle.issuer_words.specs.Words.{Frame, Rows, replies_to, rows_after}
use Rattle.issuer_fold.specs.Formers.{LeadsBack}
use Rattle.issuer_fold.specs.declared.in_place.InPlace.{InPlace}

-- these bodies were decided one after another on the book itself: it is the one after them, these are their replies, and what the rows
-- were leads back to the book before
pub record IsInPlace (opening : Rows) (bodies : List Frame) (after : Rows) (decided : InPlace) : Type 0 where
  pub book : after ≡ rows_after opening bodies
  pub replies : decided.replies.items ≡ replies_to opening bodies
  pub back : LeadsBack after decided.formers opening
