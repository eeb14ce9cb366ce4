-- What an audit finds.
use Rattle.std.specs.Prelude.{◌≡◌, ◌≢◌, List, length}
use Rattle.issuer_words.specs.Words.{ReplyBody, Rows}
use Rattle.app_audit.specs.Difference.{IsFirstDifference, IsLeastDifference}
use Rattle.app_audit.specs.declared.audited.Audit.{Audit}
use Rattle.app_audit.specs.declared.audited.Audit.TheVariants.{Same, ReplyDiffers, CountDiffers, BookDiffers}

-- Beside the right replies and the right book: the number of replies is looked at first, then each reply from the first
-- on, then each row from the least key on.
abbrev pub Finds : List ReplyBody → Rows → List ReplyBody → Rows → Audit → Type 0
Finds replies book right_replies right_book Same = (replies ≡ right_replies) × (book ≡ right_book)
Finds replies book right_replies right_book CountDiffers = length replies ≢ length right_replies
Finds replies book right_replies right_book (ReplyDiffers place) = (length replies ≡ length right_replies) × IsFirstDifference replies right_replies place
Finds replies book right_replies right_book (BookDiffers key) = (replies ≡ right_replies) × IsLeastDifference book right_book key
