use Rattle.file_listing.proofs.OneMore.{AreMessages}
use Rattle.file_listing.proofs.search_unread.first_unread.Given as goal

-- so many bodies were read, and each is a message
abbrev pub invariant-loop-number : goal.invariant-loop-number
invariant-loop-number l = AreMessages l.file l.number l.at
