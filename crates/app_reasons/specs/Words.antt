-- What a person is told of a fault.
use Rattle.std.specs.Prelude.{◌≡◌, ℕ, List, [], ◌++◌, Option, Some, None, codes, decimal}
use Rattle.issuer_words.specs.Words.{element_of_fault, fixed_digits, number_of_fault}
use Rattle.iso_shown.specs.declared.opening.Opening.{Opening}
use Rattle.iso_shown.specs.declared.opening.Opening.TheVariants.{Mti, LengthHeader, Tpdu, Ebcdic, Bcd}
use Rattle.book_places.specs.Words.{book_words}
use Rattle.file_devices.specs.HostReason.{host_text}
use Rattle.file_laws.specs.declared.log_fault.LogFault.{LogFault}
use Rattle.file_laws.specs.declared.log_fault.LogFault.TheVariants as log
use Rattle.file_listing.specs.declared.block_place.BlockPlace.{BlockPlace}
use Rattle.file_listing.specs.declared.body_place.BodyPlace.{BodyPlace}
use Rattle.file_listing.specs.declared.head_fault.HeadFault.{HeadFault}
use Rattle.file_listing.specs.declared.head_fault.HeadFault.TheVariants as head
use Rattle.file_listing.specs.declared.wrong_block.WrongBlock.{WrongBlock}
use Rattle.file_listing.specs.declared.wrong_block.WrongBlock.TheVariants as wrong_block
use Rattle.file_listing.specs.declared.wrong_body.WrongBody.{WrongBody}
use Rattle.file_listing.specs.declared.wrong_body.WrongBody.TheVariants as wrong
use Rattle.app_reasons.specs.OneLine.{shown}
use Rattle.app_reasons.specs.Says.{letters_of}
use Rattle.app_reasons.specs.declared.file_kind.FileKind.{FileKind}
use Rattle.app_reasons.specs.declared.file_kind.FileKind.TheVariants as kind
use Rattle.app_reasons.specs.declared.head_words.HeadWords.{HeadWords}
use Rattle.app_reasons.specs.declared.line_reason.LineReason.{LineReason}
use Rattle.app_reasons.specs.declared.line_reason.LineReason.TheVariants as line
use Rattle.app_reasons.specs.declared.reason.Reason.{Reason}
use Rattle.app_reasons.specs.declared.reason.Reason.TheVariants as reason
use Rattle.app_reasons.specs.declared.unread_words.UnreadWords.{UnreadWords}

-- what a file is
abbrev pub kind_words : FileKind → List ℕ
kind_words kind.Batch = codes "a batch"
kind_words kind.Replies = codes "replies of a batch"
kind_words kind.Blocks = codes "blocks"
kind_words kind.BlockReplies = codes "replies of blocks"

-- what its head announces, and how many of it are allowed
abbrev pub limit_words : FileKind → List ℕ
limit_words kind.Batch = codes "bodies, where at most 65536 are allowed"
limit_words kind.Replies = codes "bodies, where at most 65536 are allowed"
limit_words kind.Blocks = codes "blocks, where at most 1000 are allowed"
limit_words kind.BlockReplies = codes "blocks, where at most 1000 are allowed"

-- what is wrong with a head
abbrev head_at : FileKind → Option FileKind → HeadFault → List ℕ
head_at to_be (Some found) head.Letters =
    codes "it begins with " ++ letters_of found ++ codes ", the letters of " ++ kind_words found ++ codes ", where " ++ letters_of to_be ++ codes " is to be"
head_at to_be None head.Letters = codes "it doesn't begin with " ++ (letters_of to_be ++ (codes ", the letters of " ++ kind_words to_be))
head_at to_be found (head.Version version) = codes "byte 4: version " ++ decimal version ++ codes ", where 1 is read"
head_at to_be found (head.TooMany count) = codes "byte 6: " ++ decimal count ++ codes " " ++ limit_words to_be
head_at to_be found head.Ends = codes "it ends within its head, which has 10 bytes"

abbrev pub head_words : HeadWords → List ℕ
head_words words = head_at words.kind words.found words.wrong

-- what is wrong with the body of this number, of so many, whose length begins at this byte
abbrev body_at : ℕ → ℕ → ℕ → WrongBody → List ℕ
body_at number of at (wrong.Length size) =
    codes "body " ++ decimal number ++ codes " at byte " ++ decimal at ++ codes ": length " ++ decimal size ++ codes ", where 1 to 512 is allowed"
body_at number of at wrong.Ends =
    codes "body " ++ decimal number ++ codes " at byte " ++ decimal at ++ codes ": the file ends within it, " ++ decimal number ++ codes " of " ++ decimal of
    ++ codes " bodies are whole"
body_at number of at wrong.NoReply =
    codes "body " ++ decimal number ++ codes " at byte " ++ decimal at ++ codes ": the text of no reply and of no fault"

abbrev pub body_words : BodyPlace → List ℕ
body_words place = body_at place.number place.of place.at place.wrong

-- what is wrong with a block
abbrev block_at : ℕ → ℕ → ℕ → WrongBlock → List ℕ
block_at number of at (wrong_block.TooMany count) =
    codes "block " ++ (decimal number ++ (codes " at byte " ++ (decimal at ++ (codes ": " ++ (decimal count ++ codes " bodies, where at most 65536 are allowed")))))
block_at number of at wrong_block.Ends =
    codes "block " ++ (decimal number ++ (codes " at byte " ++ (decimal at ++ (codes ": the file ends within its count, " ++ (decimal number
    ++ (codes " of " ++ (decimal of ++ codes " blocks are whole")))))))
block_at number of at (wrong_block.Body place) = codes "block " ++ decimal number ++ codes ", " ++ body_words place

abbrev pub block_words : BlockPlace → List ℕ
block_words place = block_at place.number place.of place.at place.wrong

-- how a body begins, where that is no MTI in ASCII
abbrev pub opening_words : Option Opening → List ℕ
opening_words None = []
opening_words (Some Mti) = []
opening_words (Some LengthHeader) = codes ", begins with a length of two bytes, where an MTI is to be"
opening_words (Some Tpdu) = codes ", begins with a TPDU, where an MTI is to be"
opening_words (Some Ebcdic) = codes ", begins with an MTI in EBCDIC, where ASCII is to be"
opening_words (Some Bcd) = codes ", begins with an MTI in BCD, where ASCII is to be"

-- a body that is no message
abbrev pub unread_words : UnreadWords → List ℕ
unread_words words =
    codes "body " ++ decimal words.unread.number ++ codes " at byte " ++ decimal words.unread.at ++ codes ": F" ++ fixed_digits 2 (number_of_fault words.unread.fault)
    ++ fixed_digits 3 (element_of_fault words.unread.fault) ++ opening_words words.opening

-- what is wrong with a line of a text
abbrev pub line_words : LineReason → List ℕ
line_words (line.Character column) = codes "column " ++ decimal column ++ codes ": no hexadecimal digit"
line_words (line.Odd count) = decimal count ++ codes " digits, where two are a byte"
line_words (line.Long count) = decimal count ++ codes " bytes, where at most 512 are allowed"

-- what is wrong with a log, or why it isn't read
abbrev pub log_words : LogFault → List ℕ
log_words log.NoLog = codes "it doesn't begin with the head of a log, which has 38 bytes, the first of them I83L"
log_words log.Version = codes "byte 4: another version, where 1 is read"
log_words log.OtherBook = codes "byte 6: the digest of another book"
log_words log.InUse = codes "in use by another program"
log_words (log.Broken entries) = codes "behind " ++ decimal entries ++ codes " whole entries: no entry and no torn tail"
log_words log.Failed = codes "input or output failed"
log_words log.OutOfMemory = codes "out of memory"

-- why a file is not read, decided or written
abbrev pub reason_words : Reason → List ℕ
reason_words (reason.Host host) = host_text host
reason_words reason.InUse = codes "in use by another run"
reason_words (reason.Head words) = head_words words
reason_words (reason.Body words) = body_words words.0
reason_words (reason.Block words) = block_words words.0
reason_words (reason.Behind end more) = codes "byte " ++ (decimal end ++ (codes ": too many bytes behind the last body: " ++ decimal more))
reason_words (reason.Unread words) = unread_words words
reason_words (reason.Book place) = book_words place
reason_words (reason.JournalLine number) = codes "line " ++ decimal number ++ codes ": no entry of a journal"
reason_words (reason.JournalEntry number) = codes "entry " ++ decimal number ++ codes ": its decision asks for a row that isn't logged"
reason_words (reason.TextLine number why) = codes "line " ++ decimal number ++ codes ": " ++ line_words why
reason_words reason.TooManyLines = codes "more than 65536 bodies"
reason_words (reason.Log words) = log_words words.0
reason_words reason.TooManyMessages = codes "more than 65536000 messages"

-- the name and the reason
abbrev pub told_words : List ℕ → Reason → List ℕ
told_words name reason = name ++ codes ": " ++ reason_words reason

-- the same in one line
abbrev pub told_line : List ℕ → Reason → List ℕ
told_line name reason = shown (told_words name reason)

-- the line tells of the file of this name a reason that is one of it
abbrev pub IsLineOf : List ℕ → (List ℕ → Reason → Type 0) → List ℕ → Type 0
IsLineOf name is_of line = (reason : Reason) × is_of name reason × (line ≡ told_line name reason)
