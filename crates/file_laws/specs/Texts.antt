-- The bytes of a log.
use Rattle.std.specs.Prelude.{ℕ, ◌-◌, ◌^◌, List, [], ◌∷◌, ◌++◌, length, codes}
use Rattle.std.specs.List.{flat_map}
use Rattle.byteorder.specs.Endian.{big_bytes}
use Rattle.sha2.specs.Sha256.{sha256}
use Rattle.file_laws.specs.Files.{framed}

-- the letters of a log, and version 1
abbrev pub log_letters : List ℕ
log_letters = codes "I83L"

abbrev pub log_version : List ℕ
log_version = 0 ∷ 1 ∷ []

-- the header: the letters, version 1, and the digest of the opening book's text
abbrev pub header_text : List ℕ → List ℕ
header_text book = log_letters ++ log_version ++ book

-- the payload of an entry: how many bodies, and each behind its length
unfoldable pub payload_text : List (List ℕ) → List ℕ
payload_text bodies = big_bytes 4 (length bodies) ++ flat_map framed bodies

-- the head of an entry: how many bytes its payload has, and that number with all its 32 bits turned
unfoldable pub entry_head : ℕ → List ℕ
entry_head size = big_bytes 4 size ++ big_bytes 4 (2 ^ 32 - 1 - size)

-- the digest before the first entry
abbrev pub first_digest : List ℕ → List ℕ
first_digest book = sha256 (header_text book)

-- the digest of an entry: over the digest before it, and its payload
abbrev pub next_digest : List ℕ → List (List ℕ) → List ℕ
next_digest before bodies = sha256 (before ++ payload_text bodies)

-- an entry of these bodies behind this digest: its head, its payload and its digest
abbrev pub entry_text : List ℕ → List (List ℕ) → List ℕ
entry_text before bodies = entry_head (length (payload_text bodies)) ++ payload_text bodies ++ next_digest before bodies

-- entries behind this digest
unfoldable pub entries_text : List ℕ → List (List (List ℕ)) → List ℕ
entries_text before [] = []
entries_text before (bodies ∷ entries) = entry_text before bodies ++ entries_text (next_digest before bodies) entries

-- the digest of the last of these entries behind this digest, or this one where there is none
unfoldable pub digest_after : List ℕ → List (List (List ℕ)) → List ℕ
digest_after before [] = before
digest_after before (bodies ∷ entries) = digest_after (next_digest before bodies) entries

-- the log of these entries, whose opening book's text has this digest
abbrev pub log_text : List ℕ → List (List (List ℕ)) → List ℕ
log_text book entries = header_text book ++ entries_text (first_digest book) entries

-- the last digest of this log
abbrev pub last_digest : List ℕ → List (List (List ℕ)) → List ℕ
last_digest book entries = digest_after (first_digest book) entries
