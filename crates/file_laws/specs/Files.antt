-- The bytes of batch files and reply files.
use Rattle.std.specs.Prelude.{◌≡◌, ◌≤◌, ℕ, List, ◌∷◌, ◌++◌, length}
use Rattle.std.specs.List.{flat_map, AllByRecursion}
use Rattle.byteorder.specs.Endian.{big_bytes}
use Rattle.iso_laws.specs.Replies.{reply_spelling}
use Rattle.issuer_words.specs.Words.{ReplyBody, fault_body}
use Rattle.issuer_rows.specs.declared.reply_body.ReplyBody.TheVariants.{Reply, Fault}
use Rattle.file_laws.specs.Reading.{batch_magic, replies_magic}

-- two bytes of its length, and the body
abbrev pub framed : List ℕ → List ℕ
framed body = big_bytes 2 (length body) ++ body

-- the letters, version 1, and how many bodies follow
unfoldable pub head_text : List ℕ → ℕ → List ℕ
head_text magic count = magic ++ big_bytes 2 1 ++ big_bytes 4 count

-- a batch file of these bodies
abbrev pub batch_text : List (List ℕ) → List ℕ
batch_text bodies = head_text batch_magic (length bodies) ++ flat_map framed bodies

-- 1 to 512 bytes
abbrev pub IsBody : List ℕ → Type 0
IsBody body = (1 ≤ length body) × (length body ≤ 512)

-- the bodies that a file can have
abbrev pub AreBodies : List (List ℕ) → Type 0
AreBodies bodies = (length bodies ≤ 65536) × AllByRecursion IsBody bodies

-- the bytes are a batch file, and these are its bodies
abbrev pub IsBatch : List ℕ → List (List ℕ) → Type 0
IsBatch bytes bodies = AreBodies bodies × (bytes ≡ batch_text bodies)

-- a reply's body: `R` and its spelling, or how a fault is answered
abbrev pub reply_text : ReplyBody → List ℕ
reply_text (Reply reply) = 82 ∷ reply_spelling reply
reply_text (Fault fault) = fault_body fault

-- a reply file of these replies
abbrev pub replies_text : List ReplyBody → List ℕ
replies_text replies = head_text replies_magic (length replies) ++ flat_map (λ reply. framed (reply_text reply)) replies

-- the bodies of lists of bodies, in order
abbrev pub all_bodies : List (List (List ℕ)) → List (List ℕ)
all_bodies lists = flat_map (λ bodies. bodies) lists
