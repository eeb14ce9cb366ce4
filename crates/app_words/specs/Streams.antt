-- What `-` is in place of a file's name on the command line: standard input where the file is read, standard output where it is written.
use Rattle.std.specs.Prelude.{ℕ, ◌+◌, ◌%◌, Bool, false, ◌&&◌, ◌||◌, not, nat_eq, nat_le, if◌then◌else◌, List, [], ◌∷◌, codes, take}
use Rattle.std.specs.Str.{bytes_eq}

-- an option, as `--workers`
abbrev pub is_option : List ℕ → Bool
is_option word = bytes_eq (take 2 word) (codes "--")

-- an option of how a batch is decided that the next word belongs to, as the 4 of `--workers 4`
abbrev pub chooses_engine : List ℕ → Bool
chooses_engine word = bytes_eq word (codes "--workers") || bytes_eq word (codes "--engine") || bytes_eq word (codes "--max-batch")

-- an option of what else is written or looked for that the next word belongs to
abbrev pub names_more : List ℕ → Bool
names_more word =
    bytes_eq word (codes "--journal") || bytes_eq word (codes "--html") || bytes_eq word (codes "--trace") || bytes_eq word (codes "--card")
    || bytes_eq word (codes "--stats")

-- an option that the next word belongs to
abbrev pub has_value : List ℕ → Bool
has_value word = chooses_engine word || names_more word

-- of so many names behind this command it writes the file of the one at this place: the last of `pack`; REPLIES and NEWBOOK; NEWBOOK and
-- OLD; of `join`, too, which has FOLDER alone before them; and of `serve` each second one, as the OUT of a link
abbrev pub writes : List ℕ → ℕ → ℕ → Bool
writes command count place =
    if bytes_eq command (codes "pack") then nat_eq (place + 1) count
    else (if bytes_eq command (codes "join") then nat_le 1 place
    else (if bytes_eq command (codes "serve") then nat_eq (place % 2) 1
    else (nat_le 2 place
    && (bytes_eq command (codes "serial") || bytes_eq command (codes "run") || bytes_eq command (codes "blocks") || bytes_eq command (codes "replay")
    || bytes_eq command (codes "archive")))))

-- how many names are among the words behind a command; the first word is an option's value, where that is said
unfoldable pub names : Bool → List (List ℕ) → ℕ
names is_value [] = 0
names is_value (word ∷ words) =
    if is_value then names false words else (if is_option word then names (has_value word) words else 1 + names false words)

-- the name of standard output, or of standard input
abbrev pub stream : Bool → List ℕ
stream is_written = if is_written then codes "/dev/stdout" else codes "/dev/stdin"

-- the name at this place: `-` is a stream of the process
abbrev pub named : List ℕ → ℕ → ℕ → List ℕ → List ℕ
named command count place word = if bytes_eq word (codes "-") then stream (writes command count place) else word

-- an option whose value is a file's name
abbrev pub names_file : List ℕ → Bool
names_file option = bytes_eq option (codes "--journal") || bytes_eq option (codes "--html")

-- the value of an option: for `-` a stream, where it names a file, which `audit` reads and others write
abbrev pub valued : List ℕ → List ℕ → List ℕ → List ℕ
valued command option word =
    if bytes_eq word (codes "-") && names_file option then stream (not (bytes_eq command (codes "audit"))) else word

-- The words behind a command, with streams by their names; so many names are behind the command, so many of them before these words. The
-- word directly before them is this one, where it is an option.
unfoldable pub streamed : List ℕ → ℕ → ℕ → List ℕ → List (List ℕ) → List (List ℕ)
streamed command count place option [] = []
streamed command count place option (word ∷ words) =
    if has_value option then valued command option word ∷ streamed command count place [] words
    else (if is_option word then word ∷ streamed command count place word words
    else named command count place word ∷ streamed command count (place + 1) [] words)

-- the same of a command and the words behind it
unfoldable pub streamed_command : List (List ℕ) → List (List ℕ)
streamed_command [] = []
streamed_command (command ∷ words) = command ∷ streamed command (names false words) 0 [] words

-- the same of all words, of which the first is the program's name
unfoldable pub with_streams : List (List ℕ) → List (List ℕ)
with_streams [] = []
with_streams (program ∷ words) = program ∷ streamed_command words
